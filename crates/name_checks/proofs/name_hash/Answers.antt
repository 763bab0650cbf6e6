-- `name_checks::name_hash` meets its contract: each test that fails makes the name bad, and the bytes decide last.
use mathlib.Core.Path.{◌≡◌}
use mathlib.Core.Logic.{inl, inr}
use Prim.Native.Nat.{◌+◌, ◌-◌}
use native.Mathlib.Omega.{arith}
use lib.ListN.{get_or}
use Rattle.sheet_rules.specs.Sheets.{name_at}
use Rattle.sheet_rules.proofs.Names.{good_late, good_past, good_empty, good_long, good_bytes}
use Rattle.name_index.proofs.Hashes.{hash_failed}
use Rattle.name_checks.proofs.name_hash.Goals as goal

pub returns-then-offset-at : goal.returns-then-offset-at
returns-then-offset-at c = hash_failed _ (good_late _ _ _ c.if-offset-at.true)

pub returns-then-many-eq0 : goal.returns-then-many-eq0
returns-then-many-eq0 c = hash_failed _ (elim c.then-many-eq0.either [
  | inl none ↦ good_empty _ _ _ (omega arith) (omega (arith, none))
  | inr long ↦ good_long _ _ _ (omega arith) (omega (arith, long))
])

pub returns-then-offset-from : goal.returns-then-offset-from
returns-then-offset-from c = hash_failed _ (good_past _ _ _ (omega arith))

pub returns : goal.returns
unfolding name_at
returns c =
    let a = c.args in
    let here = good_bytes a.sheet.now a.offset a.at (omega arith) (omega arith) (omega arith) (omega arith) in
    let many : a.at + 1 + c.from-many.result - (a.at + 1) ≡ get_or a.sheet.now a.at 0 = omega arith in
    rw (here, ← many) c.bytes_hash.ensures
