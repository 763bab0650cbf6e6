-- `name_checks::bytes_hash` meets its contract: the test of the bytes left equals the test of all, and what they make
-- of the hash so far is the hash of all.
use mathlib.Core.Path.{sym, ◌∙◌}
use native.Mathlib.Omega.{arith}
use Rattle.sheet_rules.specs.Sheets.{name_byte}
use Rattle.name_index.proofs.Parts.{every_turn, every_end, stops, goes_on}
use Rattle.name_index.proofs.Hashes.{hash_turn, hash_end, hash_failed, hash_passed}
use Rattle.name_checks.proofs.bytes_hash.Goals as goal

pub returns-then-not-is_name_byte : goal.returns-then-not-is_name_byte
returns-then-not-is_name_byte c =
    let turn = every_turn name_byte c.args.bytes.now c.loop-b.b-index (omega arith) in
    let bad = sym c.is_name_byte.ensures ∙ c.if-not-is_name_byte.true in
    hash_failed _ (sym (stops _ _ (sym turn ∙ c.loop-b.invariant.1) bad))

pub loop-b-preserved : goal.loop-b-preserved
loop-b-preserved c =
    let turn = every_turn name_byte c.args.bytes.now c.loop-b.b-index (omega arith) in
    let here = sym c.is_name_byte.ensures ∙ c.if-not-is_name_byte.false in
    let hashed = hash_turn c.args.bytes.now c.loop-b.b-index c.loop-b.hash (omega arith) in (
      c.hash_byte-hash.ensures.1,
      goes_on _ _ (sym turn ∙ c.loop-b.invariant.1) here,
      rw c.hash_byte-hash.ensures.0 (sym hashed ∙ c.loop-b.invariant.2),
    )

pub returns : goal.returns
returns c =
    let l = c.loop-b in
    let S = c.args.bytes.now in
    let over = c.loop-b-test.false in
    hash_passed _ (sym l.invariant.1 ∙ every_end name_byte S l.b-index over)
    (sym (hash_end S l.b-index l.hash over) ∙ l.invariant.2)
