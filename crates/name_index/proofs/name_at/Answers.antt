-- `name_index::name_at` meets its contract: a name has as many bytes as its length byte says.
use mathlib.Core.Path.{◌≡◌, refl}
use Prim.Native.Nat.{◌+◌, ◌-◌}
use native.Mathlib.Omega.{arith}
use lib.ListN.{get_or}
use Rattle.sheet_rules.specs.Sheets.{name_at}
use Rattle.name_index.proofs.name_at.Goals as goal

pub returns : goal.returns
unfolding name_at
returns c =
    let a = c.args in
    let many : a.at + 1 + c.from.result - (a.at + 1) ≡ get_or a.sheet.now a.at 0 = omega arith in
    rw many refl
