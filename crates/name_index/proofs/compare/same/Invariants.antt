-- `name_index::compare::same` meets its contract: the test of the bytes left equals the test of all.
use mathlib.Core.Path.{◌≡◌}
use Prim.Native.Nat.{◌*◌}
use lib.ListN.{drop}
use Rattle.sheet_rules.specs.Sheets.{same}
use Rattle.name_index.proofs.compare.same.Given as goal

abbrev pub invariant-loop-e : goal.invariant-loop-e
invariant-loop-e l = same (drop (8 * l.e) l.s) (drop (8 * l.e) l.t) ≡ same l.s l.t

abbrev pub invariant-loop-k : goal.invariant-loop-k
invariant-loop-k l = same (drop l.k l.s) (drop l.k l.t) ≡ same l.s l.t
