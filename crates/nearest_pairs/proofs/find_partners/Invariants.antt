-- `nearest_pairs::find_partners` meets its contract. The partner of every label, found one after the other.
use mathlib.Core.Path.{◌≡◌}
use Prim.Native.Nat.{◌≤◌}
use lib.ListN.{length}
use Rattle.limits.specs.Limits.{most_leaves}
use Rattle.nearest_pairs.proofs.Search.{PartnersTo}
use Rattle.nearest_pairs.proofs.find_partners.Given as goal

abbrev pub invariant-loop-i : goal.invariant-loop-i
invariant-loop-i l =
    (l.i ≤ l.n) × (length l.partners ≡ most_leaves) × PartnersTo l.n l.arrays.label l.arrays.sizes l.sums l.i l.partners
