-- `nearest_pairs::renew_partners` meets its contract. After a merge every label has its partner again.
use mathlib.Core.Path.{◌≡◌}
use Prim.Native.Nat.{ℕ, ◌≤◌, ◌<◌}
use lib.ListN.{length, get_or}
use Rattle.limits.specs.Limits.{most_leaves}
use Rattle.nearest_pairs.proofs.Search.{PartnersTo}
use Rattle.nearest_pairs.proofs.renew_partners.Given as goal

abbrev pub invariant-loop-i : goal.invariant-loop-i
invariant-loop-i l =
    (length l.partners ≡ most_leaves) × PartnersTo l.n l.arrays.label l.arrays.sizes l.sums l.i l.partners
    × ((k : ℕ) → l.i ≤ k → k < l.n → get_or l.partners k 0 ≡ get_or l.initial.partners k 0)
