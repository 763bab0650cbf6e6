-- A text is read and names every leaf once: what is kept of it is one subtree, which has leaf 0, and whose top has two
-- parts.
use mathlib.Core.Path.{◌≡◌, sym}
use mathlib.Core.Bool.{Bool, true}
use mathlib.Core.List.{List, [], ◌∷◌}
use mathlib.Core.Option.{some}
use Prim.Native.Nat.{ℕ, ◌≤◌, ◌<◌}
use native.Mathlib.Omega.{arith}
use native.Mathlib.Decide.{ℕ_discrete}
use borrow.Author.Tests.{ne_eqb}
use Rattle.trees.specs.Trees.{node}
use Rattle.trees.specs.Listings.{subtree_at}
use Rattle.rerooted_rows.specs.inner.Joining.{copies, Stands, Accounted}
use Rattle.rerooted_rows.proofs.Finishing.{none_unseen}
use Rattle.newick_rules.specs.Drawings.{Drawing, Parts, more, bracket}
use Rattle.newick_rules.specs.Importing.{subtree, subtree_of_parts}
use Rattle.newick_reading.specs.inner.Joining.{numbers_of_opens, number_of_last, Keeps}

module _ (n : ℕ) (big : 3 ≤ n) (seen : ℕ → Bool) (all : (k : ℕ) → k < n → seen k ≡ true) (known : List (List ℕ))
    (p : Parts) (d : Drawing) (last m : ℕ) (rows chain : List ℕ)
    (K : Keeps known n [] (some (bracket (more p d))) [] last m rows chain seen) where
  -- its number is leaf 0's
  last_zero : last ≡ 0
  unfolding number_of_last numbers_of_opens copies
  last_zero = elim (ℕ_discrete 0 last) [
    | yes e ↦ sym e
    | no e ↦
        let at_zero = rw (ne_eqb 0 last e, none_unseen n big seen all 0) at (K.accounted.each_once 0) in
        absurd (omega (arith, at_zero, K.accounted.no_zero))
  ]

  pub whole_accounted : Accounted n m rows chain (0 ∷ []) seen
  unfolding number_of_last numbers_of_opens
  whole_accounted = rw last_zero at K.accounted

  pub whole_stands :
      Stands (subtree_at n rows) chain 0 (node (subtree_of_parts known p) (subtree known d))
  unfolding subtree
  whole_stands = rw last_zero at K.lasts
