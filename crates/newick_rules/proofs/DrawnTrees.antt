-- A drawing as a subtree: a leaf stands in it as often as its name does in the drawing. So where each name is known and
-- each strain is named once, it is a tree on the n leaves, held at an edge.
use mathlib.Core.Path.{◌≡◌, ◌∙◌}
use mathlib.Core.Bool.{Bool, true}
use mathlib.Core.List.{List, [], ◌∷◌}
use Prim.Native.Nat.{ℕ, ◌<◌}
use native.Mathlib.Omega.{arith}
use native.Mathlib.Decide.{dec_lt}
use borrow.Author.Tests.{eqb-true, ne_eqb, lt-ltb, le-ltb}
use lib.Dec.{ltb, eqb}
use lib.ListN.{length, get_or}
use Rattle.base.specs.Numbers.{indicator}
use Rattle.base.specs.Lists.{any_in, all_in}
use Rattle.base.proofs.Bools.{and_both}
use Rattle.base.proofs.Counts.{indicator_add}
use Rattle.base.proofs.Lists.{every_both}
use Rattle.base.proofs.Searches.{all_at}
use Rattle.trees.specs.Trees.{leaf, occurrences}
use Rattle.trees.specs.Rerooting.{IsHeld}
use Rattle.sheet_rules.specs.Sheets.{same, leaf_named}
use Rattle.newick_rules.specs.Drawings.{Drawing, name, bracket, Parts, one, more, names_in, names_in_parts}
use Rattle.newick_rules.specs.Importing.{times_in, each_once, subtree, subtree_of_parts}
use Rattle.newick_rules.specs.Operations.{Strains}
use Rattle.newick_rules.proofs.Strains.{times_append, found_at, same_place}

module _ (n : ℕ) (names : List (List ℕ)) (s : Strains n names) where
  abbrev known : List ℕ → Bool
  known x = any_in (same x) names

  -- how often the name of leaf k stands among these
  abbrev times_named : ℕ → List (List ℕ) → ℕ
  times_named k l = indicator (ltb k n) (times_in l (get_or names k []))

  name_times :
      (x : List ℕ) → known x ≡ true → (k : ℕ) → occurrences k (leaf (leaf_named names x)) ≡ times_named k (x ∷ [])
  unfolding times_in occurrences
  name_times x h k = elim (dec_lt k n) [
    | yes l ↦ rw (lt-ltb k n l, ← same_place n names s k i l below, r.1) (omega arith)
    | no g ↦ rw (le-ltb k n (omega arith), ne_eqb k i (λ e. omega (arith, below)))
  ]
    where
      i : ℕ
      i = leaf_named names x

      r : (i < length names) × (get_or names i [] ≡ x)
      r = found_at names x h

      below : i < n
      below = rw s.many at r.0

  mutual
    unfolding names_in subtree times_in occurrences all_in

    pub leaf_times :
        (d : Drawing) → all_in known (names_in d) ≡ true → (k : ℕ)
        → occurrences k (subtree names d) ≡ times_named k (names_in d)
    leaf_times (name x) h k = name_times x (and_both (known x) true h).0 k
    leaf_times (bracket p) h k = leaf_times_in_parts p h k

    leaf_times_in_parts :
        (p : Parts) → all_in known (names_in_parts p) ≡ true → (k : ℕ)
        → occurrences k (subtree_of_parts names p) ≡ times_named k (names_in_parts p)
    leaf_times_in_parts (one d) h k = leaf_times d h k
    leaf_times_in_parts (more p d) h k =
        let b = every_both known (names_in_parts p) (names_in d) h in
        rw (leaf_times_in_parts p b.0 k, leaf_times d b.1 k, times_append, indicator_add)

  module _ (d : Drawing) (h : each_once names (names_in d) ≡ true) where
    pub drawn_held : IsHeld n (subtree names d)
    unfolding each_once
    drawn_held k =
        let l = names_in d in
        let b = and_both (all_in known l) (all_in (λ x. eqb (times_in l x) 1) names) h in
        leaf_times d b.0 k ∙ (elim (dec_lt k n) [
          | yes q ↦ rw (lt-ltb k n q)
              (eqb-true _ 1 (all_at (λ x. eqb (times_in l x) 1) [] names b.1 k (rw s.many q)))
          | no g ↦ rw (le-ltb k n (omega arith))
        ])
