-- Pruning the leaf just grafted gives back the old tree: its standard listing and its table. The idea: of the old
-- leaves the two trees have the same pairings, and no two trees have.
use mathlib.Core.Path.{◌≡◌, sym, ◌∙◌}
use mathlib.Core.Bool.{true}
use Prim.Native.Nat.{ℕ, ◌+◌, ◌-◌, ◌<◌}
use native.Mathlib.Omega.{arith}
use borrow.Author.Tests.{le-ltb}
use Rattle.limits.specs.Limits.{IsLeafCount}
use Rattle.trees.specs.Trees.{Tree, IsTree, ordered}
use Rattle.trees.specs.Listings.{standard}
use Rattle.trees.specs.Tables.{table_of}
use Rattle.trees.proofs.Tables.{ordered_table}
use Rattle.spanned_trees.specs.Spans.{pruned, lowered}
use Rattle.spanned_trees.proofs.Prunes.{pruned_only}
use Rattle.grafted_trees.specs.Grafts.{names_edge, grafted}
use Rattle.grafted_trees.proofs.Grafts.{grafted_tree, grafted_paired}

-- the leaves before x keep their numbers
pub lowered_low : (x k : ℕ) → k < x → lowered x k ≡ k
unfolding lowered
lowered_low x k l = rw (le-ltb x k (omega arith))

module _ (n : ℕ) (c : IsLeafCount n) (T : Tree) (h : IsTree n T) (e : ℕ) (there : names_edge n e ≡ true) where
  pub pruned_grafted : ordered (pruned n (grafted n T e)) ≡ ordered T
  pruned_grafted =
      let G = grafted n T e in
      let one_less : n + 1 - 1 ≡ n = omega arith in
      sym (pruned_only (n + 1) G (grafted_tree n T c.0 h e there) n (omega arith) (omega (arith, c)) (rw one_less c)
      T (rw one_less h) (λ i j p q li lj lp lq di dj dp dq.
      let low : (k : ℕ) → k < n + 1 → (k ≡ n → ⊥) → k < n = λ k l d. omega arith in
      let a = low i li di in
      let b = low j lj dj in
      let f = low p lp dp in
      let g = low q lq dq in
      rw (lowered_low n i a, lowered_low n j b, lowered_low n p f, lowered_low n q g)
      (sym (grafted_paired n T e i j p q a b f g))))

  pub pruned_grafted_listing : standard n (pruned n (grafted n T e)) ≡ standard n T
  unfolding standard
  pruned_grafted_listing = rw pruned_grafted

  pub pruned_grafted_table : table_of n (pruned n (grafted n T e)) ≡ table_of n T
  pruned_grafted_table =
      sym (ordered_table n (pruned n (grafted n T e))) ∙ rw pruned_grafted (ordered_table n T)
