-- The standard listing of the grafted tree, at the front of an array: the tree that it stands for has the total gap of
-- the grafted tree.
use mathlib.Core.Path.{◌≡◌}
use mathlib.Core.Bool.{true}
use mathlib.Core.List.{List, ◌++◌}
use Prim.Native.Nat.{ℕ, ◌+◌, ◌-◌, ◌*◌, ◌≤◌}
use native.Mathlib.Omega.{arith}
use lib.ListN.{length, take}
use Rattle.limits.specs.declared.Kind.{Kind}
use Rattle.limits.specs.Limits.{IsLeafCount, scale_of}
use Rattle.trees.specs.Trees.{Tree, IsTree}
use Rattle.trees.specs.Listings.{KeepsRules, tree_of, standard}
use Rattle.trees.specs.Gaps.{total_gap}
use Rattle.trees.proofs.Rules.{listing_tree}
use Rattle.trees.proofs.FrontListings as fronts
use Rattle.trees.proofs.Gaps.{ordered_gap}
use Rattle.grafted_trees.specs.Grafts.{names_edge, grafted}
use Rattle.grafted_trees.proofs.Grafts.{grafted_tree}
use Rattle.look_answers.specs.Operations.{look_total}

module _ (n : ℕ) (l : List ℕ) (e : ℕ) (rows rest : List ℕ) (c : IsLeafCount n) (d : IsLeafCount (n + 1))
    (keeps : KeepsRules n l) (there : names_edge n e ≡ true)
    (put : rows ≡ standard (n + 1) (grafted n (tree_of n l) e) ++ rest) where
  abbrev G : Tree
  G = grafted n (tree_of n l) e

  is_tree : IsTree (n + 1) G
  is_tree = grafted_tree n (tree_of n l) c.0 (listing_tree n c l keeps) e there

  -- so many numbers the listing has
  longer : 2 * (n + 1 - 2) ≡ 2 * (n - 1)
  longer = omega arith

  pub front_fits : 2 * (n - 1) ≤ length rows
  front_fits = rw longer at (fronts.front_fits (n + 1) d G is_tree rows rest put)

  pub front_long : length (take (2 * (n - 1)) rows) ≡ 2 * (n - 1)
  front_long = rw longer at (fronts.front_long (n + 1) d G is_tree rows rest put)

  pub front_keeps : KeepsRules (n + 1) (take (2 * (n - 1)) rows)
  front_keeps = rw longer at (fronts.front_keeps (n + 1) d G is_tree rows rest put)

  pub front_total :
      (kind : Kind) (u : List ℕ)
      → total_gap (n + 1) (scale_of kind) u (tree_of (n + 1) (take (2 * (n - 1)) rows)) ≡ look_total kind n l u e
  unfolding look_total
  front_total kind u =
      rw (rw longer at (fronts.front_stands (n + 1) d G is_tree rows rest put))
      (ordered_gap (n + 1) (scale_of kind) u G)
