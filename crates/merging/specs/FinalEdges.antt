-- The edges of the tree left by n − 1 merges, as 01 names them ("Counts and merges").
use Rattle.std.specs.Prelude.{◌≡◌, true, ℕ, ◌-◌, ◌*◌, length, get_or}
use mathlib.Core.List.{List, [], ◌∷◌, ◌++◌, map, drop_last}
use Rattle.base.specs.Lists.{tab, any_in, all_in}
use Rattle.trees.specs.Trees.{Tree, leaf, LeafSet, leaves, join}
use Rattle.trees.specs.Listings.{tree_of}
use Rattle.trees.specs.Edges.{edges, one_edge, is_edge}
use Rattle.merging.specs.Merging.{State, start, step}
use Rattle.merging.specs.MergeLists.{Pair, after, final_listing}

-- the subtrees that a list of merges makes, one after the other
unfoldable pub made : State → List Pair → List Tree
made S [] = []
made S (p ∷ L) = join (S.tree p.0) (S.tree p.1) ∷ made (step S p.0 p.1) L

-- each leaf, and each subtree made by a merge other than the last
unfoldable pub sides : ℕ → List Pair → List LeafSet
sides n L = map leaves (tab n leaf ++ drop_last (made start L))

-- the tree left by the list L of n − 1 merges has these edges
pub record FinalEdges (n : ℕ) (L : List Pair) : Type 0 where
  -- each leaf, and each subtree made by a merge other than the last, is one side of an edge
  pub each_is_a_side : all_in (is_edge n (tree_of n (final_listing n L))) (sides n L) ≡ true
  -- and there is no other edge
  pub no_other_edge : all_in (λ e. any_in (one_edge n e) (sides n L)) (edges (tree_of n (final_listing n L))) ≡ true
  pub so_many : length (edges (tree_of n (final_listing n L))) ≡ 2 * n - 3
  -- the two subtrees joined last are the two sides of the same edge
  pub joined_last :
      let S = after (drop_last L) in
      let p = get_or L (n - 2) (0, 0) in
      one_edge n (leaves (S.tree p.0)) (leaves (S.tree p.1)) ≡ true
