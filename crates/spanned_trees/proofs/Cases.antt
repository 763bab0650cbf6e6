-- Cases of pruning and of spanned trees, computed: each leaf pruned of a tree of seven, and four spans of it.
use mathlib.Core.Path.{◌≡◌, refl}
use mathlib.Core.Bool.{Bool}
use mathlib.Core.List.{List, [], ◌∷◌}
use Prim.Native.Nat.{ℕ}
use lib.Dec.{eqb}
use Rattle.base.specs.Numbers.{count_below}
use Rattle.base.specs.Lists.{any_in}
use Rattle.trees.specs.Trees.{Tree, leaves, size, least, join, ordered}
use Rattle.trees.specs.Listings.{with_rows, subtree_at, tree_of, number_in, post_order, standard}
use Rattle.trees.specs.Rerooting.{reroot_along, rerooted}
use Rattle.trees.specs.Renumbering.{renumbered}
use Rattle.spanned_trees.specs.Spans.{meets, kept, rank, spanned, all_but, pruned}

-- a tree of seven leaves, by a listing that is not standard
seven : Tree
seven = tree_of 7 (5 ∷ 6 ∷ 2 ∷ 3 ∷ 4 ∷ 7 ∷ 8 ∷ 9 ∷ 1 ∷ 10 ∷ [])

-- the leaves of a list
of_list : List ℕ → ℕ → Bool
of_list l k = any_in (eqb k) l

cases_hold :
    ◌≡◌ {A = List (List ℕ)}
    (standard 6 (pruned 0 seven)
    ∷ standard 6 (pruned 1 seven)
    ∷ standard 6 (pruned 2 seven)
    ∷ standard 6 (pruned 3 seven)
    ∷ standard 6 (pruned 4 seven)
    ∷ standard 6 (pruned 5 seven)
    ∷ standard 6 (pruned 6 seven)
    ∷ standard 4 (spanned (of_list (0 ∷ 2 ∷ 4 ∷ 6 ∷ [])) seven)
    ∷ standard 5 (spanned (of_list (1 ∷ 3 ∷ 4 ∷ 5 ∷ 6 ∷ [])) seven)
    ∷ standard 3 (spanned (of_list (2 ∷ 5 ∷ 6 ∷ [])) seven)
    ∷ standard 3 (spanned (of_list (1 ∷ 2 ∷ 3 ∷ [])) seven)
    ∷ [])
    ((1 ∷ 2 ∷ 4 ∷ 5 ∷ 3 ∷ 7 ∷ 6 ∷ 8 ∷ [])
    ∷ (1 ∷ 2 ∷ 4 ∷ 5 ∷ 3 ∷ 7 ∷ 6 ∷ 8 ∷ [])
    ∷ (4 ∷ 5 ∷ 3 ∷ 6 ∷ 2 ∷ 7 ∷ 1 ∷ 8 ∷ [])
    ∷ (4 ∷ 5 ∷ 3 ∷ 6 ∷ 2 ∷ 7 ∷ 1 ∷ 8 ∷ [])
    ∷ (2 ∷ 3 ∷ 4 ∷ 5 ∷ 6 ∷ 7 ∷ 1 ∷ 8 ∷ [])
    ∷ (2 ∷ 3 ∷ 4 ∷ 5 ∷ 6 ∷ 7 ∷ 1 ∷ 8 ∷ [])
    ∷ (2 ∷ 3 ∷ 4 ∷ 5 ∷ 6 ∷ 7 ∷ 1 ∷ 8 ∷ [])
    ∷ (2 ∷ 3 ∷ 1 ∷ 4 ∷ [])
    ∷ (3 ∷ 4 ∷ 2 ∷ 5 ∷ 1 ∷ 6 ∷ [])
    ∷ (1 ∷ 2 ∷ [])
    ∷ (1 ∷ 2 ∷ [])
    ∷ [])
unfolding seven of_list standard ordered join least size leaves post_order number_in with_rows subtree_at tree_of
    reroot_along rerooted meets kept renumbered rank count_below any_in spanned all_but pruned
cases_hold = refl
