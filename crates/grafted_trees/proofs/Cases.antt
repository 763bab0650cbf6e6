-- Cases of grafting, as another program counts them from leaf sets: one list, one theorem.
use mathlib.Core.Path.{◌≡◌, refl}
use mathlib.Core.List.{List, [], ◌∷◌}
use Prim.Native.Nat.{ℕ}
use Rattle.trees.specs.Trees.{Tree, size, least, join, ordered}
use Rattle.trees.specs.Listings.{with_rows, subtree_at, tree_of, number_in, post_order, standard}
use Rattle.trees.proofs.Trees.{five_tree}
use Rattle.grafted_trees.specs.Grafts.{put_on, with_leaf, grafted}

-- a tree of seven leaves, by a listing that is not standard
abbrev seven_tree : Tree
seven_tree = tree_of 7 (5 ∷ 6 ∷ 2 ∷ 3 ∷ 4 ∷ 7 ∷ 8 ∷ 9 ∷ 1 ∷ 10 ∷ [])

cases_hold :
    ◌≡◌ {A = List (List ℕ)}
    (standard 6 (grafted 5 five_tree 1)
    ∷ standard 6 (grafted 5 five_tree 2)
    ∷ standard 6 (grafted 5 five_tree 3)
    ∷ standard 6 (grafted 5 five_tree 4)
    ∷ standard 6 (grafted 5 five_tree 5)
    ∷ standard 6 (grafted 5 five_tree 6)
    ∷ standard 6 (grafted 5 five_tree 7)
    ∷ standard 8 (grafted 7 seven_tree 6)
    ∷ standard 8 (grafted 7 seven_tree 7)
    ∷ standard 8 (grafted 7 seven_tree 8)
    ∷ standard 8 (grafted 7 seven_tree 11)
    ∷ [])
    ((1 ∷ 5 ∷ 3 ∷ 4 ∷ 2 ∷ 7 ∷ 6 ∷ 8 ∷ [])
    ∷ (2 ∷ 5 ∷ 3 ∷ 4 ∷ 6 ∷ 7 ∷ 1 ∷ 8 ∷ [])
    ∷ (3 ∷ 5 ∷ 6 ∷ 4 ∷ 2 ∷ 7 ∷ 1 ∷ 8 ∷ [])
    ∷ (4 ∷ 5 ∷ 3 ∷ 6 ∷ 2 ∷ 7 ∷ 1 ∷ 8 ∷ [])
    ∷ (3 ∷ 4 ∷ 6 ∷ 5 ∷ 2 ∷ 7 ∷ 1 ∷ 8 ∷ [])
    ∷ (3 ∷ 4 ∷ 2 ∷ 6 ∷ 7 ∷ 5 ∷ 1 ∷ 8 ∷ [])
    ∷ (3 ∷ 4 ∷ 2 ∷ 6 ∷ 1 ∷ 7 ∷ 8 ∷ 5 ∷ [])
    ∷ (2 ∷ 3 ∷ 6 ∷ 7 ∷ 5 ∷ 9 ∷ 4 ∷ 10 ∷ 8 ∷ 11 ∷ 1 ∷ 12 ∷ [])
    ∷ (2 ∷ 3 ∷ 8 ∷ 7 ∷ 5 ∷ 6 ∷ 4 ∷ 10 ∷ 9 ∷ 11 ∷ 1 ∷ 12 ∷ [])
    ∷ (2 ∷ 3 ∷ 5 ∷ 6 ∷ 9 ∷ 7 ∷ 4 ∷ 10 ∷ 8 ∷ 11 ∷ 1 ∷ 12 ∷ [])
    ∷ (2 ∷ 3 ∷ 5 ∷ 6 ∷ 4 ∷ 9 ∷ 8 ∷ 10 ∷ 1 ∷ 11 ∷ 12 ∷ 7 ∷ [])
    ∷ [])
unfolding standard ordered join least size post_order number_in with_rows subtree_at tree_of put_on with_leaf grafted
cases_hold = refl
