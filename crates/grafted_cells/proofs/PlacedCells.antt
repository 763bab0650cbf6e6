-- The cells of a tree with a subtree at a place: sums along the paths between its leaves, leaf 0 put on. Between leaves
-- of the subtree a cell is a sum inside it. From the subtree to a leaf elsewhere, cells differ by inner sums where
-- another subtree is put there; and between leaves elsewhere they are equal where the two subtrees are of one size.
use mathlib.Core.Path.{◌≡◌, sym, ◌∙◌}
use mathlib.Core.Logic.{◌≢◌}
use mathlib.Core.Bool.{true}
use Prim.Native.Nat.{ℕ, ◌+◌, ◌<◌}
use native.Mathlib.Omega.{arith}
use Rattle.base.proofs.Bools.{never}
use Rattle.trees.specs.Trees.{Tree, leaf, leaves, size, IsTree, ordered}
use Rattle.trees.specs.Quartets.{quartets}
use Rattle.trees.proofs.Trees.{size_leaf, size_node, Distinct, Within, tree_on, ordered_tree, root_within}
use Rattle.trees.proofs.Trees.{root_distinct, root_all, tree_size}
use Rattle.trees.proofs.Quartets.{ordered_quartets}
use Rattle.trees.proofs.BranchedPairs.{inner_sum}
use Rattle.trees.proofs.PathSums.{path_sum, count_formula}
use Rattle.grafted_cells.proofs.Places.{second, beside, Place, below, placed, elsewhere, here_in, elsewhere_in}
use Rattle.grafted_cells.proofs.Places.{elsewhere_out}
use Rattle.grafted_cells.proofs.PlaceSums.{path_sum_here, path_sum_out, path_sum_elsewhere}

-- the same place in the tree with leaf 0 put on
unfoldable pub from_zero : Place → Place
from_zero o = below second (leaf 0) o

-- the tree X on m leaves, leaf 0 put on and in standard order, has Z at the place o
pub record Stands (m : ℕ) (X : Tree) (o : Place) (Z : Tree) : Type 0 where
  pub distinct : Distinct (placed o Z)
  pub within : Within m (placed o Z)
  pub all : (k : ℕ) → k < m → leaves (placed o Z) k ≡ true
  pub many : size (placed o Z) ≡ m
  pub cells : (i j : ℕ) → i < m → j < m → i ≢ j → quartets m X i j ≡ path_sum m (placed o Z) i j

pub stands :
    (m : ℕ) (X : Tree) → 0 < m → IsTree m X → (o : Place) (Z : Tree) → placed o Z ≡ ordered X
    → Stands m X (from_zero o) Z
unfolding from_zero placed beside
stands m X z h o Z e =
    let is_tree : IsTree m (placed o Z) = rw e (ordered_tree m X h) in
    let w = tree_on m (placed o Z) is_tree in
    record {
      distinct = root_distinct m (placed o Z) w;
      within = root_within m (placed o Z) w z;
      all = root_all m (placed o Z) w;
      many =
          omega (arith, tree_size m (placed o Z) w z, size_node (leaf 0) (placed o Z), size_leaf 0);
      cells = λ i j li lj d.
          sym (ordered_quartets m X i j) ∙ rw (← e) (count_formula m (placed o Z) is_tree i j li lj d);
    }

-- The tree T has Z at the place o.
module _ {n : ℕ} {T : Tree} {o : Place} {Z : Tree} (old : Stands n T o Z) where
  pub cells_here :
      (i j : ℕ) → leaves Z i ≡ true → leaves Z j ≡ true → i ≢ j → quartets n T i j ≡ path_sum n Z i j
  cells_here i j p q d =
      old.cells i j (old.within i (here_in o Z i p)) (old.within j (here_in o Z j q)) d
      ∙ path_sum_here n o Z i j old.distinct p q

  -- from Z to a leaf elsewhere
  cells_to : (i k : ℕ) → leaves Z i ≡ true → elsewhere o k ≡ true → quartets n T i k ≡ path_sum n (placed o Z) i k
  cells_to i k p u =
      old.cells i k (old.within i (here_in o Z i p)) (old.within k (elsewhere_in o Z k u))
      (λ e. never p (rw e (elsewhere_out o Z k old.distinct u)))

-- and the tree X has Z' there
module _ {n n' : ℕ} {T X : Tree} {o : Place} {Z Z' : Tree} (old : Stands n T o Z) (new : Stands n' X o Z') where
  pub cells_out :
      (i i' k : ℕ) → n' + size Z ≡ n + size Z' → leaves Z i ≡ true → leaves Z' i' ≡ true → elsewhere o k ≡ true
      → quartets n' X i' k + inner_sum Z i ≡ quartets n T i k + inner_sum Z' i'
  cells_out i i' k sizes p p' u =
      rw (cells_to new i' k p' u, cells_to old i k p u)
      (path_sum_out Z Z' n n' o i i' k sizes old.distinct new.distinct p p' u)

-- as large as Z
pub cells_elsewhere :
    {n : ℕ} {T X : Tree} {o : Place} {Z Z' : Tree} → Stands n T o Z → Stands n X o Z' → size Z ≡ size Z' → (i j : ℕ)
    → elsewhere o i ≡ true → elsewhere o j ≡ true → i ≢ j → quartets n T i j ≡ quartets n X i j
cells_elsewhere {n} {o = o} {Z} {Z'} old new sizes i j u v d =
    let li = old.within i (elsewhere_in o Z i u) in
    let lj = old.within j (elsewhere_in o Z j v) in
    rw (old.cells i j li lj d, new.cells i j li lj d)
    (path_sum_elsewhere Z Z' sizes n o i j old.distinct new.distinct u v)
