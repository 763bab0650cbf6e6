-- What a change makes: a tree on as many leaves as are due, in which four leaves that stay are paired as before.
use mathlib.Core.Path.{◌≡◌}
use mathlib.Core.Bool.{true}
use Prim.Native.Nat.{ℕ}
use borrow.Author.Tests.{ltb-true}
use Rattle.limits.specs.Limits.{IsLeafCount}
use Rattle.trees.specs.Trees.{Tree, IsTree}
use Rattle.trees.specs.Listings.{tree_of, standard}
use Rattle.trees.specs.Tables.{table_of}
use Rattle.trees.proofs.Listings.{standard_stands}
use Rattle.trees.proofs.Tables.{ordered_table}
use Rattle.spanned_trees.proofs.Prunes.{pruned_tree}
use Rattle.grafted_trees.proofs.Grafts.{grafted_tree}
use Rattle.change_answers.specs.declared.Change.{Change}
use Rattle.change_answers.specs.declared.Change.TheVariants.{Graft, Prune}
use Rattle.change_answers.specs.Operations.{count_after, is_there, changed}

-- the changed tree is a tree on one leaf more, or one fewer
pub changed_tree :
    (n : ℕ) → IsLeafCount n → (T : Tree) → IsTree n T → (c : Change) → is_there n c ≡ true
    → IsTree (count_after n c) (changed n T c)
changed_tree n k T h (Graft e) t = grafted_tree n T k.0 h e t
changed_tree n k T h (Prune x) t = pruned_tree n T h x (ltb-true x n t) k.0

-- what its standard listing stands for has its table
pub standard_table :
    (n : ℕ) → IsLeafCount n → (T : Tree) → IsTree n T → table_of n (tree_of n (standard n T)) ≡ table_of n T
standard_table n k T h = rw (standard_stands n k T h) (ordered_table n T)
