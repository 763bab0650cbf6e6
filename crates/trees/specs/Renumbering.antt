-- Renumbering: the leaves of a tree get other numbers.
use Rattle.std.specs.Prelude.{ℕ}
use Rattle.trees.specs.Trees.{Tree, leaf, node}

-- each leaf k gets the number f k
unfoldable pub renumbered : (ℕ → ℕ) → Tree → Tree
renumbered f (leaf i) = leaf (f i)
renumbered f (node A B) = node (renumbered f A) (renumbered f B)
