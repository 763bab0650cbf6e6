-- The tree that some of the leaves span, and pruning (02, request 5), after which all leaves but one span the tree.
-- T is a tree as it hangs from leaf 0; which leaves stay is a leaf set v.
use Rattle.std.specs.Prelude.{◌≡◌, Bool, true, not, cond, ◌||◌, ℕ, ◌-◌, ◌<◌, ltb, eqb}
use Rattle.base.specs.Numbers.{count_below}
use Rattle.trees.specs.Trees.{Tree, leaf, node, LeafSet}
use Rattle.trees.specs.Rerooting.{rerooted}
use Rattle.trees.specs.Renumbering.{renumbered}

-- some leaf of the subtree stays
unfoldable pub meets : LeafSet → Tree → Bool
meets v (leaf i) = v i
meets v (node A B) = meets v A || meets v B

-- the subtree without the leaves that go: a node with nothing left on one side gives way to its other child
unfoldable pub kept : LeafSet → Tree → Tree
kept v (leaf i) = leaf i
kept v (node A B) = cond (meets v A) (cond (meets v B) (node (kept v A) (kept v B)) (kept v A)) (kept v B)

-- k is one of n leaves, and stays
abbrev pub Stays : ℕ → LeafSet → ℕ → Type 0
Stays n v k = (k < n) × (v k ≡ true)

-- leaves are renumbered in order: the new number of leaf k is the number of leaves before it that stay
unfoldable pub rank : LeafSet → ℕ → ℕ
rank v k = count_below k v

-- the tree that the leaves of v span, renumbered in order and hung from what is then leaf 0
unfoldable pub spanned : LeafSet → Tree → Tree
spanned v T = rerooted (renumbered (rank v) (kept v (node (leaf 0) T)))

-- all leaves but x
unfoldable pub all_but : ℕ → LeafSet
all_but x k = not (eqb k x)

-- pruning removes leaf x, and higher leaves move down by one; leaf 0 may be pruned
unfoldable pub pruned : ℕ → Tree → Tree
pruned x T = spanned (all_but x) T

-- the number that a leaf k other than x has then
unfoldable pub lowered : ℕ → ℕ → ℕ
lowered x k = cond (ltb x k) (k - 1) k
