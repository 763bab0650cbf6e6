-- Rerooting ("hung from leaf 0" in 01, "Trees and listings"): a tree that is held at any edge, drawn from leaf 0.
use Rattle.std.specs.Prelude.{◌≡◌, cond, ℕ, ltb}
use Rattle.base.specs.Numbers.{indicator}
use Rattle.trees.specs.Trees.{Tree, leaf, node, leaves, occurrences}

-- a tree on n leaves that is held at an edge, which joins the two children of its top: each leaf 0 to n − 1 stands in
-- it once, and no other
abbrev pub IsHeld : ℕ → Tree → Type 0
IsHeld n R = (k : ℕ) → occurrences k R ≡ indicator (ltb k n) 1

-- A holds leaf 0, and an edge joins it to B. Rerooted at leaf 0, each node on the way from that edge to leaf 0 has
-- below it what lay above, and has it first.
unfoldable pub reroot_along : Tree → Tree → Tree
reroot_along (leaf i) B = B
reroot_along (node A A') B = cond (leaves A 0) (reroot_along A (node B A')) (reroot_along A' (node B A))

-- a tree held at an edge, rerooted at leaf 0: the edge joins A and B, and there is no node between them
unfoldable pub rerooted : Tree → Tree
rerooted (leaf i) = leaf i
rerooted (node A B) = cond (leaves A 0) (reroot_along A B) (reroot_along B A)
