-- How often a number names an edge of a subtree, by which the edges are counted. No public contract cites it.
use Rattle.std.specs.Prelude.{ℕ, ◌+◌, ◌-◌, eqb}
use Rattle.base.specs.Numbers.{indicator}
use Rattle.trees.specs.Trees.{Tree, leaf, node, size}
use Rattle.trees.specs.Listings.{number_in}

-- how many edges have the number e, of those above a subtree and inside it; the first node is number r
unfoldable pub edges_at : ℕ → Tree → ℕ → ℕ
edges_at e (leaf i) r = indicator (eqb e i) 1
edges_at e (node A B) r =
    indicator (eqb e (number_in (node A B) r)) 1 + (edges_at e A r + edges_at e B (r + size A - 1))
