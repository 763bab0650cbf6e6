-- Grafting (02, request 5): leaf n is put on an edge, named by the node below it in the standard listing, 1 to 2n − 3.
use Rattle.std.specs.Prelude.{Bool, cond, ◌&&◌, ℕ, ◌+◌, ◌-◌, ◌*◌, leb, eqb}
use Rattle.trees.specs.Trees.{Tree, leaf, node, size, ordered}
use Rattle.trees.specs.Listings.{number_in}

-- the numbers of the edges of a tree on n leaves; 2n − 3 is that of the edge to leaf 0
unfoldable pub names_edge : ℕ → ℕ → Bool
names_edge n e = leb 1 e && leb e (2 * n - 3)

-- a node with T and leaf x under it, on the edge above T, where this is the edge; else T
unfoldable pub put_on : Bool → ℕ → Tree → Tree
put_on here x T = cond here (node T (leaf x)) T

-- leaf x on the edge above the subtree whose number is e; the first node is number r, as in `post_order`
unfoldable pub with_leaf : ℕ → ℕ → Tree → ℕ → Tree
with_leaf x e (leaf i) r = put_on (eqb e i) x (leaf i)
with_leaf x e (node A B) r =
    put_on (eqb e (number_in (node A B) r)) x (node (with_leaf x e A r) (with_leaf x e B (r + size A - 1)))

-- leaf n grafted on the edge e of the tree T on n leaves
unfoldable pub grafted : ℕ → Tree → ℕ → Tree
grafted n T e = with_leaf n e (ordered T) n
