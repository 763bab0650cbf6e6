-- Import (02, request 1): the nodes and the names judged, and the tree that a text draws.
use Rattle.std.specs.Prelude.{Bool, true, false, ◌&&◌, List, [], ◌∷◌, ℕ, suc, ◌+◌, ◌-◌, eqb, length}
use Rattle.std.proofs.Math.Option.{Option}
use Rattle.base.specs.Numbers.{indicator}
use Rattle.base.specs.Lists.{any_in, all_in}
use Rattle.limits.specs.Limits.{most_leaves}
use Rattle.refusals.specs.declared.Refusal.{Refusal}
use Rattle.refusals.specs.declared.Refusal.TheVariants.{Grammar, NotBinary, Unmatched}
use Rattle.refusals.specs.Refusals.{Answer, refused, refuse, judged, answered}
use Rattle.trees.specs.Trees.{Tree, leaf, node}
use Rattle.trees.specs.Rerooting.{rerooted}
use Rattle.trees.specs.Listings.{standard}
use Rattle.sheet_rules.specs.Sheets.{between, same, leaf_named}
use Rattle.newick_rules.specs.Drawings.{Drawing, name, bracket, Parts, one, more, names_in}
use Rattle.newick_rules.specs.Reader.{draws, breaks, read}

-- how many parts
unfoldable pub ways : Parts → ℕ
ways (one d) = 1
ways (more p d) = suc (ways p)

-- every bracket has two parts
unfoldable mutual
  pub binary : Drawing → Bool
  binary (name x) = true
  binary (bracket p) = eqb (ways p) 2 && binary_parts p

  pub binary_parts : Parts → Bool
  binary_parts (one d) = binary d
  binary_parts (more p d) = binary_parts p && binary d

-- the top has two or three parts, and every bracket in it two: else 18
unfoldable pub binary_top : Drawing → Bool
binary_top (name x) = false
binary_top (bracket p) = between 2 3 (ways p) && binary_parts p

unfoldable pub nodes_refusal : Drawing → Option Refusal
nodes_refusal d = refuse (binary_top d) NotBinary

-- how often a name stands in a list
unfoldable pub times_in : List (List ℕ) → List ℕ → ℕ
times_in [] x = 0
times_in (y ∷ l) x = indicator (same x y) 1 + times_in l x

-- each of these names is known, and each name that is known stands once: else 19
unfoldable pub each_once : (known names : List (List ℕ)) → Bool
each_once known names = all_in (λ x. any_in (same x) known) names && all_in (λ x. eqb (times_in names x) 1) known

unfoldable pub strains_refusal : (known names : List (List ℕ)) → Option Refusal
strains_refusal known names = refuse (each_once known names) Unmatched

-- a drawing as a subtree. Of three parts A, B and C, the first two are a node that an edge joins to C.
unfoldable mutual
  pub subtree : List (List ℕ) → Drawing → Tree
  subtree known (name x) = leaf (leaf_named known x)
  subtree known (bracket p) = subtree_of_parts known p

  pub subtree_of_parts : List (List ℕ) → Parts → Tree
  subtree_of_parts known (one d) = subtree known d
  subtree_of_parts known (more p d) = node (subtree_of_parts known p) (subtree known d)

-- The tree that a drawing stands for. A two-way top (A, B) is an edge between A and B, its node is dropped; a three-way
-- top (A, B, C) is a node, with an edge to C from the node of A and B. The tree is drawn from leaf 0.
unfoldable pub tree_drawn : List (List ℕ) → Drawing → Tree
tree_drawn known d = rerooted (subtree known d)

-- brackets may nest 127 deep: as deep as the comb of the most leaves with a two-way top
abbrev pub deepest : ℕ
deepest = most_leaves - 1

-- import, where the sheet is right and has these names: 17, 18, 19, or the standard listing of the tree drawn
unfoldable pub imported : List (List ℕ) → List ℕ → Answer (List ℕ)
imported known t = elim (read deepest t) [
  | breaks k ↦ refused (Grammar k)
  | draws d ↦
      answered (judged (nodes_refusal d ∷ strains_refusal known (names_in d) ∷ []))
      (standard (length known) (tree_drawn known d))
]
