-- Export (02, request 1): the drawing of a tree with the strains' names, and its text.
use Rattle.std.specs.Prelude.{List, [], ◌∷◌, ◌++◌, ℕ, get_or}
use Rattle.trees.specs.Trees.{Tree, leaf, node, ordered}
use Rattle.newick_rules.specs.Drawings.{Drawing, name, bracket, Parts, one, more}
use Rattle.newick_rules.specs.Reader.{opening, closing, comma, semicolon}

-- the plain text of a drawing: names, brackets and commas, without blanks and lengths
unfoldable mutual
  pub plain : Drawing → List ℕ
  plain (name x) = x
  plain (bracket p) = opening ∷ (plain_parts p ++ (closing ∷ []))

  pub plain_parts : Parts → List ℕ
  plain_parts (one d) = plain d
  plain_parts (more p d) = plain_parts p ++ (comma ∷ plain d)

-- leaf i's name, of a list of names
abbrev pub name_of : List (List ℕ) → ℕ → Drawing
name_of names i = name (get_or names i [])

-- a subtree: a leaf's name, or the two children in a bracket
unfoldable pub drawing : List (List ℕ) → Tree → Drawing
drawing names (leaf i) = name_of names i
drawing names (node A B) = bracket (more (one (drawing names A)) (drawing names B))

-- a tree, which hangs from leaf 0: leaf 0's name, then the two children of the last node, in a bracket
unfoldable pub top_parts : List (List ℕ) → Tree → Parts
top_parts names (leaf i) = more (one (name_of names 0)) (name_of names i)
top_parts names (node A B) = more (more (one (name_of names 0)) (drawing names A)) (drawing names B)

unfoldable pub drawing_of_tree : List (List ℕ) → Tree → Drawing
drawing_of_tree names T = bracket (top_parts names T)

-- the export of a tree, from its standard order
unfoldable pub exported : List (List ℕ) → Tree → List ℕ
exported names T = plain (drawing_of_tree names (ordered T)) ++ (semicolon ∷ [])
