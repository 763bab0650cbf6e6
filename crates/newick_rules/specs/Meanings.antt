-- The tree that a text draws, told by its edges: each name and each bracket but the top is one side of an edge.
use Rattle.std.specs.Prelude.{◌≡◌, true, false, List, [], ◌∷◌, ◌++◌, ℕ, ◌-◌, ◌*◌}
use Rattle.base.specs.Lists.{any_in, all_in}
use Rattle.refusals.specs.declared.Refusal.TheVariants.{Grammar, NotBinary, Unmatched}
use Rattle.refusals.specs.Refusals.{Answer, accepted, refused}
use Rattle.refusals.specs.Meanings.{MeansUnless}
use Rattle.trees.specs.Trees.{Tree, LeafSet, leaves}
use Rattle.trees.specs.Listings.{KeepsRules, tree_of, standard}
use Rattle.trees.specs.Edges.{edges, one_edge, is_edge}
use Rattle.sheet_rules.specs.Sheets.{leaves_of, names_of}
use Rattle.sheet_rules.specs.Operations.{sheet_refusal}
use Rattle.newick_rules.specs.Drawings.{Drawing, name, bracket, Parts, one, more, names_in, names_in_parts}
use Rattle.newick_rules.specs.Writings.{Right, BreaksAt}
use Rattle.newick_rules.specs.Importing.{binary_top, each_once, subtree, deepest}

-- the leaves that a drawing names
unfoldable pub named_in : List (List ℕ) → Drawing → LeafSet
named_in known d = leaves (subtree known d)

-- those of each name and each bracket in it
unfoldable mutual
  pub sides : List (List ℕ) → Drawing → List LeafSet
  sides known (name x) = named_in known (name x) ∷ []
  sides known (bracket p) = named_in known (bracket p) ∷ sides_of_parts known p

  pub sides_of_parts : List (List ℕ) → Parts → List LeafSet
  sides_of_parts known (one d) = sides known d
  sides_of_parts known (more p d) = sides_of_parts known p ++ sides known d

-- the tree T on n leaves is what a top with these parts draws
pub record Draws (n : ℕ) (known : List (List ℕ)) (p : Parts) (T : Tree) : Type 0 where
  -- each name and each bracket but the top is one side of an edge
  pub each_is_a_side : all_in (is_edge n T) (sides_of_parts known p) ≡ true
  -- and there is no other edge
  pub no_other_edge : all_in (λ e. any_in (one_edge n e) (sides_of_parts known p)) (edges T) ≡ true

-- what import gives for a text that it takes: the standard listing of the tree that the text draws
pub record Imported (n : ℕ) (known : List (List ℕ)) (t l : List ℕ) : Type 0 where
  pub parts : Parts
  pub is_right : Right deepest t (bracket parts)
  pub is_binary : binary_top (bracket parts) ≡ true
  pub names_once : each_once known (names_in_parts parts) ≡ true
  pub keeps : KeepsRules n l
  pub is_standard : standard n (tree_of n l) ≡ l
  pub tree : Draws n known parts (tree_of n l)

-- What import answers, where the sheet is right and has these names.
pub data Says (n : ℕ) (known : List (List ℕ)) (t : List ℕ) : Answer (List ℕ) → Type 0 where
  -- 17, with the offset of the first byte that breaks the grammar or nests too deep, or the length of a text that stops
  -- early
  breaks_here : (k : ℕ) → BreaksAt deepest t k → Says n known t (refused (Grammar k))
  -- else 18, when a node is not binary apart from a three-way top
  no_binary : (d : Drawing) → Right deepest t d → binary_top d ≡ false → Says n known t (refused NotBinary)
  -- else 19, when a name is unknown, repeated or missing
  wrong_names :
      (d : Drawing) → Right deepest t d → binary_top d ≡ true → each_once known (names_in d) ≡ false
      → Says n known t (refused Unmatched)
  -- else the standard listing of the tree that the text draws
  lists : (l : List ℕ) → Imported n known t l → Says n known t (accepted l)

-- and with a sheet: 13, 1, 14, 3, 15, 16; then what the names of the sheet make of the text
abbrev pub ImportMeans : (S t : List ℕ) (room : ℕ) → Answer (List ℕ) → Type 0
ImportMeans S t room = MeansUnless (sheet_refusal S (2 * (leaves_of S - 2)) room) (Says (leaves_of S) (names_of S) t)
