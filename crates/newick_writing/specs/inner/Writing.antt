-- How export writes its text: what the inner functions require and ensure. No public contract cites it.
use Rattle.std.specs.Prelude.{◌≡◌, List, [], ◌∷◌, ◌++◌, ℕ, ◌+◌, ◌-◌, ◌*◌, ◌≤◌, ◌<◌, length, get_or}
use Rattle.std.proofs.lemmas.List.Edits.{sets}
use Rattle.limits.specs.Limits.{IsLeafCount, most_leaves}
use Rattle.trees.specs.Listings.{KeepsRules, tree_of}
use Rattle.standard_listings.specs.inner.Standardising.{part, standard_first, standard_second, InOrder}
use Rattle.sheet_rules.specs.Sheets.{leaves_of, next_name, name_start, name, names_of}
use Rattle.newick_rules.specs.Reader.{opening, closing, comma, semicolon}
use Rattle.newick_rules.specs.Exporting.{plain, drawing, exported}

-- these bytes have been put at a place, and r is the next place
pub record Put (x : List ℕ) (at : ℕ) (t t' : List ℕ) (r : ℕ) : Type 0 where
  pub next : r ≡ at + length x
  pub bytes : t' ≡ sets t at x

-- there is room for these bytes at a place
pub record Room (x : List ℕ) (at : ℕ) (t : List ℕ) : Type 0 where
  pub enough : at + length x ≤ length t

-- the text of what stands under a number of a listing, in standard order
abbrev pub part_text : List ℕ → ℕ → List ℕ → ℕ → List ℕ
part_text S n l v = plain (drawing (names_of S) (part n l v))

-- those of the two children of node v, and a comma between them
abbrev pub pair_text : List ℕ → ℕ → List ℕ → ℕ → List ℕ
pair_text S n l v =
    part_text S n l (standard_first n l v) ++ ((comma ∷ []) ++ part_text S n l (standard_second n l v))

-- how the text of a tree begins, and how it ends
abbrev pub front : List ℕ → List ℕ
front S = (opening ∷ []) ++ (name S 0 ++ (comma ∷ []))

abbrev pub end : List ℕ
end = (closing ∷ []) ++ (semicolon ∷ [])

-- an array has where the name of a leaf starts, and the name ends within the sheet
pub record Placed (S starts : List ℕ) (leaf : ℕ) : Type 0 where
  pub inside : leaf < most_leaves
  pub start : get_or starts leaf 0 ≡ name_start S leaf
  pub ends : next_name S (get_or starts leaf 0) ≤ length S

-- a sheet and a listing as they were judged: so many leaves in both, and rules that are kept
pub record Judged (S : List ℕ) (n : ℕ) (l : List ℕ) : Type 0 where
  pub count : IsLeafCount n
  pub leaves : n ≡ leaves_of S
  pub keeps : KeepsRules n l

-- they, and the two arrays: where each name starts, and the children of each node in order
pub record Known (S starts : List ℕ) (n : ℕ) (l sorted : List ℕ) : Type 0 where
  pub judged : Judged S n l
  pub places : (i : ℕ) → i < n → Placed S starts i
  pub order : InOrder n l (2 * n - 2) sorted

-- What may be put: a name, what stands under a number, the children of a node.
pub record NameFits (S starts : List ℕ) (leaf at : ℕ) (t : List ℕ) : Type 0 where
  pub placed : Placed S starts leaf
  pub room : Room (name S leaf) at t

pub record PartFits (S starts : List ℕ) (n : ℕ) (l sorted : List ℕ) (v at : ℕ) (t : List ℕ) : Type 0 where
  pub known : Known S starts n l sorted
  pub high : v < 2 * n - 2
  pub room : Room (part_text S n l v) at t

pub record PairFits (S starts : List ℕ) (n : ℕ) (l sorted : List ℕ) (v at : ℕ) (t : List ℕ) : Type 0 where
  pub known : Known S starts n l sorted
  pub low : n ≤ v
  pub high : v < 2 * n - 2
  pub room : Room (pair_text S n l v) at t

-- How the text begins may be put at the front, and the whole text.
pub record FrontFits (S starts t : List ℕ) : Type 0 where
  pub placed : Placed S starts 0
  pub room : Room (front S) 0 t

pub record Ready (S starts : List ℕ) (n : ℕ) (l t : List ℕ) : Type 0 where
  pub judged : Judged S n l
  pub places : (i : ℕ) → i < n → Placed S starts i
  pub room : Room (exported (names_of S) (tree_of n l)) 0 t
