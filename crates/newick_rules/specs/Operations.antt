-- Import and export: their answers, the refusals in the order in which they are judged.
use Rattle.std.specs.Prelude.{◌≡◌, ◌≢◌, true, List, [], ◌∷◌, ℕ, ◌-◌, ◌*◌, ◌<◌, length, get_or}
use Rattle.refusals.specs.Refusals.{Answer, judged, answered, unless}
use Rattle.trees.specs.Listings.{rules_refusal, tree_of}
use Rattle.checks.specs.Sizes.{count_refusal, length_refusal, room_refusal}
use Rattle.sheet_rules.specs.Sheets.{leaves_of, offset_of, names_of, is_name}
use Rattle.sheet_rules.specs.Operations.{sheet_ends_refusal, sheet_length_refusal, names_refusal, sheet_refusal}
use Rattle.newick_rules.specs.Exporting.{exported}
use Rattle.newick_rules.specs.Importing.{imported}

-- names of n strains: each is a name, and no two are equal
pub record Strains (n : ℕ) (names : List (List ℕ)) : Type 0 where
  pub many : length names ≡ n
  pub are_names : (i : ℕ) → i < n → is_name (get_or names i []) ≡ true
  pub distinct : (i j : ℕ) → i < j → j < n → get_or names i [] ≢ get_or names j []

-- import with a sheet: 13, 1, 14, 3, 15, 16, 17, 18, 19
unfoldable pub import_answer : (S t : List ℕ) (room : ℕ) → Answer (List ℕ)
import_answer S t room = unless (sheet_refusal S (2 * (leaves_of S - 2)) room) (imported (names_of S) t)

-- export of a listing with a sheet: 13, 1, 2, 14, 7, 8, 15, 16, 3
unfoldable pub export_answer : (S l : List ℕ) (room : ℕ) → Answer (List ℕ)
export_answer S l room =
    let n = leaves_of S in
    let o = offset_of S in
    let t = exported (names_of S) (tree_of n l) in
    answered
    (judged
    (sheet_ends_refusal S
    ∷ count_refusal n
    ∷ length_refusal (2 * (n - 2)) (length l)
    ∷ sheet_length_refusal S n o
    ∷ rules_refusal n l
    ∷ names_refusal S n o
    ∷ room_refusal (length t) room
    ∷ []))
    t
