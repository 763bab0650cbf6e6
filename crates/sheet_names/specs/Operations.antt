-- A strain's name: the answer where it is asked for, its bytes, and its place in the sheet.
use Rattle.std.specs.Prelude.{List, [], ◌∷◌, ℕ, ◌+◌, length, Result, Ok, Err}
use Rattle.refusals.specs.declared.Refusal.{Refusal}
use Rattle.refusals.specs.Refusals.{Answer, accepted, refused, judged, answered}
use Rattle.checks.specs.Questions.{question_refusal}
use Rattle.sheet_rules.specs.Sheets.{leaves_of, offset_of, name_start, name}
use Rattle.sheet_rules.specs.Operations.{kept_sheet_refusal}
use Rattle.sheet_names.specs.declared.NamePlace.{NamePlace}

-- the name of a leaf, of a sheet kept with its figures: 13, 1, 14, 15, 16, and 9 with 0 for a leaf ≥ n
unfoldable pub name_answer : (S : List ℕ) (n o leaf : ℕ) → Answer (List ℕ)
name_answer S n o leaf =
    answered (judged (kept_sheet_refusal S n o 0 0 ∷ question_refusal n (leaf ∷ []) ∷ [])) (name S leaf)

-- where it stands: its first byte at p, and how many bytes it has
unfoldable pub placed : ℕ → Answer (List ℕ) → Result NamePlace Refusal
placed p (accepted x) = Ok (record { first = p; many = length x })
placed p (refused r) = Err r

-- where the name of a leaf stands, after its length byte, of a sheet with the trailer's figures
unfoldable pub name_place_answer : (S : List ℕ) (leaf : ℕ) → Result NamePlace Refusal
name_place_answer S leaf = placed (name_start S leaf + 1) (name_answer S (leaves_of S) (offset_of S) leaf)
