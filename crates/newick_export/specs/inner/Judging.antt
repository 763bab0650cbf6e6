-- What export judges, in three goes. No public contract cites it.
use Rattle.std.specs.Prelude.{◌≡◌, List, [], ◌∷◌, ℕ, ◌-◌, ◌*◌, length}
use Rattle.std.proofs.Math.Option.{Option, none}
use Rattle.limits.specs.declared.Kind.TheVariants.{Counts}
use Rattle.refusals.specs.declared.Refusal.{Refusal}
use Rattle.refusals.specs.Refusals.{judged}
use Rattle.trees.specs.Listings.{rules_refusal, tree_of}
use Rattle.checks.specs.Sizes.{input_refusal, room_refusal}
use Rattle.sheet_rules.specs.Sheets.{leaves_of, offset_of, names_of}
use Rattle.sheet_rules.specs.Operations.{sheet_ends_refusal, sheet_length_refusal, names_refusal}
use Rattle.newick_rules.specs.Exporting.{exported}

-- the sizes of a sheet with these figures, and of a listing of so many numbers: 13, 1, 2, 14
unfoldable pub sizes_refusal : (S : List ℕ) (n o lent : ℕ) → Option Refusal
sizes_refusal S n o lent =
    judged (sheet_ends_refusal S ∷ input_refusal Counts n (2 * (n - 2)) lent ∷ sheet_length_refusal S n o ∷ [])

-- these, then the rules of the listing, then the names: 7, 8, 15, 16
unfoldable pub given_refusal : (S : List ℕ) (n o : ℕ) (l : List ℕ) → Option Refusal
given_refusal S n o l = judged (sizes_refusal S n o (length l) ∷ rules_refusal n l ∷ names_refusal S n o ∷ [])

-- nothing of these arises before the names
pub record NamesLeft (S : List ℕ) (n o : ℕ) (l : List ℕ) : Type 0 where
  pub sizes : sizes_refusal S n o (length l) ≡ none
  pub rules : rules_refusal n l ≡ none

-- the text of a listing's tree, with the names of a sheet
abbrev pub text_of : (S l : List ℕ) → List ℕ
text_of S l = exported (names_of S) (tree_of (leaves_of S) l)

-- these, then the room for the text: 3
unfoldable pub export_refusal : (S l : List ℕ) (room : ℕ) → Option Refusal
export_refusal S l room =
    judged (given_refusal S (leaves_of S) (offset_of S) l ∷ room_refusal (length (text_of S l)) room ∷ [])
