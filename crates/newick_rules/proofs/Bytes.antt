-- The bytes of a text: no byte plays two parts, but for those of names and lengths; and no bytes, as blanks and as a
-- trail.
use mathlib.Core.Path.{◌≡◌, refl}
use mathlib.Core.Logic.{inl, inr}
use mathlib.Core.Bool.{true, false, ◌||◌}
use mathlib.Core.List.{[]}
use Prim.Native.Nat.{ℕ}
use borrow.Author.Tests.{eqb-true}
use lib.Dec.{eqb}
use Rattle.base.specs.Lists.{all_in}
use Rattle.base.proofs.Bools.{never, is_false, or_cases}
use Rattle.sheet_rules.specs.Sheets.{name_byte}
use Rattle.newick_rules.specs.Reader.{opening, closing, comma, colon, semicolon, blank, length_byte}
use Rattle.newick_rules.specs.Writings.{Blanks, Trail, bare}

-- a blank is one of four bytes
blank_one : (P : ℕ → Type 0) → P 9 → P 10 → P 13 → P 32 → (b : ℕ) → blank b ≡ true → P b
unfolding blank
blank_one P p q r s b h = elim (or_cases (eqb b 9 || eqb b 10 || eqb b 13) (eqb b 32) h) [
  | inl h' ↦ elim (or_cases (eqb b 9 || eqb b 10) (eqb b 13) h') [
    | inl h'' ↦ elim (or_cases (eqb b 9) (eqb b 10) h'') [
      | inl e ↦ rw (eqb-true b 9 e) p
      | inr e ↦ rw (eqb-true b 10 e) q
    ]
    | inr e ↦ rw (eqb-true b 13 e) r
  ]
  | inr e ↦ rw (eqb-true b 32 e) s
]

pub blank_no_name : (b : ℕ) → blank b ≡ true → name_byte b ≡ false
unfolding name_byte
blank_no_name = blank_one (λ b. name_byte b ≡ false) refl refl refl refl

pub blank_no_length : (b : ℕ) → blank b ≡ true → length_byte b ≡ false
unfolding length_byte
blank_no_length = blank_one (λ b. length_byte b ≡ false) refl refl refl refl

-- a byte of a name is neither a blank nor an opening bracket
pub name_no_blank : (b : ℕ) → name_byte b ≡ true → blank b ≡ false
name_no_blank b h = is_false (blank b) (λ t. never h (blank_no_name b t))

pub name_no_opening : (b : ℕ) → name_byte b ≡ true → eqb b opening ≡ false
unfolding name_byte
name_no_opening b h = is_false (eqb b opening) (λ t. never (rw (eqb-true b opening t) at h) refl)

-- a byte behind which a drawing is over, and which is no part of it: a comma, a closing bracket, the semicolon
pub record Ends (b : ℕ) : Type 0 where
  pub no_blank : blank b ≡ false
  pub no_name : name_byte b ≡ false
  pub no_length : length_byte b ≡ false
  pub no_colon : eqb b colon ≡ false

pub comma_ends : Ends comma
unfolding blank name_byte length_byte
comma_ends = record { no_blank = refl; no_name = refl; no_length = refl; no_colon = refl }

pub closing_ends : Ends closing
unfolding blank name_byte length_byte
closing_ends = record { no_blank = refl; no_name = refl; no_length = refl; no_colon = refl }

pub semicolon_ends : Ends semicolon
unfolding blank name_byte length_byte
semicolon_ends = record { no_blank = refl; no_name = refl; no_length = refl; no_colon = refl }

-- no blanks, and a trail of none
pub none_blank : all_in blank [] ≡ true
unfolding all_in
none_blank = refl

abbrev pub no_blanks : Blanks
no_blanks = record { bytes = []; passed = none_blank }

abbrev pub no_trail : Trail
no_trail = bare no_blanks
