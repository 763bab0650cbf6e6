-- The reader of Newick text (02, request 1): one pass over the bytes, from left to right. It gives the drawing, or the
-- offset of the first byte that breaks the grammar or nests too deep, or the text's length where the text stops early.
use Rattle.std.specs.Prelude.{Bool, true, false, cond, ◌&&◌, ◌||◌, List, [], ◌∷◌, ◌++◌, ℕ, suc, ltb, eqb, length}
use Rattle.std.proofs.Math.Option.{Option, none, some}
use Rattle.sheet_rules.specs.Sheets.{between, name_byte}
use Rattle.newick_rules.specs.Drawings.{Drawing, name, bracket, Parts, one, more}

-- Bytes. Those of a name are a sheet's: letters, digits, full stops and hyphens (`name_byte`).

abbrev pub opening : ℕ
opening = 40

abbrev pub closing : ℕ
closing = 41

abbrev pub comma : ℕ
comma = 44

abbrev pub colon : ℕ
colon = 58

abbrev pub semicolon : ℕ
semicolon = 59

-- tab, line feed, carriage return, space
unfoldable pub blank : ℕ → Bool
blank b = eqb b 9 || eqb b 10 || eqb b 13 || eqb b 32

-- of a length: digits, full stop, the signs + and -, E, e
unfoldable pub length_byte : ℕ → Bool
length_byte b = between 48 57 b || eqb b 46 || eqb b 43 || eqb b 45 || eqb b 69 || eqb b 101

-- an open bracket: its parts so far, if there are any
abbrev pub Open : Type 0
Open = Option Parts

-- its parts with one more
unfoldable pub with_part : Open → Drawing → Parts
with_part none d = one d
with_part (some p) d = more p d

-- Where the reader stands, within these open brackets, the innermost first.
pub data Place : Type 0 where
  -- a name or an opening bracket is due
  due : List Open → Place
  -- in a name; these are its bytes so far
  in_name : List Open → List ℕ → Place
  -- behind this drawing; a length may follow, or not
  behind : List Open → Bool → Drawing → Place
  -- behind this drawing and a colon: the first byte of a length is due
  at_length : List Open → Drawing → Place
  -- in a length
  in_length : List Open → Drawing → Place
  -- behind the semicolon; this is the whole
  ended : Drawing → Place

-- a byte that ends a drawing: the semicolon where no bracket is open; else a comma or a closing bracket
unfoldable pub closes : List Open → Drawing → ℕ → Option Place
closes [] d b = cond (eqb b semicolon) (some (ended d)) none
closes (o ∷ s) d b =
    cond (eqb b comma) (some (due (some (with_part o d) ∷ s)))
    (cond (eqb b closing) (some (behind s true (bracket (with_part o d)))) none)

-- a byte behind a drawing: a blank; a colon, where a length may follow; or one that ends it
unfoldable pub follows : List Open → Bool → Drawing → ℕ → Option Place
follows s may d b =
    cond (blank b) (some (behind s may d))
    (cond (may && eqb b colon) (some (at_length s d)) (closes s d b))

-- some bracket is open
unfoldable pub inside : List Open → Bool
inside [] = false
inside (o ∷ s) = true

-- one byte: where the reader stands behind it, or none where it breaks the grammar or nests deeper than the limit
unfoldable pub step : ℕ → Place → ℕ → Option Place
step limit (due s) b =
    cond (blank b) (some (due s))
    (cond (eqb b opening && ltb (length s) limit) (some (due (none ∷ s)))
    (cond (name_byte b && inside s) (some (in_name s (b ∷ []))) none))
step limit (in_name s x) b = cond (name_byte b) (some (in_name s (x ++ (b ∷ [])))) (follows s true (name x) b)
step limit (behind s may d) b = follows s may d b
step limit (at_length s d) b = cond (length_byte b) (some (in_length s d)) none
step limit (in_length s d) b = cond (length_byte b) (some (in_length s d)) (follows s false d b)
step limit (ended d) b = cond (blank b) (some (ended d)) none

pub data Reading : Type 0 where
  draws : Drawing → Reading
  breaks : ℕ → Reading

-- the text's end, at this offset: it stops early but for behind the semicolon
unfoldable pub at_end : Place → ℕ → Reading
at_end (due s) k = breaks k
at_end (in_name s x) k = breaks k
at_end (behind s may d) k = breaks k
at_end (at_length s d) k = breaks k
at_end (in_length s d) k = breaks k
at_end (ended d) k = draws d

-- the rest of a text from a place on; its first byte has the offset k
unfoldable pub read_on : ℕ → Place → ℕ → List ℕ → Reading
read_on limit P k [] = at_end P k
read_on limit P k (b ∷ t) = elim (step limit P b) [ none ↦ breaks k | some P' ↦ read_on limit P' (suc k) t ]

-- a whole text; brackets may nest as deep as the limit
unfoldable pub read : ℕ → List ℕ → Reading
read limit t = read_on limit (due []) 0 t
