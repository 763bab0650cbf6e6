-- The places of the reader as import keeps them: a number for what may come next, the open brackets, and the last
-- drawing, if it is not yet a part of a bracket; and how a byte moves from one place to the next. No public contract
-- cites this.
use Rattle.std.specs.Prelude.{◌≡◌, Bool, true, false, cond, ◌&&◌, List, [], ◌∷◌, ℕ, ◌+◌, ◌-◌, ◌<◌, ltb, eqb, length}
use Rattle.std.proofs.Math.Option.{Option, none, some}
use Rattle.sheet_rules.specs.Sheets.{name_byte}
use Rattle.newick_rules.specs.Drawings.{Drawing, name, bracket}
use Rattle.newick_rules.specs.Reader.{opening, closing, comma, colon, semicolon, blank, length_byte}
use Rattle.newick_rules.specs.Reader.{Open, with_part, inside}
use Rattle.newick_rules.specs.Reader.{Place, due, in_name, behind, at_length, in_length, ended}

-- what may come next: 0 a name or a bracket, 1 more of a name, 2 what follows a drawing, a length included, 3 what
-- follows it, no length, 4 the first byte of a length, 5 more of it, 6 blanks behind the end; 7 stands for a text that
-- is broken
unfoldable pub state_of : Place → ℕ
state_of (due s) = 0
state_of (in_name s x) = 1
state_of (behind s true d) = 2
state_of (behind s false d) = 3
state_of (at_length s d) = 4
state_of (in_length s d) = 5
state_of (ended d) = 6

-- the open brackets, and the last drawing
unfoldable pub opens_of : Place → List Open
opens_of (due s) = s
opens_of (in_name s x) = s
opens_of (behind s may d) = s
opens_of (at_length s d) = s
opens_of (in_length s d) = s
opens_of (ended d) = []

unfoldable pub last_of : Place → Option Drawing
last_of (due s) = none
last_of (in_name s x) = none
last_of (behind s may d) = some d
last_of (at_length s d) = some d
last_of (in_length s d) = some d
last_of (ended d) = some d

-- the last drawing where the next state is known: a name that it ends is the last drawing
unfoldable pub last_after : Place → ℕ → Option Drawing
last_after (in_name s x) after = cond (eqb after 1) none (some (name x))
last_after (due s) after = none
last_after (behind s may d) after = some d
last_after (at_length s d) after = some d
last_after (in_length s d) after = some d
last_after (ended d) after = some d

-- The state behind a byte, by the state before it and how many brackets are open.

-- behind a byte that ends a drawing
abbrev pub closed_state : (depth b : ℕ) → ℕ
closed_state depth b =
    cond (eqb depth 0) (cond (eqb b semicolon) 6 7) (cond (eqb b comma) 0 (cond (eqb b closing) 2 7))

-- behind a byte that follows one; a length may follow, or not
unfoldable pub followed_state : (depth : ℕ) (may : Bool) (b : ℕ) → ℕ
followed_state depth may b =
    cond (blank b) (cond may 2 3) (cond (may && eqb b colon) 4 (closed_state depth b))

-- behind a byte where a name or a bracket is due
unfoldable pub due_state : (limit depth b : ℕ) → ℕ
due_state limit depth b =
    cond (blank b) 0 (cond (eqb b opening && ltb depth limit) 0 (cond (name_byte b && ltb 0 depth) 1 7))

-- behind any byte
unfoldable pub next_state : (limit state depth b : ℕ) → ℕ
next_state limit state depth b =
    cond (eqb state 0) (due_state limit depth b)
    (cond (eqb state 1) (cond (name_byte b) 1 (followed_state depth true b))
    (cond (eqb state 2) (followed_state depth true b)
    (cond (eqb state 3) (followed_state depth false b)
    (cond (eqb state 4) (cond (length_byte b) 5 7)
    (cond (eqb state 5) (cond (length_byte b) 5 (followed_state depth false b))
    (cond (blank b) 6 7))))))

-- how many brackets are open behind a byte that does not break the grammar
unfoldable pub next_depth : (depth b : ℕ) → ℕ
next_depth depth b = cond (eqb b opening) (depth + 1) (cond (eqb b closing) (depth - 1) depth)

-- a name stands within a bracket
abbrev pub NamesInside : Place → Type 0
NamesInside (due s) = Unit {0}
NamesInside (in_name s x) = inside s ≡ true
NamesInside (behind s may d) = Unit {0}
NamesInside (at_length s d) = Unit {0}
NamesInside (in_length s d) = Unit {0}
NamesInside (ended d) = Unit {0}

-- what a byte does, where these brackets are open and this drawing is the last
pub record Moved (limit b : ℕ) (s : List Open) (d : Option Drawing) (Q : Place) : Type 0 where
  pub by_opening : b ≡ opening → (d ≡ none) × (length s < limit) × (Q ≡ due (none ∷ s))
  pub by_comma :
      b ≡ comma
      → (o : Open) × (s' : List Open) × (e : Drawing) × (s ≡ o ∷ s') × (d ≡ some e)
      × (Q ≡ due (some (with_part o e) ∷ s'))
  pub by_closing :
      b ≡ closing
      → (o : Open) × (s' : List Open) × (e : Drawing) × (s ≡ o ∷ s') × (d ≡ some e)
      × (Q ≡ behind s' true (bracket (with_part o e)))
  pub by_another :
      eqb b opening ≡ false → eqb b comma ≡ false → eqb b closing ≡ false → (opens_of Q ≡ s) × (last_of Q ≡ d)
