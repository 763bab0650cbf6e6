-- The reader's places as import keeps them go with the reader: a byte leads to the next state, and moves the open
-- brackets and the last drawing. Each step of the reader is a chain of tests, so each law is a line a branch.
use mathlib.Core.Path.{◌≡◌, refl, sym, ◌∙◌}
use mathlib.Core.Logic.{inl, inr, ◌≢◌}
use mathlib.Core.Bool.{Bool, true, false, cond, ◌&&◌}
use mathlib.Core.List.{List, [], ◌∷◌, ◌++◌}
use mathlib.Core.Option.{Option, none, some}
use Prim.Native.Nat.{ℕ, suc}
use native.Mathlib.Omega.{arith}
use borrow.Author.Tests.{eqb-true, ne_eqb, eq-eqb, ltb-true, lt-ltb}
use lib.Dec.{ltb, eqb}
use lib.ListN.{length}
use Rattle.base.proofs.Bools.{bool?, never, is_false, and_both}
use Rattle.sheet_rules.specs.Sheets.{name_byte}
use Rattle.newick_rules.specs.Drawings.{Drawing, name, bracket}
use Rattle.newick_rules.specs.Reader.{opening, closing, comma, colon, semicolon, blank, length_byte, Open, with_part}
use Rattle.newick_rules.specs.Reader.{Place, due, in_name, behind, at_length, in_length, ended}
use Rattle.newick_rules.specs.Reader.{closes, follows, inside, step}
use Rattle.newick_rules.proofs.Running.{If, if_cond, if_map}
use Rattle.newick_reading.specs.inner.Moves.{state_of, opens_of, last_of, last_after, closed_state}
use Rattle.newick_reading.specs.inner.Moves.{followed_state, due_state, next_state, next_depth, NamesInside}
use Rattle.newick_reading.specs.inner.Moves.{Moved}

-- The state.

-- of a place, if there is one; 7 where a byte broke the text
unfoldable pub state_if : Option Place → ℕ
state_if none = 7
state_if (some P) = state_of P

state_cond : (t : Bool) (P : Place) (o : Option Place) → state_if (cond t (some P) o) ≡ cond t (state_of P) (state_if o)
unfolding state_if
state_cond true P o = refl
state_cond false P o = refl

closes_state : (s : List Open) (d : Drawing) (b : ℕ) → state_if (closes s d b) ≡ closed_state (length s) b
unfolding closes closed_state state_of state_if
closes_state [] d b = state_cond (eqb b semicolon) (ended d) none
closes_state (o ∷ s) d b =
    rw (ne_eqb (suc (length s)) 0 (λ e. omega arith))
    (state_cond (eqb b comma) (due (some (with_part o d) ∷ s)) _
    ∙ rw (state_cond (eqb b closing) (behind s true (bracket (with_part o d))) none))

behind_state : (s : List Open) (may : Bool) (d : Drawing) → state_of (behind s may d) ≡ cond may 2 3
unfolding state_of
behind_state s true d = refl
behind_state s false d = refl

follows_state :
    (s : List Open) (may : Bool) (d : Drawing) (b : ℕ) → state_if (follows s may d b) ≡ followed_state (length s) may b
unfolding follows followed_state
follows_state s may d b =
    state_cond (blank b) (behind s may d) _
    ∙ rw (behind_state s may d, state_cond (may && eqb b colon) (at_length s d) (closes s d b), closes_state s d b)
    (unfold state_of in refl)

inside_deep : (s : List Open) → inside s ≡ ltb 0 (length s)
unfolding inside
inside_deep [] = refl
inside_deep (o ∷ s) = sym (lt-ltb 0 (suc (length s)) (omega arith))

module _ (limit : ℕ) where
  pub state_next :
      (P : Place) (b : ℕ) → state_if (step limit P b) ≡ next_state limit (state_of P) (length (opens_of P)) b
  unfolding step state_of opens_of next_state due_state state_if
  state_next (due s) b =
      state_cond (blank b) (due s) _
      ∙ rw (
        state_cond (eqb b opening && ltb (length s) limit) (due (none ∷ s)) _,
        state_cond (name_byte b && inside s) (in_name s (b ∷ [])) none,
        inside_deep s,
      )
  state_next (in_name s x) b =
      state_cond (name_byte b) (in_name s (x ++ (b ∷ []))) _ ∙ rw (follows_state s true (name x) b)
  state_next (behind s true d) b = follows_state s true d b
  state_next (behind s false d) b = follows_state s false d b
  state_next (at_length s d) b = state_cond (length_byte b) (in_length s d) none
  state_next (in_length s d) b = state_cond (length_byte b) (in_length s d) _ ∙ rw (follows_state s false d b)
  state_next (ended d) b = state_cond (blank b) (ended d) none

-- no place has the number of a broken text
pub state_right : (P : Place) → state_of P ≢ 7
unfolding state_of
state_right (due s) e = omega arith
state_right (in_name s x) e = omega arith
state_right (behind s true d) e = omega arith
state_right (behind s false d) e = omega arith
state_right (at_length s d) e = omega arith
state_right (in_length s d) e = omega arith
state_right (ended d) e = omega arith

-- The brackets and the last drawing.

-- a byte of another kind leaves both as they are
abbrev Plain : ℕ → Type 0
Plain b = (eqb b opening ≡ false) × (eqb b comma ≡ false) × (eqb b closing ≡ false)

plain_moved :
    (limit b : ℕ) (Q : Place) (s : List Open) (d : Option Drawing) → Plain b → opens_of Q ≡ s → last_of Q ≡ d
    → Moved limit b s d Q
plain_moved limit b Q s d p o l = record {
  by_opening = λ e. absurd (never (eq-eqb b opening e) p.0);
  by_comma = λ e. absurd (never (eq-eqb b comma e) p.1);
  by_closing = λ e. absurd (never (eq-eqb b closing e) p.2);
  by_another = λ _ _ _. (o, l);
}

-- such are the bytes of a test that fails for all three
class_plain :
    (f : ℕ → Bool) → f opening ≡ false → f comma ≡ false → f closing ≡ false → (b : ℕ) → f b ≡ true → Plain b
class_plain f p q r b h = (not_so opening p, not_so comma q, not_so closing r)
  where
    not_so : (c : ℕ) → f c ≡ false → eqb b c ≡ false
    not_so c g = is_false (eqb b c) (λ t. never (rw (eqb-true b c t) at h) g)

blank_plain : (b : ℕ) → blank b ≡ true → Plain b
unfolding blank
blank_plain = class_plain blank refl refl refl

name_plain : (b : ℕ) → name_byte b ≡ true → Plain b
unfolding name_byte
name_plain = class_plain name_byte refl refl refl

length_plain : (b : ℕ) → length_byte b ≡ true → Plain b
unfolding length_byte
length_plain = class_plain length_byte refl refl refl

one_plain : (c : ℕ) → Plain c → (b : ℕ) → eqb b c ≡ true → Plain b
one_plain c p b h = rw (eqb-true b c h) p

module _ (limit : ℕ) where
  comma_moved :
      (o : Open) (s : List Open) (d : Drawing) (b : ℕ) → eqb b comma ≡ true
      → Moved limit b (o ∷ s) (some d) (due (some (with_part o d) ∷ s))
  comma_moved o s d b h =
      let e : b ≡ comma = eqb-true b comma h in
      record {
        by_opening = λ q. absurd (omega arith);
        by_comma = λ q. (o, s, d, refl, refl, refl);
        by_closing = λ q. absurd (omega arith);
        by_another = λ _ p _. absurd (never h p);
      }

  closing_moved :
      (o : Open) (s : List Open) (d : Drawing) (b : ℕ) → eqb b closing ≡ true
      → Moved limit b (o ∷ s) (some d) (behind s true (bracket (with_part o d)))
  closing_moved o s d b h =
      let e : b ≡ closing = eqb-true b closing h in
      record {
        by_opening = λ q. absurd (omega arith);
        by_comma = λ q. absurd (omega arith);
        by_closing = λ q. (o, s, d, refl, refl, refl);
        by_another = λ _ _ p. absurd (never h p);
      }

  opening_moved :
      (s : List Open) (b : ℕ) → (eqb b opening && ltb (length s) limit) ≡ true
      → Moved limit b s none (due (none ∷ s))
  opening_moved s b h =
      let r = and_both (eqb b opening) (ltb (length s) limit) h in
      let e : b ≡ opening = eqb-true b opening r.0 in
      record {
        by_opening = λ q. (refl, ltb-true (length s) limit r.1, refl);
        by_comma = λ q. absurd (omega arith);
        by_closing = λ q. absurd (omega arith);
        by_another = λ p _ _. absurd (never r.0 p);
      }

  closes_moved : (s : List Open) (d : Drawing) (b : ℕ) → If (Moved limit b s (some d)) (closes s d b)
  unfolding closes opens_of last_of
  closes_moved [] d b =
      if_cond (Moved limit b [] (some d)) (eqb b semicolon) (ended d) none
      (λ h. plain_moved limit b (ended d) [] (some d) (one_plain semicolon (refl, refl, refl) b h) refl refl) tt
  closes_moved (o ∷ s) d b =
      let F = Moved limit b (o ∷ s) (some d) in
      if_cond F (eqb b comma) (due (some (with_part o d) ∷ s)) _ (comma_moved o s d b)
      (if_cond F (eqb b closing) (behind s true (bracket (with_part o d))) none (closing_moved o s d b) tt)

  follows_moved :
      (s : List Open) (may : Bool) (d : Drawing) (b : ℕ) → If (Moved limit b s (some d)) (follows s may d b)
  unfolding follows opens_of last_of
  follows_moved s may d b =
      let F = Moved limit b s (some d) in
      if_cond F (blank b) (behind s may d) _
      (λ h. plain_moved limit b (behind s may d) s (some d) (blank_plain b h) refl refl)
      (if_cond F (may && eqb b colon) (at_length s d) (closes s d b)
      (λ h.
      let colon_is = (and_both may (eqb b colon) h).1 in
      plain_moved limit b (at_length s d) s (some d) (one_plain colon (refl, refl, refl) b colon_is) refl refl)
      (closes_moved s d b))

  -- what follows a drawing is in no name
  abbrev pub Outside : Place → Type 0
  Outside Q = eqb (state_of Q) 1 ≡ false

  pub follows_outside : (s : List Open) (may : Bool) (d : Drawing) (b : ℕ) → If Outside (follows s may d b)
  unfolding follows closes state_of
  follows_outside s may d b =
      if_cond Outside (blank b) (behind s may d) _ (λ h. rw (behind_state s may d) (still may))
      (if_cond Outside (may && eqb b colon) (at_length s d) (closes s d b) (λ h. refl) (ends s))
    where
      still : (may : Bool) → eqb (cond may 2 3) 1 ≡ false
      still true = refl
      still false = refl

      ends : (s : List Open) → If Outside (closes s d b)
      ends [] = if_cond Outside (eqb b semicolon) (ended d) none (λ h. refl) tt
      ends (o ∷ s) =
          if_cond Outside (eqb b comma) (due (some (with_part o d) ∷ s)) _ (λ h. refl)
          (if_cond Outside (eqb b closing) (behind s true (bracket (with_part o d))) none (λ h. refl) tt)

  both_if : (F G : Place → Type 0) (o : Option Place) → If F o → If G o → If (λ Q. F Q × G Q) o
  both_if F G none f g = tt
  both_if F G (some Q) f g = (f, g)

  abbrev Moves : Place → ℕ → Place → Type 0
  Moves P b Q = Moved limit b (opens_of P) (last_after P (state_of Q)) Q

  step_moves : (P : Place) (b : ℕ) → If (Moves P b) (step limit P b)
  unfolding step opens_of last_of last_after state_of
  step_moves (due s) b =
      let F = Moves (due s) b in
      if_cond F (blank b) (due s) _ (λ h. plain_moved limit b (due s) s none (blank_plain b h) refl refl)
      (if_cond F (eqb b opening && ltb (length s) limit) (due (none ∷ s)) _ (opening_moved s b)
      (if_cond F (name_byte b && inside s) (in_name s (b ∷ [])) none
      (λ h.
      let name_is = (and_both (name_byte b) (inside s) h).0 in
      plain_moved limit b (in_name s (b ∷ [])) s none (name_plain b name_is) refl refl) tt))
  step_moves (in_name s x) b =
      let F = Moves (in_name s x) b in
      if_cond F (name_byte b) (in_name s (x ++ (b ∷ []))) _
      (λ h. plain_moved limit b (in_name s (x ++ (b ∷ []))) s none (name_plain b h) refl refl)
      (if_map (λ Q. Moved limit b s (some (name x)) Q × Outside Q) F (λ Q r. rw r.1 r.0)
      (follows s true (name x) b)
      (both_if (Moved limit b s (some (name x))) Outside (follows s true (name x) b) (follows_moved s true (name x) b)
      (follows_outside s true (name x) b)))
  step_moves (behind s may d) b = follows_moved s may d b
  step_moves (at_length s d) b =
      if_cond (Moves (at_length s d) b) (length_byte b) (in_length s d) none
      (λ h. plain_moved limit b (in_length s d) s (some d) (length_plain b h) refl refl) tt
  step_moves (in_length s d) b =
      if_cond (Moves (in_length s d) b) (length_byte b) (in_length s d) _
      (λ h. plain_moved limit b (in_length s d) s (some d) (length_plain b h) refl refl) (follows_moved s false d b)
  step_moves (ended d) b =
      if_cond (Moves (ended d) b) (blank b) (ended d) none
      (λ h. plain_moved limit b (ended d) [] (some d) (blank_plain b h) refl refl) tt

  pub step_moved :
      (P Q : Place) (b : ℕ) → step limit P b ≡ some Q → Moved limit b (opens_of P) (last_after P (state_of Q)) Q
  step_moved P Q b h = rw h at (step_moves P b)

  -- a name is entered within a bracket, and stays there
  outside_inside : (Q : Place) → Outside Q → NamesInside Q
  unfolding state_of
  outside_inside (due s) o = tt
  outside_inside (in_name s x) o = absurd (never {b = true} refl o)
  outside_inside (behind s may d) o = tt
  outside_inside (at_length s d) o = tt
  outside_inside (in_length s d) o = tt
  outside_inside (ended d) o = tt

  follows_inside : (s : List Open) (may : Bool) (d : Drawing) (b : ℕ) → If NamesInside (follows s may d b)
  follows_inside s may d b = if_map Outside NamesInside outside_inside (follows s may d b) (follows_outside s may d b)

  stays_inside : (P : Place) (b : ℕ) → NamesInside P → If NamesInside (step limit P b)
  unfolding step
  stays_inside (due s) b i =
      if_cond NamesInside (blank b) (due s) _ (λ h. tt)
      (if_cond NamesInside (eqb b opening && ltb (length s) limit) (due (none ∷ s)) _ (λ h. tt)
      (if_cond NamesInside (name_byte b && inside s) (in_name s (b ∷ [])) none
      (λ h. (and_both (name_byte b) (inside s) h).1) tt))
  stays_inside (in_name s x) b i =
      if_cond NamesInside (name_byte b) (in_name s (x ++ (b ∷ []))) _ (λ h. i) (follows_inside s true (name x) b)
  stays_inside (behind s may d) b i = follows_inside s may d b
  stays_inside (at_length s d) b i =
      if_cond NamesInside (length_byte b) (in_length s d) none (λ h. tt) tt
  stays_inside (in_length s d) b i =
      if_cond NamesInside (length_byte b) (in_length s d) _ (λ h. tt) (follows_inside s false d b)
  stays_inside (ended d) b i = if_cond NamesInside (blank b) (ended d) none (λ h. tt) tt

  pub step_inside : (P Q : Place) (b : ℕ) → NamesInside P → step limit P b ≡ some Q → NamesInside Q
  step_inside P Q b i h = rw h at (stays_inside P b i)

-- the depth goes along
pub moved_depth :
    (limit b : ℕ) (s : List Open) (d : Option Drawing) (Q : Place) → Moved limit b s d Q
    → length (opens_of Q) ≡ next_depth (length s) b
unfolding opens_of next_depth
moved_depth limit b s d Q M = elim (bool? (eqb b opening)) [
  | inl t ↦ rw (t, (M.by_opening (eqb-true b opening t)).2) (omega arith)
  | inr f ↦ elim (bool? (eqb b closing)) [
    | inl t ↦
        let r = M.by_closing (eqb-true b closing t) in
        rw (f, t, r.5, r.3) (omega arith)
    | inr g ↦ elim (bool? (eqb b comma)) [
      | inl t ↦
          let r = M.by_comma (eqb-true b comma t) in
          rw (f, g, r.5, r.3)
      | inr c ↦ rw (f, g, (M.by_another f c g).0)
    ]
  ]
]
