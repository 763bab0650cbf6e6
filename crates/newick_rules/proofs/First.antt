-- The offset is that of the first byte that breaks the grammar: what stands before it can go on to a right text, and
-- with it nothing can. From every place the reader can be led to an end: close what is open.
use mathlib.Core.Path.{◌≡◌, refl, sym, ◌∙◌}
use mathlib.Core.Bool.{Bool, true, false}
use mathlib.Core.List.{List, [], ◌∷◌}
use mathlib.Core.Option.{Option, none, some}
use Prim.Native.Nat.{ℕ, suc, ◌+◌, ◌≤◌, ◌<◌}
use native.Mathlib.Nat.{add-zero}
use native.Mathlib.Omega.{arith}
use borrow.Author.Tests.{lt-ltb}
use lib.ListN.{length, take}
use Rattle.sheet_rules.specs.Sheets.{name_byte}
use Rattle.newick_rules.specs.Drawings.{Drawing, name, bracket}
use Rattle.newick_rules.specs.Reader.{opening, closing, semicolon, blank, length_byte, Open, with_part}
use Rattle.newick_rules.specs.Reader.{Place, due, in_name, behind, at_length, in_length, ended}
use Rattle.newick_rules.specs.Reader.{closes, follows, inside, step, draws, breaks, at_end, read_on}
use Rattle.newick_rules.proofs.Running.{never_both, run, run_step}
use Rattle.newick_rules.proofs.Complete.{goes_on, name_over, length_over}

-- what closes all that is open: a closing bracket each, and the semicolon
closers : List Open → List ℕ
closers [] = semicolon ∷ []
closers (o ∷ s) = closing ∷ closers s

same_place : (k m : ℕ) → breaks k ≡ breaks m → m ≡ k
same_place k m h = cc

-- at the end of a text a reading breaks there
broken_end : (P : Place) (k m : ℕ) → at_end P k ≡ breaks m → m ≡ k
unfolding at_end
broken_end (due s) k m h = same_place k m h
broken_end (in_name s x) k m h = same_place k m h
broken_end (behind s may d) k m h = same_place k m h
broken_end (at_length s d) k m h = same_place k m h
broken_end (in_length s d) k m h = same_place k m h
broken_end (ended d) k m h = absurd (never_both (draws d) m d h refl)

module _ (limit : ℕ) where
  -- some bytes lead from this place to the end of a drawing
  abbrev pub CanEnd : Place → Type 0
  CanEnd P = (u : List ℕ) × (d : Drawing) × (run limit P u ≡ some (ended d))

  closed :
      (s : List Open) (may : Bool) (d : Drawing)
      → (d' : Drawing) × (run limit (behind s may d) (closers s) ≡ some (ended d'))
  unfolding closers run step follows closes blank
  closed [] true d = (d, refl)
  closed [] false d = (d, refl)
  closed (o ∷ s) true d =
      let r = closed s true (bracket (with_part o d)) in
      (r.0, r.1)
  closed (o ∷ s) false d =
      let r = closed s true (bracket (with_part o d)) in
      (r.0, r.1)

  closers_go_on :
      (f : ℕ → Bool) → f semicolon ≡ false → f closing ≡ false → (s : List Open) → goes_on f (closers s) ≡ true
  unfolding closers goes_on
  closers_go_on f p q [] = rw p
  closers_go_on f p q (o ∷ s) = rw q

  from_name : (s : List Open) (x : List ℕ) → CanEnd (in_name s x)
  from_name s x =
      let r = closed s true (name x) in
      let g : goes_on name_byte (closers s) ≡ true = unfold name_byte in closers_go_on name_byte refl refl s in
      (closers s, r.0, name_over limit s x (closers s) g ∙ r.1)

  from_length : (s : List Open) (d : Drawing) → CanEnd (in_length s d)
  from_length s d =
      let r = closed s false d in
      let g : goes_on length_byte (closers s) ≡ true = unfold length_byte in closers_go_on length_byte refl refl s in
      (closers s, r.0, length_over limit s d (closers s) g ∙ r.1)

  -- one byte more before
  from_step : (P Q : Place) (b : ℕ) → step limit P b ≡ some Q → CanEnd Q → CanEnd P
  from_step P Q b h c = (b ∷ c.0, c.1, run_step limit P Q b c.0 h ∙ c.2)

  from_due : (o : Open) (s : List Open) → CanEnd (due (o ∷ s))
  from_due o s =
      from_step (due (o ∷ s)) (in_name (o ∷ s) (97 ∷ [])) 97 (unfold step blank name_byte inside in refl)
      (from_name (o ∷ s) (97 ∷ []))

  pub can_end : 0 < limit → (P : Place) → CanEnd P
  can_end l (due []) =
      from_step (due []) (due (none ∷ [])) opening (unfold step blank in rw (lt-ltb 0 limit l)) (from_due none [])
  can_end l (due (o ∷ s)) = from_due o s
  can_end l (in_name s x) = from_name s x
  can_end l (behind s may d) = (closers s, (closed s may d).0, (closed s may d).1)
  can_end l (at_length s d) =
      from_step (at_length s d) (in_length s d) 48 (unfold step length_byte in refl) (from_length s d)
  can_end l (in_length s d) = from_length s d
  can_end l (ended d) = unfold run in ([], d, refl)

  -- where a reading breaks: the bytes before are run over, and with the next, if there is one, no more
  pub record Stops (P : Place) (t : List ℕ) (j : ℕ) : Type 0 where
    pub within : j ≤ length t
    pub at : Place
    pub before : run limit P (take j t) ≡ some at
    pub with_it : j < length t → run limit P (take (suc j) t) ≡ none

  pub stops :
      (P : Place) (k : ℕ) (t : List ℕ) (m : ℕ) → read_on limit P k t ≡ breaks m → (j : ℕ) × (m ≡ k + j) × Stops P t j
  unfolding read_on run
  stops P k [] m h = (
    0,
    broken_end P k m h ∙ sym (add-zero k),
    record { within = omega arith; at = P; before = refl; with_it = λ l. absurd (omega arith) },
  )
  stops P k (b ∷ t) m h = go (step limit P b) refl (λ Q. stops Q (suc k) t m)
    where
      go :
          (o : Option Place) → step limit P b ≡ o
          → ((Q : Place) → read_on limit Q (suc k) t ≡ breaks m → (j : ℕ) × (m ≡ suc k + j) × Stops Q t j)
          → (j : ℕ) × (m ≡ k + j) × Stops P (b ∷ t) j
      go none e ih = (
        0,
        same_place k m (rw (e, read_on) at h) ∙ sym (add-zero k),
        record { within = omega arith; at = P; before = refl; with_it = λ l. rw (e, run) },
      )
      go (some Q) e ih =
          let r = ih Q (rw (e, read_on) at h) in
          let S = r.2 in (
            suc r.0,
            omega (arith, r.1),
            record {
              within = omega (arith, S.within);
              at = S.at;
              before = rw (e, run) S.before;
              with_it = λ l. rw (e, run) (S.with_it (omega arith));
            },
          )
