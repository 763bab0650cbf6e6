-- What is read nests no deeper than the limit: so does all that is drawn so far, within the brackets that are open.
use mathlib.Core.Path.{◌≡◌}
use mathlib.Core.Bool.{Bool, true, false, ◌&&◌}
use mathlib.Core.List.{List, [], ◌∷◌, ◌++◌}
use mathlib.Core.Option.{none, some}
use Prim.Native.Nat.{ℕ, suc, ◌+◌, ◌≤◌}
use native.Mathlib.Omega.{arith}
use borrow.Author.Tests.{ltb-true}
use lib.Dec.{ltb, eqb}
use lib.ListN.{length}
use Rattle.base.proofs.Bools.{and_both}
use Rattle.sheet_rules.specs.Sheets.{name_byte}
use Rattle.newick_rules.specs.Drawings.{Drawing, name, bracket, nesting, nesting_of_parts}
use Rattle.newick_rules.specs.Reader.{opening, closing, comma, colon, semicolon, blank, length_byte, Open}
use Rattle.newick_rules.specs.Reader.{with_part, Place, due, in_name, behind, at_length, in_length, ended, closes}
use Rattle.newick_rules.specs.Reader.{follows, inside, step}
use Rattle.newick_rules.proofs.Running.{If, if_cond, run, run_keeps}

-- how deep the parts of an open bracket nest
abbrev pub open_nesting : Open → ℕ
open_nesting none = 0
open_nesting (some p) = nesting_of_parts p

module _ (limit : ℕ) where
  -- each open bracket, with its parts, is no deeper than the limit
  abbrev pub StackFits : List Open → Type 0
  StackFits [] = Unit {0}
  StackFits (o ∷ s) = (suc (length s) + open_nesting o ≤ limit) × StackFits s

  abbrev pub Deep : List Open → Drawing → Type 0
  Deep s d = StackFits s × (length s + nesting d ≤ limit)

  abbrev pub Fits : Place → Type 0
  Fits (due s) = StackFits s
  Fits (in_name s x) = StackFits s
  Fits (behind s may d) = Deep s d
  Fits (at_length s d) = Deep s d
  Fits (in_length s d) = Deep s d
  Fits (ended d) = nesting d ≤ limit

  part_nests :
      (o : Open) (d : Drawing) (k : ℕ) → k + open_nesting o ≤ limit → k + nesting d ≤ limit
      → k + nesting_of_parts (with_part o d) ≤ limit
  unfolding with_part nesting_of_parts
  part_nests none d k p q = q
  part_nests (some p') d k p q = omega arith

  closes_fit : (s : List Open) (d : Drawing) (b : ℕ) → Deep s d → If Fits (closes s d b)
  unfolding closes nesting
  closes_fit [] d b f = if_cond Fits (eqb b semicolon) (ended d) none (λ h. omega (arith, f.1)) tt
  closes_fit (o ∷ s) d b f =
      let n = part_nests o d (suc (length s)) f.0.0 f.1 in
      if_cond Fits (eqb b comma) (due (some (with_part o d) ∷ s)) _ (λ h. (n, f.0.1))
      (if_cond Fits (eqb b closing) (behind s true (bracket (with_part o d))) none
      (λ h. (f.0.1, omega (arith, n))) tt)

  follows_fit : (s : List Open) (may : Bool) (d : Drawing) (b : ℕ) → Deep s d → If Fits (follows s may d b)
  unfolding follows
  follows_fit s may d b f =
      if_cond Fits (blank b) (behind s may d) _ (λ h. f)
      (if_cond Fits (may && eqb b colon) (at_length s d) (closes s d b) (λ h. f) (closes_fit s d b f))

  name_deep : (s : List Open) (x : List ℕ) → StackFits s → Deep s (name x)
  unfolding nesting
  name_deep [] x f = (tt, omega arith)
  name_deep (o ∷ s) x f = (f, omega (arith, f.0))

  step_fits : (P : Place) (b : ℕ) → Fits P → If Fits (step limit P b)
  unfolding step
  step_fits (due s) b f =
      if_cond Fits (blank b) (due s) _ (λ h. f)
      (if_cond Fits (eqb b opening && ltb (length s) limit) (due (none ∷ s)) _
      (λ h. (omega (arith, ltb-true (length s) limit (and_both (eqb b opening) (ltb (length s) limit) h).1), f))
      (if_cond Fits (name_byte b && inside s) (in_name s (b ∷ [])) none (λ h. f) tt))
  step_fits (in_name s x) b f =
      if_cond Fits (name_byte b) (in_name s (x ++ (b ∷ []))) (follows s true (name x) b) (λ h. f)
      (follows_fit s true (name x) b (name_deep s x f))
  step_fits (behind s may d) b f = follows_fit s may d b f
  step_fits (at_length s d) b f = if_cond Fits (length_byte b) (in_length s d) none (λ h. f) tt
  step_fits (in_length s d) b f =
      if_cond Fits (length_byte b) (in_length s d) (follows s false d b) (λ h. f) (follows_fit s false d b f)
  step_fits (ended d) b f = if_cond Fits (blank b) (ended d) none (λ h. f) tt

  pub run_fits : (P Q : Place) (t : List ℕ) → Fits P → run limit P t ≡ some Q → Fits Q
  run_fits P Q t f h = run_keeps limit (λ u. Fits) (λ u. step_fits) P Q [] t f h
