-- The reader as it runs, without offsets: from place to place, over bytes one after the other.
use mathlib.Core.Path.{◌≡◌, refl}
use mathlib.Core.Bool.{Bool, true, false, cond}
use mathlib.Core.List.{List, [], ◌∷◌, ◌++◌, append-nil, append_assoc}
use mathlib.Core.Option.{Option, none, some}
use Prim.Native.Nat.{ℕ, suc}
use native.Mathlib.Omega.{arith}
use Rattle.base.proofs.Lists.{none_not_some}
use Rattle.newick_rules.specs.Drawings.{Drawing}
use Rattle.newick_rules.specs.Reader.{Place, due, in_name, behind, at_length, in_length, ended, step}
use Rattle.newick_rules.specs.Reader.{Reading, draws, breaks, at_end, read_on}

-- where the reader stands behind these bytes, if none of them breaks the grammar
unfoldable pub run : ℕ → Place → List ℕ → Option Place
run limit P [] = some P
run limit P (b ∷ t) = elim (step limit P b) [ none ↦ none | some P' ↦ run limit P' t ]

-- what holds of an answer, if there is one
abbrev pub If : (Place → Type 0) → Option Place → Type 0
If F none = Unit {0}
If F (some P) = F P

pub if_cond :
    (F : Place → Type 0) (b : Bool) (P : Place) (o : Option Place) → (b ≡ true → F P) → If F o
    → If F (cond b (some P) o)
if_cond F true P o p q = p refl
if_cond F false P o p q = q

pub if_map : (F G : Place → Type 0) → ((P : Place) → F P → G P) → (o : Option Place) → If F o → If G o
if_map F G m none f = tt
if_map F G m (some P) f = m P f

pub never_both : (r : Reading) (k : ℕ) (d : Drawing) → r ≡ breaks k → r ≡ draws d → ⊥
never_both r k d p q = let z : ◌≡◌ {A = ℕ} 0 1 = cc in omega arith

-- at the end of a text only the place behind the semicolon draws
at_its_end : (P : Place) (k : ℕ) (d : Drawing) → at_end P k ≡ draws d → some P ≡ some (ended d)
unfolding at_end
at_its_end (due s) k d h = absurd (never_both (breaks k) k d refl h)
at_its_end (in_name s x) k d h = absurd (never_both (breaks k) k d refl h)
at_its_end (behind s may e) k d h = absurd (never_both (breaks k) k d refl h)
at_its_end (at_length s e) k d h = absurd (never_both (breaks k) k d refl h)
at_its_end (in_length s e) k d h = absurd (never_both (breaks k) k d refl h)
at_its_end (ended e) k d h = (let q : e ≡ d = cc in rw q)

module _ (limit : ℕ) where
  pub run_step : (P Q : Place) (b : ℕ) (t : List ℕ) → step limit P b ≡ some Q → run limit P (b ∷ t) ≡ run limit Q t
  unfolding run
  run_step P Q b t h = rw (h, run)

  -- two places from which the next byte leads alike
  pub run_alike :
      (P Q : Place) (b : ℕ) (t : List ℕ) → step limit P b ≡ step limit Q b → run limit P (b ∷ t) ≡ run limit Q (b ∷ t)
  unfolding run
  run_alike P Q b t h = rw (h, run)

  -- a run that comes to the end of a drawing has read it
  pub ended_draws :
      (P : Place) (k : ℕ) (t : List ℕ) (d : Drawing) → run limit P t ≡ some (ended d) → read_on limit P k t ≡ draws d
  unfolding run read_on at_end
  ended_draws P k [] d h = (let e : P ≡ ended d = cc in rw e)
  ended_draws P k (b ∷ t) d h = go (step limit P b) refl (λ Q. ended_draws Q (suc k) t d)
    where
      go :
          (o : Option Place) → step limit P b ≡ o
          → ((Q : Place) → run limit Q t ≡ some (ended d) → read_on limit Q (suc k) t ≡ draws d)
          → read_on limit P k (b ∷ t) ≡ draws d
      go none e ih = absurd (none_not_some _ (ended d) (rw (e, run) at h) refl)
      go (some Q) e ih = rw (e, read_on) (ih Q (rw (e, run) at h))

  -- and the other way round
  pub draws_ended :
      (P : Place) (k : ℕ) (t : List ℕ) (d : Drawing) → read_on limit P k t ≡ draws d → run limit P t ≡ some (ended d)
  unfolding run read_on
  draws_ended P k [] d h = at_its_end P k d h
  draws_ended P k (b ∷ t) d h = go (step limit P b) refl (λ Q. draws_ended Q (suc k) t d)
    where
      go :
          (o : Option Place) → step limit P b ≡ o
          → ((Q : Place) → read_on limit Q (suc k) t ≡ draws d → run limit Q t ≡ some (ended d))
          → run limit P (b ∷ t) ≡ some (ended d)
      go none e ih = absurd (never_both (breaks k) k d refl (rw (e, read_on) at h))
      go (some Q) e ih = rw (e, run) (ih Q (rw (e, read_on) at h))

  -- a run goes on where an earlier one came to
  pub run_append :
      (P Q : Place) (t u : List ℕ) → run limit P t ≡ some Q → run limit P (t ++ u) ≡ run limit Q u
  unfolding run
  run_append P Q [] u h = (let e : P ≡ Q = cc in rw e)
  run_append P Q (b ∷ t) u h = go (step limit P b) refl (λ P'. run_append P' Q t u)
    where
      go :
          (o : Option Place) → step limit P b ≡ o
          → ((P' : Place) → run limit P' t ≡ some Q → run limit P' (t ++ u) ≡ run limit Q u)
          → run limit P (b ∷ (t ++ u)) ≡ run limit Q u
      go none e ih = absurd (none_not_some _ Q (rw (e, run) at h) refl)
      go (some P') e ih = rw (e, run) (ih P' (rw (e, run) at h))

  -- where it broke, it stays broken
  pub broken_append : (P : Place) (t u : List ℕ) → run limit P t ≡ none → run limit P (t ++ u) ≡ none
  unfolding run
  broken_append P [] u h = absurd (none_not_some _ P refl h)
  broken_append P (b ∷ t) u h = go (step limit P b) refl (λ P'. broken_append P' t u)
    where
      go :
          (o : Option Place) → step limit P b ≡ o
          → ((P' : Place) → run limit P' t ≡ none → run limit P' (t ++ u) ≡ none)
          → run limit P (b ∷ (t ++ u)) ≡ none
      go none e ih = rw (e, run)
      go (some P') e ih = rw (e, run) (ih P' (rw (e, run) at h))

  -- what each byte keeps of the bytes so far and the place behind them, a run keeps
  pub run_keeps :
      (F : List ℕ → Place → Type 0)
      → ((t : List ℕ) (P : Place) (b : ℕ) → F t P → If (F (t ++ (b ∷ []))) (step limit P b))
      → (P Q : Place) (t u : List ℕ) → F t P → run limit P u ≡ some Q → F (t ++ u) Q
  unfolding run
  run_keeps F k P Q t [] f h = (let e : P ≡ Q = cc in rw (append-nil t, ← e) f)
  run_keeps F k P Q t (b ∷ u) f h = go (step limit P b) refl (λ P'. run_keeps F k P' Q (t ++ (b ∷ [])) u)
    where
      go :
          (o : Option Place) → step limit P b ≡ o
          → ((P' : Place) → F (t ++ (b ∷ [])) P' → run limit P' u ≡ some Q → F ((t ++ (b ∷ [])) ++ u) Q)
          → F (t ++ (b ∷ u)) Q
      go none e ih = absurd (none_not_some _ Q (rw (e, run) at h) refl)
      go (some P') e ih =
          rw (append_assoc t (b ∷ []) u) at (ih P' (rw e at (k t P b f)) (rw (e, run) at h))
