-- Proposals: leaves i and j name the subtrees that their labels stand for, so the test of the two labels says whether
-- the pair is eligible, and a merge of the labels is the step i j. Where all n − 1 are accepted, they are a finished
-- list, so the guided rebuild has our own rebuild's result.
use Rattle.std.specs.Prelude.{Ok, Err}
use mathlib.Core.Path.{◌≡◌, refl, sym, ap, ◌∙◌}
use mathlib.Core.Logic.{◌≢◌, inl, inr}
use mathlib.Core.Bool.{Bool, true, false}
use mathlib.Core.List.{List, ◌∷◌}
use mathlib.Core.Option.{none, some}
use Prim.Native.Nat.{ℕ, suc, ◌+◌, ◌-◌, ◌*◌, ◌/◌, ◌≤◌, ◌<◌}
use native.Mathlib.Numerals.{add-one}
use native.Mathlib.Omega.{arith}
use lib.ListN.{length, get_or, drop, drop_of_length-le}
use lib.Seq.{drop-cons}
use Rattle.refusals.specs.declared.Refusal.TheVariants.{Proposal}
use Rattle.base.proofs.Bools.{bool?, never, is_false, bool_iff}
use Rattle.base.proofs.Lists.{getD_tab}
use Rattle.limits.specs.Limits.{IsLeafCount}
use Rattle.refusals.specs.declared.Refusal.{Refusal}
use Rattle.refusals.specs.Refusals.{Answer, accepted, refused, outcome, written}
use Rattle.trees.specs.Trees.{leaves, least}
use Rattle.trees.specs.Tables.{cell, IsTable}
use Rattle.trees.proofs.Trees.{least_in}
use Rattle.trees.proofs.Tables.{halves_equal}
use Rattle.merging.specs.Merging.{State, start, eligible, step}
use Rattle.merging.specs.MergeLists.{each_eligible}
use Rattle.merging.specs.Rebuilds.{rebuilt, stop_at, guided}
use Rattle.merging.proofs.States.{WellFormed, wf_start, step_move}
use Rattle.merging.specs.inner.Runs.{Eligible}
use Rattle.merging.proofs.Runs.{wf_runs, runs_more, eligible_sound, eligible_complete, eligible_sym, step_sym}
use Rattle.merging.proofs.Runs.{differ, eligible_move}
use Rattle.merging.proofs.Rebuilds.{stop_eligible, stop_refused, guided_accepted, guided_refused}
use Rattle.merging.proofs.Demand3.{guided_own}
use Rattle.rebuild_answers.specs.Operations.{proposals}
use Rattle.rebuild_answers.proofs.RebuildRefusals.{many_proposals}
use Rattle.state_arrays.specs.inner.Fits.{SubtreesFit, Given, TwoLabels}
use Rattle.state_arrays.specs.inner.Merged.{MergeReady, Merged}
use Rattle.state_arrays.specs.inner.StateArrays.{HoldsState}
use Rattle.guided_rebuild.specs.inner.Proposals.{HoldsReached, HoldsSomeReached, Labels, Proposed}
use Rattle.guided_rebuild.specs.inner.Proposals.{StepsAccepted}
use Rattle.state_arrays.proofs.Fits.{two_turned}
use Rattle.state_arrays.proofs.StateArrays.{fits_eligible, eligible_fits, fair, two_merges, holds_step}

-- a proposal that is not eligible merges nothing
pub proposal_refused :
    {n s : ℕ} {table label m sizes label' m' sizes' : List ℕ} {i j : ℕ}
    → ((S : State) → HoldsReached n s table label m sizes S → Eligible n s (cell n table) S i j → ⊥)
    → Proposed n s table label m sizes label' m' sizes' i j false
proposal_refused {n} {s} {table} {i = i} {j = j} deny = record {
  told = λ S u. sym (is_false (eligible n s (cell n table) S i j) (λ e.
      deny S u (eligible_sound s (cell n table) (wf_runs (wf_start n) u.came) i j e)));
  merged = λ e. absurd (never e refl);
}

-- one that is eligible is merged
pub proposal_accepted :
    {n s : ℕ} {table label m sizes label' m' sizes' : List ℕ} {i j : ℕ}
    → ((S : State) → HoldsReached n s table label m sizes S
    → Eligible n s (cell n table) S i j × HoldsState n s label' m' sizes' (step S i j))
    → Proposed n s table label m sizes label' m' sizes' i j true
proposal_accepted {i = i} {j = j} h = record {
  told = λ S u. sym (eligible_complete (h S u).0);
  merged = λ e S u. record { came = runs_more u.came i j (h S u).0; holds = (h S u).1 };
}

-- Two labels, in a state that the arrays hold.
module _ {n s : ℕ} {table p label m sizes : List ℕ} {a b : ℕ} (q : Labels n s table label m sizes p a b) {S : State}
    (u : HoldsReached n s table label m sizes S) where
  w : WellFormed n S
  w = wf_runs (wf_start n) u.came

  pub one_label : a ≡ b → Eligible n s (cell n table) S a b → ⊥
  one_label e f = never (w.own b) (rw e at f.apart)

  module _ (d : a ≢ b) where
    pub two_labels : TwoLabels n table label m sizes p a b
    two_labels = record {
      fair = fair w u.holds q.given;
      first = q.first;
      second = q.second;
      differ = d;
      own_first = q.own_first;
      own_second = q.own_second;
    }

    pub merges_up : MergeReady n label m sizes p a b
    merges_up = two_merges w u.holds two_labels

    pub merges_down : MergeReady n label m sizes p b a
    merges_down = two_merges w u.holds (two_turned two_labels)

    pub labels_fit : Eligible n s (cell n table) S a b → SubtreesFit n table label m sizes p a b
    labels_fit = eligible_fits w u.holds q.given a b q.first q.second q.own_first q.own_second

    -- Where the labels meet, the pair is eligible, and the arrays after a merge of the two, the smaller one first, hold
    -- the next state.
    abbrev Next : (label' m' sizes' : List ℕ) → Type 0
    Next label' m' sizes' = Eligible n s (cell n table) S a b × HoldsState n s label' m' sizes' (step S a b)

    module _ (meets : SubtreesFit n table label m sizes p a b) where
      pair : Eligible n s (cell n table) S a b
      pair = fits_eligible w u.holds q.given a b q.first q.second q.own_first q.own_second d meets

      pub merged_up :
          {label' m' sizes' : List ℕ} → a < b → Merged n label m sizes p label' m' sizes' a b → Next label' m' sizes'
      merged_up l e =
          (pair, holds_step w u.holds a b l q.own_first q.own_second (differ pair) q.given e)

      pub merged_down :
          {label' m' sizes' : List ℕ} → b < a → Merged n label m sizes p label' m' sizes' b a → Next label' m' sizes'
      merged_down l e =
          let turned = eligible_sym (halves_equal q.given.is_table) w a b pair in
          let h = holds_step w u.holds b a l q.own_second q.own_first (differ turned) q.given e in
          (pair, rw (step_sym w a b pair) h)

-- Two leaves i and j, and their labels a and b: the proposal of the leaves is that of the labels.
module _ {n s : ℕ} {table p label m sizes : List ℕ} (g : Given n s table p)
    (st : HoldsSomeReached n s table label m sizes) {i j a b : ℕ}
    (li : i < n) (lj : j < n) (ea : a ≡ get_or label i 0) (eb : b ≡ get_or label j 0) where
  -- the label x of leaf k, in a state that the arrays hold
  record Label (S : State) (k x : ℕ) : Type 0 where
    pub within : x < n
    pub inside : leaves (S.tree k) x ≡ true
    pub outside : leaves (S.tree x) k ≡ true
    pub own : get_or label x 0 ≡ x

  label_of : {S : State} → HoldsReached n s table label m sizes S → (k x : ℕ) → k < n → x ≡ get_or label k 0
      → Label S k x
  label_of {S} u k x lk e = record {
    within = lx;
    inside = x_in;
    outside = rw (w.closed k x x_in) (w.own k);
    own = u.holds.labels x lx ∙ ap least (w.closed k x x_in) ∙ sym is_least;
  }
    where
      w : WellFormed n S
      w = wf_runs (wf_start n) u.came

      is_least : x ≡ least (S.tree k)
      is_least = e ∙ u.holds.labels k lk

      x_in : leaves (S.tree k) x ≡ true
      x_in = rw is_least (least_in (S.tree k))

      lx : x < n
      lx = w.below k x lk x_in

  pub labels_of : Labels n s table label m sizes p a b
  labels_of =
      let A = label_of st.stands i a li ea in
      let B = label_of st.stands j b lj eb in
      record {
        given = g;
        standing = st;
        first = A.within;
        second = B.within;
        own_first = A.own;
        own_second = B.own;
      }

  pub proposed_move :
      {label' m' sizes' : List ℕ} {r : Bool} → Proposed n s table label m sizes label' m' sizes' a b r
      → Proposed n s table label m sizes label' m' sizes' i j r
  proposed_move q = record {
    told = λ S u.
        let w = wf_runs (wf_start n) u.came in
        let A = label_of u i a li ea in
        let B = label_of u j b lj eb in
        let c = cell n table in
        q.told S u
        ∙ bool_iff _ _
        (λ e. eligible_complete (eligible_move w a b i j li lj A.inside B.inside (eligible_sound s c w a b e)))
        (λ e.
        eligible_complete
        (eligible_move w i j a b A.within B.within A.outside B.outside (eligible_sound s c w i j e)));
    merged = λ e S u.
        let w = wf_runs (wf_start n) u.came in
        let A = label_of u i a li ea in
        let B = label_of u j b lj eb in
        rw (step_move w a b i j A.inside B.inside) at (q.merged e S u);
  }

-- the k-th proposal
proposal :
    (n : ℕ) (l : List ℕ) → length l ≡ 2 * (n - 1) → (k : ℕ) → k < n - 1
    → drop k (proposals l) ≡ (get_or l (2 * k) 0, get_or l (2 * k + 1) 0) ∷ drop (suc k) (proposals l)
proposal n l e k h = drop-cons (proposals l) k (0, 0) inside ∙ rw at_k
  where
    inside : k < length (proposals l)
    inside = rw (many_proposals n l e) h

    at_k : get_or (proposals l) k (0, 0) ≡ (get_or l (2 * k) 0, get_or l (2 * k + 1) 0)
    at_k = unfold proposals in getD_tab (length l / 2) _ k (0, 0) (omega arith)

module _ {n s : ℕ} {table merges label m sizes : List ℕ} {k : ℕ}
    (f : StepsAccepted n s table merges label m sizes k) where
  -- all are accepted
  pub steps_end : n - 1 ≤ k → stop_at 0 n s table start (proposals merges) ≡ none
  steps_end h = sym f.rest ∙ rw (drop_of_length-le (proposals merges) few) (unfold stop_at in refl)
    where
      few : length (proposals merges) ≤ k
      few = rw (many_proposals n merges f.long) h

  -- the k-th names i and j
  module _ (h : k < n - 1) {i j : ℕ} (ei : i ≡ get_or merges (2 * k) 0) (ej : j ≡ get_or merges (2 * k + 1) 0) where
    next :
        stop_at k n s table f.state ((i, j) ∷ drop (suc k) (proposals merges))
        ≡ stop_at 0 n s table start (proposals merges)
    next = rw (ei, ej) (rw (proposal n merges f.long k h) at f.rest)

    module _ {label' m' sizes' : List ℕ} {r : Bool} (q : Proposed n s table label m sizes label' m' sizes' i j r) where
      told : r ≡ eligible n s (cell n table) f.state i j
      told = q.told f.state f.stands

      pub step_refused : r ≡ false → stop_at 0 n s table start (proposals merges) ≡ some k
      unfolding stop_at
      step_refused e = sym next ∙ rw (sym told ∙ e, stop_at)

      pub step_accepted : r ≡ true → StepsAccepted n s table merges label' m' sizes' (k + 1)
      unfolding stop_at
      step_accepted e = record {
        long = f.long;
        state = step f.state i j;
        stands = q.merged e f.state f.stands;
        rest = rw (add-one k) (rw (sym told ∙ e, stop_at) at next);
      }

-- Where a proposal is not accepted the guided rebuild is refused; where all are, it has our own rebuild's result.
module _ (n s : ℕ) (table : List ℕ) (L : List (ℕ × ℕ)) where
  pub guided_done : stop_at 0 n s table start L ≡ none → Ok tt ≡ outcome (guided n s table L)
  unfolding outcome
  guided_done h = rw (guided_accepted n s table L (stop_eligible n s table L h))

  pub guided_at : {k : ℕ} → stop_at 0 n s table start L ≡ some k → Err (Proposal k) ≡ outcome (guided n s table L)
  unfolding outcome
  guided_at {k} h = rw (stop_refused n s table L k h)

  pub guided_whole :
      IsLeafCount n → 0 < s → IsTable n table → length L ≡ n - 1 → outcome (guided n s table L) ≡ Ok tt
      → guided n s table L ≡ rebuilt n s table
  unfolding outcome
  guided_whole count sp is_table many done = elim (bool? (each_eligible n s table L)) [
    | inl each ↦ guided_own n count s sp table is_table L many each
    | inr short ↦
        let r = guided_refused n s table L short in
        let wrong = rw r.2 at done in
        absurd (let z : ◌≡◌ {A = ℕ} 0 1 = cc in omega arith)
  ]

-- an answer that is refused leaves the buffer as it was
pub refused_unwritten :
    {e : Refusal} (a : Answer (List ℕ)) (out : List ℕ) → outcome a ≡ Err e → out ≡ written a out
unfolding outcome written
refused_unwritten (accepted l) out h = absurd (let z : ◌≡◌ {A = ℕ} 0 1 = cc in omega arith)
refused_unwritten (refused r) out h = refl
