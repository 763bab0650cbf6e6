-- The reader by its laws: it draws exactly the right texts, and breaks exactly where a text breaks.
use mathlib.Core.Path.{◌≡◌, refl, ap, ◌∙◌}
use mathlib.Core.Logic.{◌↔◌}
use mathlib.Core.List.{List, [], ◌++◌, append_assoc}
use Prim.Native.Nat.{ℕ, suc, ◌+◌, ◌-◌, ◌<◌}
use native.Mathlib.Omega.{arith}
use native.Mathlib.Decide.{dec_lt}
use lib.ListN.{take, drop}
use lib.Seq.{take-add}
use Rattle.base.proofs.Lists.{none_not_some}
use Rattle.newick_rules.specs.Drawings.{Drawing}
use Rattle.newick_rules.specs.Reader.{due, ended, Reading, draws, breaks, read}
use Rattle.newick_rules.specs.Writings.{Right, BreaksAt}
use Rattle.newick_rules.proofs.Running.{never_both, run, ended_draws, draws_ended, run_append, broken_append}
use Rattle.newick_rules.proofs.Complete.{complete}
use Rattle.newick_rules.proofs.Sound.{sound}
use Rattle.newick_rules.proofs.First.{CanEnd, can_end, Stops, stops}

-- what is read is drawn by a right text, and a right text is read as what it draws
pub reads : (limit : ℕ) (t : List ℕ) (d : Drawing) → (read limit t ≡ draws d) ↔ Right limit t d
reads limit t d = (sound limit t d, complete limit t d)

module _ (limit : ℕ) (some_bracket : 0 < limit) (t : List ℕ) where
  stopped : (k m : ℕ) → read limit t ≡ breaks m → Stops limit (due []) t k → BreaksAt limit t k
  unfolding read
  stopped k m h S = record {
    within = S.within;
    begins = (
      c.0,
      c.1,
      sound limit (take k t ++ c.0) c.1
          (ended_draws limit (due []) 0 (take k t ++ c.0) c.1
          (run_append limit (due []) S.at (take k t) c.0 S.before ∙ c.2)),
    );
    no_more = λ l rest d R.
        let u = take (suc k) t in
        let led = draws_ended limit (due []) 0 (u ++ rest) d (complete limit (u ++ rest) d R) in
        none_not_some (run limit (due []) (u ++ rest)) (ended d) led
        (broken_append limit (due []) u rest (S.with_it l));
    no_whole = λ d R. never_both (read limit t) m d h (complete limit t d R);
  }
    where
      c : CanEnd limit S.at
      c = can_end limit some_bracket S.at

  break_at : (k : ℕ) → read limit t ≡ breaks k → BreaksAt limit t k
  unfolding read
  break_at k h =
      let r = stops limit (due []) 0 t k h in
      let e : r.0 ≡ k = omega (arith, r.1) in
      rw e at (stopped r.0 k h r.2)

  -- a text breaks at one place only
  not_before : (k m : ℕ) → k < m → BreaksAt limit t k → BreaksAt limit t m → ⊥
  not_before k m l K M =
      let b = M.begins in
      let R : Right limit (take (suc k) t ++ (take (m - suc k) (drop (suc k) t) ++ b.0)) b.1 =
      rw (← append_assoc, ← take-add (suc k) (m - suc k) t, all) b.2 in
      K.no_more (omega (arith, M.within)) (take (m - suc k) (drop (suc k) t) ++ b.0) b.1 R
    where
      all : suc k + (m - suc k) ≡ m
      all = omega arith

  one_place : (k m : ℕ) → BreaksAt limit t k → BreaksAt limit t m → k ≡ m
  one_place k m K M = elim (dec_lt k m) [
    | yes l ↦ absurd (not_before k m l K M)
    | no g ↦ elim (dec_lt m k) [ yes l ↦ absurd (not_before m k l M K) | no g' ↦ omega arith ]
  ]

  break_found : (k : ℕ) → BreaksAt limit t k → read limit t ≡ breaks k
  break_found k K = go (read limit t) refl
    where
      go : (r : Reading) → read limit t ≡ r → read limit t ≡ breaks k
      go (draws d) h = absurd (K.no_whole d (sound limit t d h))
      go (breaks m) h = h ∙ ap breaks (one_place m k (break_at m h) K)

  -- the reader breaks at an offset exactly when the text does
  pub reader_breaks : (k : ℕ) → (read limit t ≡ breaks k) ↔ BreaksAt limit t k
  reader_breaks k = (break_at k, break_found k)
