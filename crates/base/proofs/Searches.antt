-- Searches from the front: the first of f 0, .., f (n − 1) that passes a test. What is found from a place on is what
-- stands there, or what is found from the next place on; so a loop that keeps "found from here is found from the
-- start" ends with the answer. Whether some member of a list's first part passes, and whether every member does.
use mathlib.Core.Path.{◌≡◌, refl, ap, ◌∙◌}
use mathlib.Core.Bool.{Bool, true, false}
use mathlib.Core.List.{List, [], ◌∷◌}
use mathlib.Core.Option.{none, some}
use Prim.Native.Nat.{ℕ, zero, suc, ◌+◌, ◌≤◌, ◌<◌}
use native.Mathlib.Numerals.{add-one}
use native.Mathlib.Omega.{arith}
use lib.ListN.{length, get_or, take, drop, drop_of_length-le}
use lib.Seq.{drop-cons, length-take-le, get_or-take}
use Rattle.base.specs.Lists.{tab, any_in, all_in, find}
use Rattle.base.proofs.Bools.{or_left, or_right, or_none, and_both, and_is}
use Rattle.base.proofs.Lists.{length_tab, getD_tab}

module _ {A : Type 0} (test : A → Bool) (n : ℕ) (f : ℕ → A) where
  rest : (k : ℕ) → k < n → drop k (tab n f) ≡ f k ∷ drop (k + 1) (tab n f)
  rest k l =
      drop-cons (tab n f) k (f k) (rw length_tab l) ∙ rw (getD_tab n f k (f k) l, add-one)

  -- at place k; past it; at the end
  pub find_here : (k : ℕ) → k < n → test (f k) ≡ true → find test (drop k (tab n f)) ≡ some (f k)
  find_here k l t = ap (find test) (rest k l) ∙ (unfold find in rw (t, find))

  pub find_on :
      (k : ℕ) → k < n → test (f k) ≡ false → find test (drop k (tab n f)) ≡ find test (drop (k + 1) (tab n f))
  find_on k l t = ap (find test) (rest k l) ∙ (unfold find in rw (t, find))

  pub find_end : (k : ℕ) → n ≤ k → find test (drop k (tab n f)) ≡ none
  find_end k l =
      ap (find test) (drop_of_length-le (tab n f) {i = k} (rw length_tab l)) ∙ (unfold find in refl)

  -- where none before place k passes
  find_past :
      (k : ℕ) → k ≤ n → ((i : ℕ) → i < k → test (f i) ≡ false) → find test (tab n f) ≡ find test (drop k (tab n f))
  find_past zero l h = unfold drop in refl
  find_past (suc k) l h =
      find_past k (omega arith) (λ i li. h i (omega arith)) ∙ rw (← add-one k)
      (find_on k (omega arith) (h k (omega arith)))

  pub first_found :
      (k : ℕ) → k < n → test (f k) ≡ true → ((i : ℕ) → i < k → test (f i) ≡ false) → find test (tab n f) ≡ some (f k)
  first_found k l t h = find_past k (omega arith) h ∙ find_here k l t

module _ {A : Type 0} (f : A → Bool) (d : A) where
  pub any_at : (l : List A) (k : ℕ) → k < length l → f (get_or l k d) ≡ true → any_in f l ≡ true
  unfolding any_in
  any_at [] k h t = absurd (omega arith)
  any_at (x ∷ l) zero h t = or_left (f x) _ t
  any_at (x ∷ l) (suc k) h t = or_right (f x) _ (any_at l k (omega arith) t)

  any_none : (l : List A) → ((k : ℕ) → k < length l → f (get_or l k d) ≡ false) → any_in f l ≡ false
  unfolding any_in
  any_none [] h = refl
  any_none (x ∷ l) h = or_none (f x) _ (h 0 (omega arith)) (any_none l (λ k lk. h (suc k) (omega arith)))

  -- some of the first p passes; none does
  pub any_before : (l : List A) (p k : ℕ) → p ≤ length l → k < p → f (get_or l k d) ≡ true → any_in f (take p l) ≡ true
  any_before l p k h lk t =
      any_at (take p l) k (rw (length-take-le p l h) lk) (rw (get_or-take p l k d lk) t)

  pub none_before :
      (l : List A) (p : ℕ) → p ≤ length l → ((k : ℕ) → k < p → f (get_or l k d) ≡ false) → any_in f (take p l) ≡ false
  none_before l p h g = any_none (take p l) (λ k lk.
      let less : k < p = rw (length-take-le p l h) at lk in
      rw (get_or-take p l k d less) (g k less))

  -- every member passes exactly when the member at each place does
  pub all_places : (l : List A) → ((k : ℕ) → k < length l → f (get_or l k d) ≡ true) → all_in f l ≡ true
  unfolding all_in
  all_places [] h = refl
  all_places (x ∷ l) h = and_is _ _ (h 0 (omega arith)) (all_places l (λ k lk. h (suc k) (omega arith)))

  pub all_at : (l : List A) → all_in f l ≡ true → (k : ℕ) → k < length l → f (get_or l k d) ≡ true
  unfolding all_in
  all_at [] h k lk = absurd (omega arith)
  all_at (x ∷ l) h zero lk = (and_both (f x) (all_in f l) h).0
  all_at (x ∷ l) h (suc k) lk = all_at l (and_both (f x) (all_in f l) h).1 k (omega arith)
