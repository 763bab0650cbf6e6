-- The searches of the checks 4 and 5, step by step.
use mathlib.Core.Path.{◌≡◌, refl, sym, ◌∙◌}
use mathlib.Core.Logic.{◌≢◌}
use mathlib.Core.Bool.{Bool, true, false, not, ◌&&◌}
use mathlib.Core.List.{List}
use mathlib.Core.Option.{Option, none, some}
use Prim.Native.Nat.{ℕ, zero, suc, ◌+◌, ◌-◌, ◌*◌, ◌/◌, ◌%◌, ◌≤◌, ◌<◌}
use native.Mathlib.Nat.{add-zero}
use native.Mathlib.Numerals.{add-one}
use native.Mathlib.Omega.{arith}
use borrow.Author.Tests.{eq-eqb, ne_eqb, lt-ltb, le-ltb}
use lib.Dec.{ltb, eqb}
use lib.ListN.{drop}
use mir.Val.{bool_byte}
use Rattle.base.specs.Lists.{tab, in_rows, find}
use Rattle.base.proofs.Lists.{row_of, column_of, place}
use Rattle.base.proofs.Searches.{find_here, find_on, find_end}
use Rattle.trees.specs.Tables.{cell, first_filled, first_unequal}
use Rattle.table_checks.specs.inner.Searches.{unequal_from, FourAgree}

-- a test as a number
pub byte_told : (b : Bool) {x : ℕ} → x ≡ bool_byte b → (x ≤ 1) × (x ≡ 1 → b ≡ true)
byte_told true e = (omega (arith, e), λ h. refl)
byte_told false e = (omega (arith, e), λ h. absurd (omega (arith, e, h)))

-- The diagonal: the first leaf from i on whose cell is not 0.
unfoldable pub filled_from : ℕ → List ℕ → ℕ → Option ℕ
filled_from n t i = find (λ i. not (eqb (cell n t i i) 0)) (drop i (tab n (λ i. i)))

module _ (n : ℕ) (t : List ℕ) where
  pub filled_start : filled_from n t 0 ≡ first_filled n t
  unfolding filled_from first_filled
  filled_start = refl

  pub filled_here : (i : ℕ) → i < n → cell n t i i ≢ 0 → filled_from n t i ≡ some i
  unfolding filled_from
  filled_here i l d =
      find_here (λ i. not (eqb (cell n t i i) 0)) n (λ i. i) i l (rw (ne_eqb (cell n t i i) 0 d))

  pub filled_on : (i : ℕ) → i < n → cell n t i i ≡ 0 → filled_from n t i ≡ filled_from n t (i + 1)
  unfolding filled_from
  filled_on i l e = find_on (λ i. not (eqb (cell n t i i) 0)) n (λ i. i) i l (rw e)

  pub filled_end : (i : ℕ) → n ≤ i → filled_from n t i ≡ none
  unfolding filled_from
  filled_end i l = find_end (λ i. not (eqb (cell n t i i) 0)) n (λ i. i) i l

  -- The halves: the first pair i, j with i < j and unequal cells, from place i * n + j on.
  test : ℕ × ℕ → Bool
  test p = ltb p.0 p.1 && not (eqb (cell n t p.0 p.1) (cell n t p.1 p.0))

  pair : ℕ → ℕ × ℕ
  pair k = (k / n, k % n)

  test_at : (i j : ℕ) → j < n → test (pair (i * n + j)) ≡ test (i, j)
  unfolding pair
  test_at i j l = rw (row_of n i j l, column_of n i j l)

  pub unequal_start : unequal_from n t 0 ≡ first_unequal n t
  unfolding unequal_from first_unequal
  unequal_start = refl

  pub unequal_here :
      (i j : ℕ) → i < j → j < n → cell n t i j ≢ cell n t j i → unequal_from n t (i * n + j) ≡ some (i, j)
  unfolding unequal_from in_rows pair test
  unequal_here i j a b d =
      find_here test (n * n) pair (i * n + j) (place n i j (omega arith) b)
      (test_at i j b ∙ rw (lt-ltb i j a, ne_eqb (cell n t i j) (cell n t j i) d))
      ∙ rw (row_of n i j b, column_of n i j b)

  step :
      (i j : ℕ) → i < n → j < n → test (i, j) ≡ false
      → unequal_from n t (i * n + j) ≡ unequal_from n t (i * n + (j + 1))
  unfolding unequal_from in_rows pair test
  step i j a b h =
      let next : i * n + j + 1 ≡ i * n + (j + 1) = omega arith in
      rw (← next) (find_on test (n * n) pair (i * n + j) (place n i j a b) (test_at i j b ∙ h))

  pub unequal_on :
      (i j : ℕ) → i < j → j < n → cell n t i j ≡ cell n t j i
      → unequal_from n t (i * n + j) ≡ unequal_from n t (i * n + (j + 1))
  unequal_on i j a b e =
      step i j (omega arith) b (unfold test in rw (lt-ltb i j a, e, eq-eqb (cell n t j i) (cell n t j i) refl))

  -- a row is searched from its diagonal on
  pub unequal_after : (i j : ℕ) → i < n → j ≤ i + 1 → unequal_from n t (i * n) ≡ unequal_from n t (i * n + j)
  unequal_after i zero a b = rw (add-zero (i * n))
  unequal_after i (suc j) a b =
      rw (← add-one j)
      (unequal_after i j a (omega arith)
      ∙ step i j a (omega arith) (unfold test in rw (le-ltb i j (omega arith))))

  pub unequal_end : (k : ℕ) → n * n ≤ k → unequal_from n t k ≡ none
  unfolding unequal_from in_rows pair test
  unequal_end k l = find_end test (n * n) pair k l

  -- a row none of whose cells differs from its mirror cell is passed
  row_on :
      (a : ℕ) → a < n → ((b : ℕ) → a < b → b < n → cell n t a b ≡ cell n t b a) → (d : ℕ) → a + 1 + d ≤ n
      → unequal_from n t (a * n) ≡ unequal_from n t (a * n + (a + 1 + d))
  row_on a l h zero m =
      let here : a + 1 + 0 ≡ a + 1 = omega arith in
      rw here (unequal_after a (a + 1) l (omega arith))
  row_on a l h (suc d) m =
      let next : a + 1 + suc d ≡ a + 1 + d + 1 = omega arith in
      rw next
      (row_on a l h d (omega arith)
      ∙ unequal_on a (a + 1 + d) (omega arith) (omega arith) (h (a + 1 + d) (omega arith) (omega arith)))

  row_agrees :
      (a : ℕ) → a < n → ((b : ℕ) → a < b → b < n → cell n t a b ≡ cell n t b a)
      → unequal_from n t (a * n) ≡ unequal_from n t ((a + 1) * n)
  row_agrees a l h =
      let end : a * n + (a + 1 + (n - (a + 1))) ≡ (a + 1) * n = omega arith in
      row_on a l h (n - (a + 1)) (omega arith) ∙ rw end

  -- the cells of leaf j with four leaves, one by one
  pub four_told :
      (i j : ℕ) → cell n t j i ≡ cell n t i j → cell n t j (i + 1) ≡ cell n t (i + 1) j
      → cell n t j (i + 2) ≡ cell n t (i + 2) j → cell n t j (i + 3) ≡ cell n t (i + 3) j → FourAgree n t i j
  four_told i j a b c d zero l = rw (add-zero i) a
  four_told i j a b c d (suc zero) l = b
  four_told i j a b c d (suc (suc zero)) l = c
  four_told i j a b c d (suc (suc (suc zero))) l = d
  four_told i j a b c d (suc (suc (suc (suc k)))) l = absurd (omega arith)

  -- and so are four
  pub four_agree :
      (i : ℕ) → i + 3 < n → ((j : ℕ) → i < j → j < n → FourAgree n t i j)
      → unequal_from n t (i * n) ≡ unequal_from n t ((i + 4) * n)
  four_agree i l h =
      let first : i + 0 ≡ i = omega arith in
      let second : i + 0 + 1 ≡ i + 1 = omega arith in
      let third : i + 1 + 1 ≡ i + 2 = omega arith in
      let fourth : i + 2 + 1 ≡ i + 3 = omega arith in
      let last : i + 3 + 1 ≡ i + 4 = omega arith in
      (rw (second, first) at (row 0 (omega arith)))
      ∙ (rw third at (row 1 (omega arith)))
      ∙ (rw fourth at (row 2 (omega arith)))
      ∙ (rw last at (row 3 (omega arith)))
    where
      row : (k : ℕ) → k < 4 → unequal_from n t ((i + k) * n) ≡ unequal_from n t ((i + k + 1) * n)
      row k lk = row_agrees (i + k) (omega arith) (λ b lb mb. sym (h b (omega arith) mb k lk))
