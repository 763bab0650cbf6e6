-- Pairs of numbers below n in row order: what passes nowhere, everywhere, somewhere, and the first pair that passes.
-- Pair (i, j) stands at place i * n + j.
use mathlib.Core.Path.{◌≡◌, sym, ◌∙◌}
use mathlib.Core.Logic.{◌⊎◌, inl, inr}
use mathlib.Core.Bool.{Bool, true, false}
use mathlib.Core.Option.{none, some}
use Prim.Native.Nat.{ℕ, zero, suc, ◌+◌, ◌*◌, ◌/◌, ◌%◌, ◌≤◌, ◌<◌}
use native.Mathlib.Nat.{mul-le-mul_right, suc-mul, div-lt_iff_lt-mul, mod-lt, div-add-mod'}
use native.Mathlib.Omega.{arith}
use native.Mathlib.Decide.{dec_lt, ℕ_discrete}
use lib.ListN.{length, get_or}
use Rattle.base.specs.Lists.{in_rows, any_in, all_in, find}
use Rattle.base.proofs.Bools.{never}
use Rattle.base.proofs.Lists.{length_tab, getD_tab, find_none, find_some, find_place, row_of, column_of, place}
use Rattle.base.proofs.Searches.{any_at, all_at}

-- the pair at each place, and the place of each pair
length_rows : (n : ℕ) → length (in_rows n) ≡ n * n
unfolding in_rows
length_rows n = length_tab {A = ℕ × ℕ} (n * n) (λ k. (k / n, k % n))

pair_at : (n k : ℕ) → k < n * n → get_or (in_rows n) k (0, 0) ≡ (k / n, k % n)
unfolding in_rows
pair_at n k l = getD_tab {A = ℕ × ℕ} (n * n) (λ k. (k / n, k % n)) k (0, 0) l

module _ (n i j : ℕ) (li : i < n) (lj : j < n) where
  in_list : i * n + j < length (in_rows n)
  in_list = rw length_rows (place n i j li lj)

  pair_there : get_or (in_rows n) (i * n + j) (0, 0) ≡ (i, j)
  pair_there = pair_at n (i * n + j) (place n i j li lj) ∙ rw (row_of n i j lj, column_of n i j lj)

-- no pair passes; every pair does; some pair does
pub none_in_rows :
    (n : ℕ) (f : ℕ × ℕ → Bool) → find f (in_rows n) ≡ none → (i j : ℕ) → i < n → j < n → f (i, j) ≡ false
none_in_rows n f h i j li lj =
    rw (pair_there n i j li lj) at (find_none f (in_rows n) h (i * n + j) (0, 0) (in_list n i j li lj))

pub every_in_rows :
    (n : ℕ) (f : ℕ × ℕ → Bool) → all_in f (in_rows n) ≡ true → (i j : ℕ) → i < n → j < n → f (i, j) ≡ true
every_in_rows n f h i j li lj =
    rw (pair_there n i j li lj) at (all_at f (0, 0) (in_rows n) h (i * n + j) (in_list n i j li lj))

pub any_in_rows :
    (n : ℕ) (f : ℕ × ℕ → Bool) (i j : ℕ) → i < n → j < n → f (i, j) ≡ true → any_in f (in_rows n) ≡ true
any_in_rows n f i j li lj h =
    any_at f (0, 0) (in_rows n) (i * n + j) (in_list n i j li lj) (rw (pair_there n i j li lj) h)

-- p stands in an earlier row than q, or in its row and not behind it
abbrev pub NotBehind : ℕ × ℕ → ℕ × ℕ → Type 0
NotBehind p q = (p.0 < q.0) ⊎ ((p.0 ≡ q.0) × (p.1 ≤ q.1))

pub not_behind_same : (p q : ℕ × ℕ) → NotBehind p q → NotBehind q p → p ≡ q
not_behind_same p q (inl l) (inl m) = absurd (omega arith)
not_behind_same p q (inl l) (inr m) = absurd (omega (arith, m.0))
not_behind_same p q (inr l) (inl m) = absurd (omega (arith, l.0))
not_behind_same p q (inr l) (inr m) =
    let same : p.1 ≡ q.1 = omega (arith, l.1, m.1) in
    λ k. (l.0 k, same k)

-- of two pairs, that at the earlier place
place_order : (n i j x y : ℕ) → y < n → i * n + j ≤ x * n + y → NotBehind (i, j) (x, y)
place_order n i j x y ly h = elim (dec_lt i x) [
  | yes l ↦ inl l
  | no g ↦ elim (ℕ_discrete i x) [
    | yes e ↦ inr (e, omega (arith, rw e at h))
    | no d ↦
        let more : suc x ≤ i = omega arith in
        absurd (omega (arith, mul-le-mul_right n more, suc-mul x n))
  ]
]

-- p is the first pair that passes
pub record First (n : ℕ) (f : ℕ × ℕ → Bool) (p : ℕ × ℕ) : Type 0 where
  pub left : p.0 < n
  pub right : p.1 < n
  pub passes : f p ≡ true
  pub before : (i j : ℕ) → i < n → j < n → f (i, j) ≡ true → NotBehind p (i, j)

pub found_first : (n : ℕ) (f : ℕ × ℕ → Bool) (p : ℕ × ℕ) → find f (in_rows n) ≡ some p → First n f p
found_first n f p h =
    let r = find_place f (in_rows n) p (0, 0) h in
    let k = r.0 in
    let inside : k < n * n = rw length_rows at r.1 in
    let there : (k / n, k % n) ≡ p = sym (pair_at n k inside) ∙ r.2 in
    rw (← there) (first k inside (rw there (find_some f (in_rows n) p h)) r.3)
  where
    rows : (n k : ℕ) → k < n * n → 0 < n
    rows zero k l = absurd (omega arith)
    rows (suc n) k l = omega arith

    first :
        (k : ℕ) → k < n * n → f (k / n, k % n) ≡ true
        → ((m : ℕ) → m < k → f (get_or (in_rows n) m (0, 0)) ≡ false) → First n f (k / n, k % n)
    first k l t misses = record {
      left = (div-lt_iff_lt-mul (rows n k l)).1 l;
      right = mod-lt k (rows n k l);
      passes = t;
      before = λ i j li lj q. elim (dec_lt (i * n + j) k) [
        | yes e ↦ absurd (never q (rw (pair_there n i j li lj) at (misses (i * n + j) e)))
        | no g ↦ place_order n (k / n) (k % n) i j lj (omega (arith, div-add-mod' k n))
      ];
    }
