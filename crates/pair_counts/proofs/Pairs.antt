-- Laws of P(k), and of the number of pairs p < q < n that pass a test.
use mathlib.Core.Path.{◌≡◌, refl}
use mathlib.Core.Logic.{inl, inr}
use mathlib.Core.Bool.{Bool, true, false, ◌&&◌, ◌||◌, and-true, and-false}
use mathlib.Core.Option.{none}
use Prim.Native.Nat.{ℕ, zero, suc, ◌+◌, ◌-◌, ◌*◌, ◌≤◌, ◌<◌}
use native.Mathlib.Nat.{add-zero, mul-zero, add-suc}
use native.Mathlib.Numerals.{add-one}
use native.Mathlib.Omega.{arith}
use Rattle.base.specs.Numbers.{indicator, count_below, sum_below, pair_sum}
use Rattle.base.proofs.Bools.{bool?}
use Rattle.base.proofs.Sums.{count_sum}
use Rattle.base.proofs.Counts.{count_suc, count_imp, count_ext, count_or, count_false}
use Rattle.limits.specs.declared.Kind.{Kind}
use Rattle.limits.specs.declared.Kind.TheVariants.{Counts, Poll}
use Rattle.limits.specs.Limits.{most_leaves, most_pairs, largest_cell, most_of, scale_of, largest_cell_of}
use Rattle.pair_counts.specs.Pairs.{P, pairs_below}

-- P(0) = P(1) = 0
pub P_zero : P 0 ≡ 0
unfolding P
P_zero = refl

pub P_one : P 1 ≡ 0
unfolding P
P_one = refl

-- of three numbers there are three pairs
three_pairs : pairs_below 3 (λ p q. true) ≡ 3
unfolding pairs_below count_below
three_pairs = refl

-- the same by addition: 0 + 1 + .. + (n − 1)
sum_twice : (x : ℕ) → 2 * sum_below (suc x) (λ k. k) ≡ suc x * x
unfolding sum_below
sum_twice zero = refl
sum_twice (suc x) = omega (arith, sum_twice x)

P_sum : (x : ℕ) → P x ≡ sum_below x (λ k. k)
unfolding P sum_below
P_sum zero = refl
P_sum (suc x) = let e : suc x - 1 ≡ x = omega arith in rw e (omega (arith, sum_twice x))

pub P_suc : (n : ℕ) → P (suc n) ≡ P n + n
P_suc n = rw (P_sum (suc n), P_sum n) (unfold sum_below in refl)

-- two for each pair are n(n − 1)
P_twice : (n : ℕ) → 2 * P (suc n) ≡ suc n * n
P_twice zero = rw (P_suc 0, P_zero)
P_twice (suc n) = rw (P_suc (suc n)) (omega (arith, P_twice n))

pub P_double : (n : ℕ) → 2 * P n ≡ n * (n - 1)
P_double zero = rw P_zero
P_double (suc n) = let e : suc n - 1 ≡ n = omega arith in rw e (P_twice n)

pub P_add : (x y : ℕ) → P (x + y) ≡ P x + P y + x * y
P_add x zero = rw (add-zero x, mul-zero x, P_zero) (omega arith)
P_add x (suc y) = rw (add-suc x y, P_suc, P_suc) (omega (arith, P_add x y))

pub P_le : (x y : ℕ) → P x + P y ≤ P (x + y)
P_le x y = omega (arith, P_add x y)

-- no more pairs than in the two parts: one part is empty
pub P_tight : (x y : ℕ) → P (x + y) ≤ P x + P y → x * y ≡ 0
P_tight x y h = omega (arith, P_add x y)

pub P_mono : (x y : ℕ) → x ≤ y → P x ≤ P y
P_mono x y h = let e : y ≡ x + (y - x) = omega arith in rw e (omega (arith, P_le x (y - x)))

-- the largest cell that a tree can have is P(n − 2) at the largest n, and the most pairs of leaves are P(n)
pub P_largest : P (most_leaves - 2) ≡ largest_cell
unfolding P
P_largest = refl

pub P_most : P most_leaves ≡ most_pairs
unfolding P
P_most = refl

pub P_largest_of : (kind : Kind) → scale_of kind * P (most_of kind - 2) ≡ largest_cell_of kind
unfolding P
P_largest_of Counts = refl
P_largest_of Poll = refl

-- the scope's number, and that of a poll's table
largest_is : (largest_cell ≡ 7875) × (largest_cell_of Counts ≡ largest_cell) × (largest_cell_of Poll ≡ 2610)
largest_is = (refl, refl, refl)

pub pairs_suc : (n : ℕ) (f : ℕ → ℕ → Bool) → pairs_below (suc n) f ≡ pairs_below n f + count_below n (λ p. f p n)
unfolding pairs_below
pairs_suc n f = refl

-- how many pairs pass, as a sum
pub pairs_sum : (n : ℕ) (f : ℕ → ℕ → Bool) → pairs_below n f ≡ pair_sum n (λ p q. indicator (f p q) 1)
unfolding pairs_below pair_sum sum_below
pairs_sum zero f = refl
pairs_sum (suc n) f = rw (pairs_sum n f, count_sum n (λ p. f p n))

pub pairs_ext :
    (n : ℕ) (f g : ℕ → ℕ → Bool) → ((p q : ℕ) → p < q → q < n → f p q ≡ g p q) → pairs_below n f ≡ pairs_below n g
unfolding pairs_below
pairs_ext zero f g h = refl
pairs_ext (suc n) f g h =
    let below = pairs_ext n f g (λ p q l m. h p q l (omega arith)) in
    rw (below, count_ext n (λ p. f p n) (λ p. g p n) (λ p l. h p n l (omega arith)))

-- two tests that exclude each other
pub pairs_or :
    (n : ℕ) (f g : ℕ → ℕ → Bool) → ((p q : ℕ) → f p q ≡ true → g p q ≡ false)
    → pairs_below n (λ p q. f p q || g p q) ≡ pairs_below n f + pairs_below n g
unfolding pairs_below
pairs_or zero f g h = refl
pairs_or (suc n) f g h = omega (arith, pairs_or n f g h, count_or n (λ p. f p n) (λ p. g p n) (λ p. h p n))

-- what implies another test is passed no more often
pub pairs_imp :
    (n : ℕ) (f g : ℕ → ℕ → Bool) → ((p q : ℕ) → f p q ≡ true → g p q ≡ true) → pairs_below n f ≤ pairs_below n g
unfolding pairs_below
pairs_imp zero f g h = omega arith
pairs_imp (suc n) f g h = omega (arith, pairs_imp n f g h, count_imp n (λ p. f p n) (λ p. g p n) (λ p. h p n))

pub pairs_false : (n : ℕ) → pairs_below n (λ p q. false) ≡ 0
unfolding pairs_below
pairs_false zero = refl
pairs_false (suc n) = omega (arith, pairs_false n, count_false n)

-- P(k) is the number of pairs of k things
pub pairs_both : (n : ℕ) (u : ℕ → Bool) → pairs_below n (λ p q. u p && u q) ≡ P (count_below n u)
pairs_both zero u = unfold pairs_below count_below P in refl
pairs_both (suc n) u =
    rw (pairs_suc n (λ p q. u p && u q), pairs_both n u, count_suc n u)
    (elim (bool? (u n)) [
      | inl t ↦ rw (count_ext n (λ p. u p && u n) u (λ p l. rw t (and-true (u p))), t, add-one, P_suc)
      | inr f ↦
          let none = count_ext n (λ p. u p && u n) (λ p. false) (λ p l. rw f (and-false (u p))) in
          rw (none, f, count_false n, add-zero (count_below n u)) (omega arith)
    ])
