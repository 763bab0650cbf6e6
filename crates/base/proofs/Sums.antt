-- Laws of sums over the numbers below n, over two of them, and over the pairs i < j; and of how far two are apart.
use mathlib.Core.Path.{◌≡◌, refl, ap, sym, ◌∙◌}
use mathlib.Core.Logic.{◌≢◌}
use mathlib.Core.Bool.{Bool, true, false, ◌&&◌}
use Prim.Native.Nat.{ℕ, zero, suc, ◌+◌, ◌-◌, ◌*◌, ◌≤◌, ◌<◌}
use native.Mathlib.Nat.{suc-mul, mul-le-mul_right, le_of_lt}
use native.Mathlib.Numerals.{add-one}
use native.Mathlib.Omega.{arith}
use native.Mathlib.Decide.{dec_lt, ℕ_discrete}
use borrow.Author.Tests.{lt-ltb, le-ltb, ne_eqb}
use lib.Dec.{ltb, eqb}
use Rattle.base.specs.Numbers.{indicator, count_below, sum_below, pair_sum, distance}
use Rattle.base.proofs.Bools.{eqb_same}
use Rattle.base.proofs.Counts.{indicator_and}

pub sum_ext : (n : ℕ) (f g : ℕ → ℕ) → ((k : ℕ) → k < n → f k ≡ g k) → sum_below n f ≡ sum_below n g
unfolding sum_below
sum_ext zero f g h = refl
sum_ext (suc n) f g h = rw (sum_ext n f g (λ k l. h k (omega arith)), h n (omega arith))

-- one number more
pub sum_more : (n : ℕ) (f : ℕ → ℕ) → sum_below (n + 1) f ≡ sum_below n f + f n
unfolding sum_below
sum_more n f = rw (add-one n)

-- a sum is 0 where each part is, and the other way round
pub zero_sum : (n : ℕ) (f : ℕ → ℕ) → ((k : ℕ) → k < n → f k ≡ 0) → sum_below n f ≡ 0
unfolding sum_below
zero_sum zero f h = refl
zero_sum (suc n) f h = omega (arith, zero_sum n f (λ k l. h k (omega arith)), h n (omega arith))

pub sum_zero : (n : ℕ) (f : ℕ → ℕ) → sum_below n f ≡ 0 → (k : ℕ) → k < n → f k ≡ 0
unfolding sum_below
sum_zero zero f h k l = absurd (omega arith)
sum_zero (suc n) f h k l = elim (dec_lt k n) [
  | yes l' ↦ sum_zero n f (omega arith) k l'
  | no g ↦ (let e : k ≡ n = omega arith in rw e (omega arith))
]

pub sum_add : (n : ℕ) (f g : ℕ → ℕ) → sum_below n (λ k. f k + g k) ≡ sum_below n f + sum_below n g
unfolding sum_below
sum_add zero f g = refl
sum_add (suc n) f g = omega (arith, sum_add n f g)

-- n parts of at most m each
pub sum_le : (n m : ℕ) (f : ℕ → ℕ) → ((k : ℕ) → k < n → f k ≤ m) → sum_below n f ≤ n * m
unfolding sum_below
sum_le zero m f h = omega arith
sum_le (suc n) m f h = omega (arith, sum_le n m f (λ k l. h k (omega arith)), h n (omega arith), suc-mul n m)

-- the order of two sums does not matter
pub sum_swap :
    (n m : ℕ) (f : ℕ → ℕ → ℕ)
    → sum_below n (λ p. sum_below m (λ q. f p q)) ≡ sum_below m (λ q. sum_below n (λ p. f p q))
unfolding sum_below
sum_swap zero m f = sym (zero_sum m (λ q. 0) (λ q l. refl))
sum_swap (suc n) m f = rw (sum_swap n m f) (sym (sum_add m (λ q. sum_below n (λ p. f p q)) (λ q. f n q)))

-- what is 0 but at i
pub sum_only : (n i : ℕ) (f : ℕ → ℕ) → i < n → ((k : ℕ) → k ≢ i → f k ≡ 0) → sum_below n f ≡ f i
unfolding sum_below
sum_only zero i f l h = absurd (omega arith)
sum_only (suc n) i f l h = elim (ℕ_discrete n i) [
  | yes e ↦ rw (← e) (omega (arith, zero_sum n f (λ k m. h k (λ d. omega arith))))
  | no d ↦ omega (arith, sum_only n i f (omega arith) h, h n d)
]

-- the numbers in another order: π takes each number below n to one of its own, and ρ takes it back
pub sum_permuted :
    (n : ℕ) (f π ρ : ℕ → ℕ) → ((k : ℕ) → k < n → π k < n) → ((j k : ℕ) → j < n → k < n → π j ≡ π k → j ≡ k)
    → ((k : ℕ) → k < n → (ρ k < n) × (π (ρ k) ≡ k)) → sum_below n (λ q. f (π q)) ≡ sum_below n f
sum_permuted n f π ρ below once back =
    sum_ext n _ _ (λ q l. sym (column q l)) ∙ sum_swap n n at ∙ sum_ext n _ _ row
  where
    -- f k where π takes q to k
    at : ℕ → ℕ → ℕ
    at q k = indicator (ltb q n && eqb k (π q)) (f k)

    column : (q : ℕ) → q < n → sum_below n (at q) ≡ f (π q)
    column q l =
        sum_only n (π q) (at q) (below q l) (λ k d. rw (lt-ltb q n l, ne_eqb k (π q) d))
        ∙ rw (lt-ltb q n l, eqb_same (π q))

    other : (k : ℕ) → k < n → (q : ℕ) → q ≢ ρ k → at q k ≡ 0
    other k l q d = elim (dec_lt q n) [
      | yes m ↦
          let r = back k l in
          rw (ne_eqb k (π q) (λ e. d (once q (ρ k) m r.0 (sym e ∙ sym r.1))), lt-ltb q n m)
      | no g ↦ rw (le-ltb q n (omega arith))
    ]

    row : (k : ℕ) → k < n → sum_below n (λ q. at q k) ≡ f k
    row k l =
        let r = back k l in
        sum_only n (ρ k) (λ q. at q k) r.0 (other k l) ∙ rw (r.1, lt-ltb (ρ k) n r.0, eqb_same k)

-- how many pass, as a sum
pub count_sum : (n : ℕ) (f : ℕ → Bool) → count_below n f ≡ sum_below n (λ k. indicator (f k) 1)
unfolding count_below sum_below
count_sum zero f = refl
count_sum (suc n) f = rw (count_sum n f)

-- a test before the sum, alone and beside one of each part
pub indicator_sum :
    (b : Bool) (n : ℕ) (f : ℕ → ℕ) → indicator b (sum_below n f) ≡ sum_below n (λ k. indicator b (f k))
indicator_sum true n f = refl
indicator_sum false n f = sym (zero_sum n (λ k. 0) (λ k l. refl))

pub indicator_each :
    (b : Bool) (n : ℕ) (c : ℕ → Bool) (f : ℕ → ℕ)
    → indicator b (sum_below n (λ k. indicator (c k) (f k))) ≡ sum_below n (λ k. indicator (b && c k) (f k))
indicator_each b n c f = indicator_sum b n _ ∙ sum_ext n _ _ (λ k l. indicator_and b (c k) (f k))

-- the numbers above i
pub sum_above :
    (n i : ℕ) (f : ℕ → ℕ) → sum_below (n - (i + 1)) (λ k. f (i + 1 + k)) ≡ sum_below n (λ k. indicator (ltb i k) (f k))
unfolding sum_below
sum_above zero i f = let e : 0 - (i + 1) ≡ 0 = omega arith in rw e
sum_above (suc n) i f = elim (dec_lt i n) [
  | yes l ↦
      let e : suc n - (i + 1) ≡ suc (n - (i + 1)) = omega arith in
      let last : i + 1 + (n - (i + 1)) ≡ n = omega arith in
      rw (e, lt-ltb i n l, last, sum_above n i f)
  | no g ↦
      let e : suc n - (i + 1) ≡ 0 = omega arith in
      let d : n - (i + 1) ≡ 0 = omega arith in
      rw (e, le-ltb i n (omega arith)) (omega (arith, rw d at (sum_above n i f)))
]

-- Over two numbers below n.
abbrev pub sum2 : ℕ → (ℕ → ℕ → ℕ) → ℕ
sum2 n f = sum_below n (λ p. sum_below n (λ q. f p q))

pub sum2_ext : (n : ℕ) (f g : ℕ → ℕ → ℕ) → ((p q : ℕ) → p < n → q < n → f p q ≡ g p q) → sum2 n f ≡ sum2 n g
sum2_ext n f g h = sum_ext n _ _ (λ p l. sum_ext n (f p) (g p) (λ q m. h p q l m))

pub sum2_add : (n : ℕ) (f g : ℕ → ℕ → ℕ) → sum2 n (λ p q. f p q + g p q) ≡ sum2 n f + sum2 n g
sum2_add n f g =
    sum_ext n _ _ (λ p l. sum_add n (f p) (g p)) ∙ sum_add n (λ p. sum_below n (f p)) (λ p. sum_below n (g p))

pub zero_sum2 : (n : ℕ) (f : ℕ → ℕ → ℕ) → ((p q : ℕ) → f p q ≡ 0) → sum2 n f ≡ 0
zero_sum2 n f h = zero_sum n _ (λ p l. zero_sum n (f p) (λ q m. h p q))

-- the numbers below m
sum_cut :
    (n m : ℕ) (f : ℕ → ℕ) → m ≤ n → sum_below n (λ k. indicator (ltb k m) (f k)) ≡ sum_below m f
unfolding sum_below
sum_cut zero zero f l = refl
sum_cut zero (suc m) f l = absurd (omega arith)
sum_cut (suc n) m f l = elim (ℕ_discrete m (suc n)) [
  | yes e ↦
      rw (e, lt-ltb n (suc n) (omega arith))
      (unfold sum_below in ap (λ x. x + f n) (sum_ext n _ f (λ k lk. rw (lt-ltb k (suc n) (omega arith)))))
  | no d ↦ rw (le-ltb n m (omega arith)) (omega (arith, sum_cut n m f (omega arith)))
]

-- Over the pairs i < j.
module _ (n : ℕ) (f : ℕ → ℕ → ℕ) where
  pub pair_sum_ext : (g : ℕ → ℕ → ℕ) → ((i j : ℕ) → i < j → j < n → f i j ≡ g i j) → pair_sum n f ≡ pair_sum n g
  unfolding pair_sum
  pair_sum_ext g h = sum_ext n _ _ (λ j m. sum_ext j _ _ (λ i l. h i j l m))

  pub pair_sum_add : (g : ℕ → ℕ → ℕ) → pair_sum n (λ i j. f i j + g i j) ≡ pair_sum n f + pair_sum n g
  unfolding pair_sum
  pair_sum_add g = sum_ext n _ _ (λ j m. sum_add j (λ i. f i j) (λ i. g i j)) ∙ sum_add n _ _

  -- with n itself: its row is added
  pub pair_sum_more : pair_sum (n + 1) f ≡ pair_sum n f + sum_below n (λ i. f i n)
  unfolding pair_sum sum_below
  pair_sum_more = rw (add-one n)

  -- as a sum over both numbers
  pub pair_sum_two : pair_sum n f ≡ sum2 n (λ p q. indicator (ltb p q) (f p q))
  unfolding pair_sum
  pair_sum_two =
      sum_ext n _ _ (λ q l. sym (sum_cut n q (λ p. f p q) (le_of_lt l)))
      ∙ sym (sum_swap n n (λ p q. indicator (ltb p q) (f p q)))

  -- it is 0 where each part is, and the other way round
  pub zero_pair_sum : ((i j : ℕ) → i < j → j < n → f i j ≡ 0) → pair_sum n f ≡ 0
  unfolding pair_sum
  zero_pair_sum h = zero_sum n _ (λ j m. zero_sum j _ (λ i l. h i j l m))

  pub pair_sum_zero : pair_sum n f ≡ 0 → (i j : ℕ) → i < j → j < n → f i j ≡ 0
  unfolding pair_sum
  pair_sum_zero h i j l m = sum_zero j (λ i. f i j) (sum_zero n (λ j. sum_below j (λ i. f i j)) h j m) i l

  -- each part at most m
  pub pair_sum_le : (m : ℕ) → ((i j : ℕ) → i < j → j < n → f i j ≤ m) → pair_sum n f ≤ n * (n * m)
  unfolding pair_sum
  pair_sum_le m h = sum_le n (n * m) (λ j. sum_below j (λ i. f i j)) (λ j l.
      omega (arith, sum_le j m (λ i. f i j) (λ i k. h i j k l), mul-le-mul_right m (le_of_lt l)))

-- The distance of two numbers.
pub distance_same : (x : ℕ) → distance x x ≡ 0
unfolding distance
distance_same x = omega arith

pub distance_zero : (x y : ℕ) → distance x y ≡ 0 → x ≡ y
unfolding distance
distance_zero x y h = omega arith

pub distance_most : (x y m : ℕ) → x ≤ m → y ≤ m → distance x y ≤ m
unfolding distance
distance_most x y m p q = omega arith
