-- Sums over four numbers below n: what is 0 but at two of the four is a sum over the other two. And the sum over all
-- quartets is one over all four numbers, with 0 where they do not rise.
use mathlib.Core.Path.{◌≡◌, refl, ap, ◌∙◌}
use mathlib.Core.Logic.{◌⊎◌, inl, inr, ◌≢◌}
use mathlib.Core.Bool.{Bool, true, ◌&&◌}
use mathlib.Core.List.{List, [], ◌∷◌, ◌++◌, map, flat_map}
use Prim.Native.Nat.{ℕ, zero, suc, ◌+◌, ◌-◌, ◌<◌}
use native.Mathlib.Nat.{sub-zero, zero-add}
use native.Mathlib.Omega.{arith}
use borrow.Author.Tests.{ltb-true}
use lib.Dec.{ltb}
use Rattle.base.specs.Numbers.{indicator, sum_below}
use Rattle.base.specs.Lists.{tab}
use Rattle.base.proofs.Bools.{and_both}
use Rattle.base.proofs.Counts.{indicator_add}
use Rattle.base.proofs.Sums.{sum_ext, zero_sum, sum_only, indicator_sum, indicator_each, sum_above}
use Rattle.base.proofs.Sums.{sum2, sum2_ext, sum2_add, zero_sum2, pair_sum_two}
use Rattle.pair_counts.specs.Pairs.{pairs_below}
use Rattle.pair_counts.proofs.Pairs.{pairs_sum}
use Rattle.poll_rules.specs.declared.Quartet.{Quartet}
use Rattle.poll_rules.specs.Records.{from, four, with_three, with_two, with_one, quartets_of}

-- over four
abbrev sum4 : ℕ → (ℕ → ℕ → ℕ → ℕ → ℕ) → ℕ
sum4 n f = sum2 n (λ a b. sum2 n (λ c d. f a b c d))

pub sum4_ext :
    (n : ℕ) (f g : ℕ → ℕ → ℕ → ℕ → ℕ)
    → ((a b c d : ℕ) → a < n → b < n → c < n → d < n → f a b c d ≡ g a b c d) → sum4 n f ≡ sum4 n g
sum4_ext n f g h =
    sum2_ext n (λ a b. sum2 n (f a b)) (λ a b. sum2 n (g a b)) (λ a b la lb.
    sum2_ext n (f a b) (g a b) (λ c d lc ld. h a b c d la lb lc ld))

sum4_add :
    (n : ℕ) (f g : ℕ → ℕ → ℕ → ℕ → ℕ) → sum4 n (λ a b c d. f a b c d + g a b c d) ≡ sum4 n f + sum4 n g
sum4_add n f g =
    sum2_ext n (λ a b. sum2 n (λ c d. f a b c d + g a b c d)) (λ a b. sum2 n (f a b) + sum2 n (g a b))
    (λ a b l m. sum2_add n (f a b) (g a b))
    ∙ sum2_add n (λ a b. sum2 n (f a b)) (λ a b. sum2 n (g a b))

-- six at once
pub sum2_six :
    (n : ℕ) (f g h k l m : ℕ → ℕ → ℕ)
    → sum2 n (λ p q. (f p q + g p q) + ((h p q + k p q) + (l p q + m p q)))
    ≡ (sum2 n f + sum2 n g) + ((sum2 n h + sum2 n k) + (sum2 n l + sum2 n m))
sum2_six n f g h k l m =
    sum2_add n (λ p q. f p q + g p q) (λ p q. (h p q + k p q) + (l p q + m p q))
    ∙ rw (sum2_add n f g, sum2_add n (λ p q. h p q + k p q) (λ p q. l p q + m p q), sum2_add n h k, sum2_add n l m)

pub sum4_zero : (n : ℕ) (f : ℕ → ℕ → ℕ → ℕ → ℕ) → ((a b c d : ℕ) → f a b c d ≡ 0) → sum4 n f ≡ 0
sum4_zero n f h = zero_sum2 n (λ a b. sum2 n (f a b)) (λ a b. zero_sum2 n (f a b) (h a b))

-- What is 0 but at two of the four.
module _ (n i j : ℕ) (hi : i < n) (hj : j < n) (f : ℕ → ℕ → ℕ → ℕ → ℕ) where
  -- where they are the first and the second, the first and the third, and so on
  pub only_ab :
      ((a b c d : ℕ) → (a ≢ i) ⊎ (b ≢ j) → f a b c d ≡ 0) → sum4 n f ≡ sum2 n (λ c d. f i j c d)
  only_ab h =
      sum_only n i _ hi (λ a e. zero_sum n _ (λ b l. zero_sum2 n _ (λ c d. h a b c d (inl e))))
      ∙ sum_only n j _ hj (λ b e. zero_sum2 n _ (λ c d. h i b c d (inr e)))

  pub only_ac :
      ((a b c d : ℕ) → (a ≢ i) ⊎ (c ≢ j) → f a b c d ≡ 0) → sum4 n f ≡ sum2 n (λ b d. f i b j d)
  only_ac h =
      sum_only n i _ hi (λ a e. zero_sum n _ (λ b l. zero_sum2 n _ (λ c d. h a b c d (inl e))))
      ∙ sum_ext n _ _ (λ b l. sum_only n j _ hj (λ c e. zero_sum n _ (λ d m. h i b c d (inr e))))

  pub only_ad :
      ((a b c d : ℕ) → (a ≢ i) ⊎ (d ≢ j) → f a b c d ≡ 0) → sum4 n f ≡ sum2 n (λ b c. f i b c j)
  only_ad h =
      sum_only n i _ hi (λ a e. zero_sum n _ (λ b l. zero_sum2 n _ (λ c d. h a b c d (inl e))))
      ∙ sum2_ext n _ _ (λ b c l m. sum_only n j _ hj (λ d e. h i b c d (inr e)))

  pub only_bc :
      ((a b c d : ℕ) → (b ≢ i) ⊎ (c ≢ j) → f a b c d ≡ 0) → sum4 n f ≡ sum2 n (λ a d. f a i j d)
  only_bc h = sum_ext n _ _ (λ a l.
      sum_only n i _ hi (λ b e. zero_sum2 n _ (λ c d. h a b c d (inl e)))
      ∙ sum_only n j _ hj (λ c e. zero_sum n _ (λ d m. h a i c d (inr e))))

  pub only_bd :
      ((a b c d : ℕ) → (b ≢ i) ⊎ (d ≢ j) → f a b c d ≡ 0) → sum4 n f ≡ sum2 n (λ a c. f a i c j)
  only_bd h = sum_ext n _ _ (λ a l.
      sum_only n i _ hi (λ b e. zero_sum2 n _ (λ c d. h a b c d (inl e)))
      ∙ sum_ext n _ _ (λ c m. sum_only n j _ hj (λ d e. h a i c d (inr e))))

  pub only_cd :
      ((a b c d : ℕ) → (c ≢ i) ⊎ (d ≢ j) → f a b c d ≡ 0) → sum4 n f ≡ sum2 n (λ a b. f a b i j)
  only_cd h = sum2_ext n _ _ (λ a b l m.
      sum_only n i _ hi (λ c e. zero_sum n _ (λ d k. h a b c d (inl e)))
      ∙ sum_only n j _ hj (λ d e. h a b i d (inr e)))

-- how many pairs pass, as a sum: 1 where p < q, and they pass
pub pairs_two :
    (n : ℕ) (f : ℕ → ℕ → Bool) → pairs_below n f ≡ sum2 n (λ p q. indicator (ltb p q) (indicator (f p q) 1))
pairs_two n f = pairs_sum n f ∙ pair_sum_two n (λ p q. indicator (f p q) 1)

-- the sum over a list of quartets
unfoldable pub total : (Quartet → ℕ) → List Quartet → ℕ
total f [] = 0
total f (q ∷ Q) = f q + total f Q

total_append : (f : Quartet → ℕ) (l m : List Quartet) → total f (l ++ m) ≡ total f l + total f m
unfolding total
total_append f [] m = omega arith
total_append f (q ∷ l) m = omega (arith, total_append f l m)

map_more :
    (f : Quartet → ℕ) (g : ℕ → Quartet) (l : List ℕ) (x : ℕ)
    → total f (map g (l ++ (x ∷ []))) ≡ total f (map g l) + f (g x)
unfolding total
map_more f g [] x = omega arith
map_more f g (y ∷ l) x = omega (arith, map_more f g l x)

total_map :
    (f : Quartet → ℕ) (g : ℕ → Quartet) (h : ℕ → ℕ) (m : ℕ) → total f (map g (tab m h)) ≡ sum_below m (λ k. f (g (h k)))
unfolding total sum_below tab
total_map f g h zero = refl
total_map f g h (suc m) = map_more f g (tab m h) (h m) ∙ rw (total_map f g h m)

total_flat_more :
    (f : Quartet → ℕ) (g : ℕ → List Quartet) (l : List ℕ) (x : ℕ)
    → total f (flat_map g (l ++ (x ∷ []))) ≡ total f (flat_map g l) + total f (g x)
unfolding total flat_map
total_flat_more f g [] x = rw (total_append f (g x) []) (omega arith)
total_flat_more f g (y ∷ l) x =
    rw (total_append f (g y) _, total_append f (g y) (flat_map g l)) (omega (arith, total_flat_more f g l x))

total_flat :
    (f : Quartet → ℕ) (g : ℕ → List Quartet) (h : ℕ → ℕ) (m : ℕ)
    → total f (flat_map g (tab m h)) ≡ sum_below m (λ k. total f (g (h k)))
unfolding total sum_below tab flat_map
total_flat f g h zero = refl
total_flat f g h (suc m) = total_flat_more f g (tab m h) (h m) ∙ rw (total_flat f g h m)

-- a < b < c < d
abbrev pub rising : (a b c d : ℕ) → Bool
rising a b c d = ltb a b && (ltb b c && ltb c d)

pub rising_lt : (a b c d : ℕ) → rising a b c d ≡ true → (a < b) × (b < c) × (c < d)
rising_lt a b c d h =
    let x = and_both (ltb a b) (ltb b c && ltb c d) h in
    let y = and_both (ltb b c) (ltb c d) x.1 in
    (ltb-true a b x.0, ltb-true b c y.0, ltb-true c d y.1)

-- the sum over all four that rise
abbrev pub over : ℕ → (ℕ → ℕ → ℕ → ℕ → ℕ) → ℕ
over n f = sum4 n (λ a b c d. indicator (rising a b c d) (f a b c d))

over_add :
    (n : ℕ) (f g : ℕ → ℕ → ℕ → ℕ → ℕ) → over n (λ a b c d. f a b c d + g a b c d) ≡ over n f + over n g
over_add n f g =
    sum4_ext n _ _ (λ a b c d la lb lc ld. indicator_add (rising a b c d) (f a b c d) (g a b c d)) ∙ sum4_add n _ _

pub over_six :
    (n : ℕ) (f g h k l m : ℕ → ℕ → ℕ → ℕ → ℕ)
    → over n (λ a b c d. (f a b c d + g a b c d) + ((h a b c d + k a b c d) + (l a b c d + m a b c d)))
    ≡ (over n f + over n g) + ((over n h + over n k) + (over n l + over n m))
over_six n f g h k l m =
    over_add n (λ a b c d. f a b c d + g a b c d) (λ a b c d. (h a b c d + k a b c d) + (l a b c d + m a b c d))
    ∙ rw (
      over_add n f g,
      over_add n (λ a b c d. h a b c d + k a b c d) (λ a b c d. l a b c d + m a b c d),
      over_add n h k,
      over_add n l m,
    )

-- The quartets that begin with a, b, c; with a, b; with a; all.
module _ (n : ℕ) (f : Quartet → ℕ) where
  total_three : (a b c : ℕ) → total f (with_three n a b c) ≡ sum_below n (λ d. indicator (ltb c d) (f (four a b c d)))
  unfolding with_three from
  total_three a b c =
      total_map f (four a b c) (λ k. c + 1 + k) (n - (c + 1)) ∙ sum_above n c (λ d. f (four a b c d))

  total_two :
      (a b : ℕ) → total f (with_two n a b) ≡ sum2 n (λ c d. indicator (ltb b c && ltb c d) (f (four a b c d)))
  unfolding with_two from
  total_two a b =
      total_flat f (with_three n a b) (λ k. b + 1 + k) (n - (b + 1))
      ∙ sum_above n b (λ c. total f (with_three n a b c))
      ∙ sum_ext n _ _ (λ c l.
      ap (indicator (ltb b c)) (total_three a b c) ∙ indicator_each (ltb b c) n (ltb c) (λ d. f (four a b c d)))

  total_one :
      (a : ℕ) → total f (with_one n a)
      ≡ sum_below n (λ b. sum2 n (λ c d. indicator (rising a b c d) (f (four a b c d))))
  unfolding with_one from
  total_one a =
      total_flat f (with_two n a) (λ k. a + 1 + k) (n - (a + 1))
      ∙ sum_above n a (λ b. total f (with_two n a b))
      ∙ sum_ext n _ _ (λ b l.
      ap (indicator (ltb a b)) (total_two a b)
      ∙ indicator_sum (ltb a b) n _
      ∙ sum_ext n _ _ (λ c m. indicator_each (ltb a b) n (λ d. ltb b c && ltb c d) (λ d. f (four a b c d))))

  pub total_sum : total f (quartets_of n) ≡ over n (λ a b c d. f (four a b c d))
  unfolding quartets_of from
  total_sum =
      total_flat f (with_one n) (λ k. 0 + k) (n - 0)
      ∙ rw (sub-zero n) (sum_ext n _ _ (λ a l. rw (zero-add a) (total_one a)))
