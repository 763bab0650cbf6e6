-- Places of pairs of leaves: each is within the array, and no two pairs share one.
use mathlib.Core.Path.{◌≡◌}
use mathlib.Core.Logic.{◌≢◌}
use Prim.Native.Nat.{ℕ, suc, ◌+◌, ◌-◌, ◌*◌, ◌/◌, ◌<◌}
use native.Mathlib.Omega.{arith}
use native.Mathlib.Decide.{dec_lt}
use borrow.Author.Tests.{lt-ltb, le-ltb}
use Rattle.limits.specs.Limits.{most_leaves, most_pairs}
use Rattle.pair_counts.specs.Pairs.{P}
use Rattle.pair_counts.proofs.Pairs.{P_suc, P_mono, P_most}
use Rattle.gap_sums.specs.inner.PairPlaces.{pair_place, place_of}

-- the pairs of j stand before those of any later leaf
before_later : (i j k : ℕ) → i < j → j < k → pair_place i j < P k
unfolding pair_place
before_later i j k l h = omega (arith, P_suc j, P_mono (suc j) k h)

pub place_within : (i j : ℕ) → i < j → j < most_leaves → pair_place i j < most_pairs
place_within i j l h = omega (arith, before_later i j most_leaves l h, P_most)

-- as code computes it
pub place_is : (i j : ℕ) → j * (j - 1) / 2 + i ≡ pair_place i j
unfolding pair_place P
place_is i j = omega arith

-- two pairs with one place are one
same_last : (i j k l : ℕ) → i < j → k < l → pair_place i j ≡ pair_place k l → j ≡ l
unfolding pair_place
same_last i j k l ij kl e = elim (dec_lt j l) [
  | yes h ↦ absurd (omega (arith, before_later i j l ij h))
  | no g ↦ elim (dec_lt l j) [ yes h ↦ absurd (omega (arith, before_later k l j kl h)) | no f ↦ omega arith ]
]

pub other_last : (i j k l : ℕ) → i < j → k < l → j ≢ l → pair_place i j ≢ pair_place k l
other_last i j k l ij kl d e = d (same_last i j k l ij kl e)

pub other_first : (i j k l : ℕ) → i < j → k < l → i ≢ k → pair_place i j ≢ pair_place k l
unfolding pair_place
other_first i j k l ij kl d e =
    let same = same_last i j k l ij kl e in
    d (omega (arith, rw same at e))

-- the place of two leaves, in the order that they have
pub place_up : (a k : ℕ) → a < k → place_of a k ≡ pair_place a k
unfolding place_of
place_up a k l = rw (lt-ltb a k l)

pub place_down : (a k : ℕ) → k < a → place_of a k ≡ pair_place k a
unfolding place_of
place_down a k l = rw (le-ltb a k (omega arith))

-- a pair without a stands elsewhere, and so does a with another leaf
pub place_apart : (a k i j : ℕ) → k ≢ a → i < j → i ≢ a → j ≢ a → pair_place i j ≢ place_of a k
place_apart a k i j d l ia ja = elim (dec_lt a k) [
  | yes h ↦ rw (place_up a k h) (other_first i j a k l h ia)
  | no g ↦ let h : k < a = omega arith in rw (place_down a k h) (other_last i j k a l h ja)
]

pub place_other : (a k l : ℕ) → k ≢ a → l ≢ a → k ≢ l → place_of a k ≢ place_of a l
place_other a k l d e f = elim (dec_lt a k) [
  | yes h ↦ elim (dec_lt a l) [
    | yes g ↦ rw (place_up a k h, place_up a l g) (other_last a k a l h g f)
    | no g ↦ let m : l < a = omega arith in
        rw (place_up a k h, place_down a l m) (other_first a k l a h m (omega arith))
  ]
  | no h ↦ let m : k < a = omega arith in elim (dec_lt a l) [
    | yes g ↦ rw (place_down a k m, place_up a l g) (other_first k a a l m g (omega arith))
    | no g ↦ let o : l < a = omega arith in rw (place_down a k m, place_down a l o) (other_first k a l a m o f)
  ]
]
