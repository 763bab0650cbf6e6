-- Numbers in bytes: written and read, they are the same; and as code reads them, byte by byte at a place.
use mathlib.Core.Path.{◌≡◌, refl, ap}
use mathlib.Core.List.{List, [], ◌∷◌}
use Prim.Native.Nat.{ℕ, zero, suc, ◌+◌, ◌*◌, ◌/◌, ◌%◌, ◌^◌, ◌≤◌, ◌<◌}
use native.Mathlib.Numerals.{add-one}
use native.Mathlib.Omega.{arith}
use native.Mathlib.Decide.{dec_lt}
use lib.ListN.{length, get_or, take, drop, length-drop, get_or-eq_default}
use lib.Seq.{length-take-le, get_or-take, get_or-drop}
use Rattle.byte_numbers.specs.Bytes.{AreBytes, number, low_first}

pub length_low : (k v : ℕ) → length (low_first k v) ≡ k
unfolding low_first
length_low zero v = refl
length_low (suc k) v = ap suc (length_low k (v / 256))

-- a number that is written is read again, where there are bytes enough
pub number_low : (k v : ℕ) → v < 256 ^ k → number (low_first k v) ≡ v
unfolding number low_first
number_low zero v h = omega arith
number_low (suc k) v h = rw (number_low k (v / 256) (omega arith)) (omega arith)

-- and bytes that are read are written again
low_number : (l : List ℕ) → AreBytes l → low_first (length l) (number l) ≡ l
unfolding number low_first
low_number [] h = refl
low_number (b ∷ l) h =
    let below = h 0 in
    let low : (b + 256 * number l) % 256 ≡ b = omega arith in
    let high : (b + 256 * number l) / 256 ≡ number l = omega arith in
    rw (low, high, low_number l (λ k. h (suc k)))

-- so many bytes from a place on
pub low_part :
    (S : List ℕ) (k a : ℕ) → AreBytes S → a + k ≤ length S
    → low_first k (number (take k (drop a S))) ≡ take k (drop a S)
low_part S k a h l = rw long at (low_number (take k (drop a S)) bytes)
  where
    long : length (take k (drop a S)) ≡ k
    long = length-take-le k (drop a S) (rw (length-drop a S) (omega arith))

    bytes : AreBytes (take k (drop a S))
    bytes i = elim (dec_lt i k) [
      | yes b ↦ rw (get_or-take k (drop a S) i 0 b, get_or-drop a S i 0) (h (a + i))
      | no g ↦ rw (get_or-eq_default (take k (drop a S)) 0 {n = i} (rw long (omega arith))) (omega arith)
    ]

-- the first byte, and then the others
number_more :
    (S : List ℕ) (k a : ℕ)
    → number (take (suc k) (drop a S)) ≡ get_or S a 0 + 256 * number (take k (drop (suc a) S))
unfolding number
number_more [] zero zero = omega arith
number_more [] (suc k) zero = omega arith
number_more [] zero (suc a) = omega arith
number_more [] (suc k) (suc a) = omega arith
number_more (b ∷ S) k zero = refl
number_more (b ∷ S) k (suc a) = number_more S k a

-- the two bytes at a place, and four as two and two
pub number_two :
    (S : List ℕ) (a : ℕ) → number (take 2 (drop a S)) ≡ get_or S a 0 + 256 * get_or S (a + 1) 0
unfolding number
number_two S a = rw (number_more S 1 a, number_more S 0 (suc a), add-one a) (omega arith)

pub number_four :
    (S : List ℕ) (a : ℕ)
    → number (take 4 (drop a S)) ≡ number (take 2 (drop a S)) + 65536 * number (take 2 (drop (a + 2) S))
unfolding number
number_four S a =
    let e : suc (suc a) ≡ a + 2 = omega arith in
    rw (number_more S 3 a, number_more S 2 (suc a), e, number_two S a, add-one a) (omega arith)

-- eight as four and four
pub number_eight :
    (S : List ℕ) (a : ℕ)
    → number (take 8 (drop a S)) ≡ number (take 4 (drop a S)) + 4294967296 * number (take 4 (drop (a + 4) S))
unfolding number
number_eight S a =
    let e : suc (suc (suc (suc a))) ≡ a + 4 = omega arith in
    rw (
      number_more S 7 a,
      number_more S 6 (suc a),
      number_more S 5 (suc (suc a)),
      number_more S 4 (suc (suc (suc a))),
      e,
      number_more S 3 a,
      number_more S 2 (suc a),
      number_more S 1 (suc (suc a)),
      number_more S 0 (suc (suc (suc a))),
    )
    (omega arith)
