-- Leaf sets by the word: a word is eight bytes, and a byte an eighth of a word; so bytes become words and words bytes
-- without a bit lost.
use mathlib.Core.Path.{◌≡◌, refl, sym, ◌∙◌}
use mathlib.Core.Logic.{◌≢◌}
use mathlib.Core.Bool.{Bool}
use mathlib.Core.List.{List}
use Prim.Native.Nat.{ℕ, zero, suc, ◌+◌, ◌*◌, ◌/◌, ◌%◌, ◌^◌, ◌<◌}
use native.Mathlib.Nat.{one-mul, pow-suc}
use native.Mathlib.Omega.{arith}
use borrow.Author.Rules.{elem_Fits}
use borrow.Author.Tests.{eq-eqb, ne_eqb}
use denote.Array.{Array}
use denote.Laws.{Is}
use denote.Plain.{UInt}
use lib.Dec.{T, leb, eqb}
use lib.ListN.{get_or}
use lib.Pow.{shl_exact, pow-add}
use mir.Syntax.{Width}
use mir.Val.{Val, bits}
use Rattle.std.specs.Int.{sum_through, byte_worth}
use Rattle.base.specs.Numbers.{indicator, sum_below}
use Rattle.base.specs.Bits.{bit, from_bits, AreCells}
use Rattle.base.proofs.Bits.{from_same, from_parts, from_bit, from_lowest, bit_down, in_cell}
use Rattle.base.proofs.Sums.{zero_sum, sum_only}
use Rattle.limits.specs.Limits.{set_bytes}
use Rattle.trees.specs.Trees.{leaf, leaves}
use Rattle.trees.specs.Splits.{set_of}
use Rattle.sets.specs.Words.{set_of_words}

-- how much byte k of a number is worth
byte_power : (k : ℕ) → 256 ^ k ≡ 2 ^ (8 * k)
byte_power zero = refl
byte_power (suc k) =
    let next : 8 * suc k ≡ 8 * k + 8 = omega arith in
    rw (pow-suc 256 k, byte_power k, next, pow-add 2 (8 * k) 8)

-- the bytes of word i
module _ (s : List ℕ) (b : AreCells 8 set_bytes s) (i : ℕ) where
  byte_is : (j : ℕ) → from_bits 8 (λ t. set_of s (64 * i + (8 * j + t))) ≡ get_or s (8 * i + j) 0
  byte_is j = from_same 8 _ (bit (get_or s (8 * i + j) 0)) at ∙ from_bit 8 _ (b.1 (8 * i + j))
    where
      at : (t : ℕ) → t < 8 → set_of s (64 * i + (8 * j + t)) ≡ bit (get_or s (8 * i + j) 0) t
      at t l =
          let place : 64 * i + (8 * j + t) ≡ 8 * (8 * i + j) + t = omega arith in
          rw place (in_cell 8 s (8 * i + j) t l)

  -- the eight bytes of word i, each worth 256 times the one before it
  pub word_is :
      (bytes : List ℕ) → ((k : ℕ) → k < 8 → get_or bytes k 0 ≡ get_or s (8 * i + k) 0) → (j : ℕ) → j < 8
      → sum_through (λ k. byte_worth k (get_or bytes k 0)) j ≡ from_bits (8 * suc j) (λ t. set_of s (64 * i + t))
  word_is bytes h zero l =
      h 0 l
      ∙ sym (byte_is 0)
      ∙ from_same 8 _ _ (λ t m. let e : 64 * i + (8 * 0 + t) ≡ 64 * i + t = omega arith in rw e)
  word_is bytes h (suc j) l =
      let f : ℕ → Bool = λ t. set_of s (64 * i + t) in
      let next : 8 * suc (suc j) ≡ 8 * suc j + 8 = omega arith in
      rw (
        next,
        from_parts (8 * suc j) 8 f,
        byte_is (suc j),
        word_is bytes h j (omega arith),
        h (suc j) l,
        byte_power (suc j),
      )

-- byte i of words
pub byte_below :
    (w : List ℕ) (i : ℕ)
    → get_or w (i / 8) 0 / 2 ^ (8 * (i % 8)) % 256 ≡ from_bits 8 (λ t. set_of_words w (8 * i + t))
byte_below w i = sym (from_same 8 _ (bit (get_or w (i / 8) 0 / 2 ^ (8 * (i % 8)))) at ∙ from_lowest 8 _)
  where
    at :
        (t : ℕ) → t < 8
        → set_of_words w (8 * i + t) ≡ bit (get_or w (i / 8) 0 / 2 ^ (8 * (i % 8))) t
    at t l =
        let place : 8 * i + t ≡ 64 * (i / 8) + (8 * (i % 8) + t) = omega arith in
        rw place
        (in_cell 64 w (i / 8) (8 * (i % 8) + t) (omega arith) ∙ sym (bit_down (get_or w (i / 8) 0) (8 * (i % 8)) t))

-- the word of leaf k, and the other words of its set
pub own_word : (k : ℕ) → 1 * 2 ^ (k % 64) % 2 ^ 64 ≡ from_bits 64 (λ t. leaves (leaf k) (64 * (k / 64) + t))
unfolding from_bits leaves
own_word k = shl_exact {a = 1} 1 (k % 64) 64 (omega arith) (omega arith) ∙ one-mul _ ∙ sym (alone ∙ rw here)
  where
    power : ℕ → ℕ
    power t = indicator (eqb (64 * (k / 64) + t) k) (2 ^ t)

    alone : sum_below 64 power ≡ power (k % 64)
    alone =
        sum_only 64 (k % 64) power (omega arith) (λ t d. rw (ne_eqb (64 * (k / 64) + t) k (λ e. d (omega arith))))

    here : power (k % 64) ≡ 2 ^ (k % 64)
    here = rw (eq-eqb (64 * (k / 64) + k % 64) k (omega arith))

pub other_word : (k i : ℕ) → i ≢ k / 64 → from_bits 64 (λ t. leaves (leaf k) (64 * i + t)) ≡ 0
unfolding from_bits leaves
other_word k i d =
    zero_sum 64 (λ t. indicator (eqb (64 * i + t) k) (2 ^ t))
    (λ t l. rw (ne_eqb (64 * i + t) k (λ e. d (omega arith))))

-- an array of numbers by value: so many of so many bits
pub array_cells :
    (w : Width) (n : ℕ) (xs : List ℕ) (vs : List Val) → Is (Array (UInt w) n) xs vs → T (leb (bits w) (bits w))
    → AreCells (bits w) n xs
array_cells w n xs vs p h = (p.1.0.1, λ i. (elem_Fits w w xs p.0 i p.1.1 h).fits)
