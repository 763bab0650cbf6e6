-- The bytes of a length as the bits of a number: one test computed over the bytes from the first of them to the last.
use mathlib.Core.Path.{◌≡◌, refl, ap, sym, ◌∙◌}
use mathlib.Core.Logic.{◌≢◌}
use mathlib.Core.Bool.{Bool, false, ◌&&◌, and-false}
use Prim.Native.Nat.{ℕ, ◌+◌, ◌-◌, ◌/◌, ◌^◌, ◌≤◌, ◌<◌}
use native.Mathlib.Omega.{arith}
use native.Mathlib.Decide.{dec_lt}
use borrow.Author.Tests.{ne_eqb, lt-leb}
use lib.Bits.{bit_and}
use lib.Dec.{leb, eqb}
use lib.ListN.{get_or}
use Rattle.base.specs.Lists.{tab}
use Rattle.base.proofs.Lists.{getD_tab}
use Rattle.newick_rules.specs.Reader.{length_byte}

-- bit k stands for the byte 43 + k
abbrev has_bit : ℕ → Bool
has_bit k = eqb (bit_and (0x0400000004007fed / 2 ^ k) 1) 1

bits_right : tab 59 has_bit ≡ tab 59 (λ k. length_byte (43 + k))
unfolding tab length_byte
bits_right = refl

module _ (b : ℕ) where
  pub length_within : 43 ≤ b → b ≤ 101 → has_bit (b - 43) ≡ length_byte b
  length_within l m =
      let e : 43 + (b - 43) ≡ b = omega arith in
      rw e
      at (sym (getD_tab 59 has_bit (b - 43) false (omega arith))
      ∙ ap (λ t. get_or t (b - 43) false) bits_right
      ∙ getD_tab 59 (λ k. length_byte (43 + k)) (b - 43) false (omega arith))

  -- a byte that is no digit and none from the first to the last
  outside : (leb 48 b && leb b 57) ≡ false → ((v : ℕ) → 43 ≤ v → v ≤ 101 → b ≢ v) → false ≡ length_byte b
  unfolding length_byte
  outside d n =
      rw (
        d,
        ne_eqb b 46 (n 46 (omega arith) (omega arith)),
        ne_eqb b 43 (n 43 (omega arith) (omega arith)),
        ne_eqb b 45 (n 45 (omega arith) (omega arith)),
        ne_eqb b 69 (n 69 (omega arith) (omega arith)),
        ne_eqb b 101 (n 101 (omega arith) (omega arith)),
      )

  pub length_outside : (43 ≤ b → 101 < b) → false ≡ length_byte b
  length_outside l = elim (dec_lt b 43) [
    | yes low ↦ outside (rw (lt-leb 48 b (omega arith))) (λ v h k. omega arith)
    | no d ↦
        let high : 101 < b = l (omega arith) in
        outside (rw (lt-leb b 57 (omega arith), and-false)) (λ v h k. omega arith)
  ]
