-- Fractions are ordered by `less`: cross products multiplied by the third divisor.
use mathlib.Core.Path.{◌≡◌}
use mathlib.Core.Bool.{true, false}
use Prim.Native.Nat.{◌*◌, ◌<◌}
use native.Mathlib.Nat.{mul-le-mul_right, mul-lt-mul_of_pos_right, lt_of_mul-lt-mul_left}
use native.Mathlib.Omega.{arith}
use borrow.Author.Tests.{ltb-true, ltb-false, lt-ltb, le-ltb}
use Rattle.base.specs.Numbers.{Fraction, less}

-- nothing is less than itself
pub less_irr : (x : Fraction) → less x x ≡ false
unfolding less
less_irr x = le-ltb (x.0 * x.1) (x.0 * x.1) (omega arith)

pub less_trans :
    (x y z : Fraction) → 0 < x.1 → 0 < y.1 → 0 < z.1 → less x y ≡ true → less y z ≡ true → less x z ≡ true
unfolding less
less_trans x y z px py pz xy yz =
    let a = mul-lt-mul_of_pos_right (ltb-true (x.0 * y.1) (y.0 * x.1) xy) pz in
    let b = mul-lt-mul_of_pos_right (ltb-true (y.0 * z.1) (z.0 * y.1) yz) px in
    lt-ltb (x.0 * z.1) (z.0 * x.1) (lt_of_mul-lt-mul_left y.1 (omega (arith, a, b)))

-- less than y, which is not larger than z
pub less_mid :
    (x y z : Fraction) → 0 < y.1 → 0 < z.1 → less x y ≡ true → less z y ≡ false → less x z ≡ true
unfolding less
less_mid x y z py pz xy zy =
    let a = mul-lt-mul_of_pos_right (ltb-true (x.0 * y.1) (y.0 * x.1) xy) pz in
    let b = mul-le-mul_right x.1 (ltb-false (z.0 * y.1) (y.0 * z.1) zy) in
    lt-ltb (x.0 * z.1) (z.0 * x.1) (lt_of_mul-lt-mul_left y.1 (omega (arith, a, b)))

-- not larger than y, which is less than z
pub less_low :
    (x y z : Fraction) → 0 < y.1 → 0 < x.1 → less y z ≡ true → less y x ≡ false → less x z ≡ true
unfolding less
less_low x y z py px yz yx =
    let a = mul-lt-mul_of_pos_right (ltb-true (y.0 * z.1) (z.0 * y.1) yz) px in
    let b = mul-le-mul_right z.1 (ltb-false (y.0 * x.1) (x.0 * y.1) yx) in
    lt-ltb (x.0 * z.1) (z.0 * x.1) (lt_of_mul-lt-mul_left y.1 (omega (arith, a, b)))
