-- The difference of two numbers of 32 bits fits in a signed number of 64 bits: so a gap is exact.
use mathlib.Core.Bool.{Bool, true, false, cond}
use Prim.Native.Nat.{ℕ, zero, suc, ◌-◌, ◌<◌, ◌^◌}
use native.Mathlib.Omega.{arith}
use lib.Dec.{ltb}
use lib.IntN.{pos, negsuc, ◌-ℤ◌}
use lib.Signed.{mag}
use mir.Syntax.{w64}
use mir.Val.{SFits}

pub difference_fits : (x y : ℕ) → x < 2 ^ 32 → y < 2 ^ 32 → SFits w64 (pos x -ℤ pos y)
difference_fits x zero a b = record { sfits = omega arith }
difference_fits x (suc y) a b =
    record { sfits = either (ltb x (suc y)) (suc y - suc x) (x - suc y) (2 ^ 63) (omega arith) (omega arith) }
  where
    either : (t : Bool) (m n k : ℕ) → m < k → n < k → mag (cond t (negsuc m) (pos n)) < k
    either true m n k p q = p
    either false m n k p q = q
