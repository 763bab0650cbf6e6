-- `leaf_orders::pairs` meets its contract: k² − k is twice P(k).
use mathlib.Core.Path.{◌≡◌, refl}
use Prim.Native.Nat.{ℕ, zero, suc, ◌+◌, ◌-◌, ◌*◌}
use native.Mathlib.Omega.{arith}
use Rattle.limits.proofs.TablePlaces.{square_small}
use Rattle.pair_counts.specs.Pairs.{P}
use Rattle.pair_counts.proofs.Pairs.{P_double}
use Rattle.leaf_orders.proofs.pairs.Goals as goal

square : (k : ℕ) → k * k ≡ k * (k - 1) + k
square zero = refl
square (suc m) = let e : suc m - 1 ≡ m = omega arith in rw e (omega arith)

twice : (k : ℕ) → k * k - k ≡ 2 * P k
twice k = omega (arith, P_double k, square k)

pub overflow_mul-result : goal.overflow_mul-result
overflow_mul-result c = omega (arith, square_small c.args.k c.requires)

pub overflow_sub-result : goal.overflow_sub-result
overflow_sub-result c = omega (arith, square c.args.k)

pub overflow_cast-result : goal.overflow_cast-result
overflow_cast-result c = omega (arith, square_small c.args.k c.requires)

pub returns : goal.returns
returns c = rw (twice c.args.k) (omega arith)
