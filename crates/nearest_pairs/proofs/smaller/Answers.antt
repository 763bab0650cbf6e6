-- `nearest_pairs::smaller` meets its contract. Of two pairs, that with the smaller mean; no product of a sum and a
-- number of cells wraps.
use mathlib.Core.Path.{refl}
use native.Mathlib.Nat.{mul-le-mul}
use native.Mathlib.Omega.{arith}
use borrow.Author.Tests.{lt-ltb, le-ltb}
use Rattle.base.specs.Numbers.{less}
use Rattle.base.proofs.Bools.{never}
use Rattle.nearest_pairs.proofs.smaller.Goals as goal

pub returns-then-next-best : goal.returns-then-next-best
unfolding less
returns-then-next-best c =
    record { less_is = λ _. refl; else_is = λ e. absurd (never (lt-ltb _ _ c.if-next-best.true) e) }

pub returns-else-next-best : goal.returns-else-next-best
unfolding less
returns-else-next-best c = record {
  less_is = λ e. absurd (never e (le-ltb _ _ c.if-next-best.false));
  else_is = λ _. refl;
}
