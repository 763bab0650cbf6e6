-- `poll_sums::adding::shares_of` meets its contract: each code has its row of shares, and a code above 6 has none.
use mathlib.Core.Path.{◌≡◌}
use Prim.Native.Nat.{ℕ, ◌≤◌}
use native.Mathlib.Omega.{arith}
use Rattle.poll_rules.specs.Counts.{shares, share}
use Rattle.poll_rules.proofs.Counts.{share_over}
use Rattle.poll_sums.proofs.adding.shares_of.Goals as goal

pub returns-in-0 : goal.returns-in-0
unfolding share shares
returns-in-0 c = rw c.in-0.is c.in_one.ensures

pub returns-in-1 : goal.returns-in-1
unfolding share shares
returns-in-1 c = rw c.in-1.is c.in_one-in-1.ensures

pub returns-in-2 : goal.returns-in-2
unfolding share shares
returns-in-2 c = rw c.in-2.is c.in_one-in-2.ensures

pub returns-in-3 : goal.returns-in-3
unfolding share shares
returns-in-3 c = rw c.in-3.is c.in_one-in-3.ensures

pub returns-in-4 : goal.returns-in-4
unfolding share shares
returns-in-4 c = rw c.in-4.is c.in_one-in-4.ensures

pub returns-in-5 : goal.returns-in-5
unfolding share shares
returns-in-5 c = rw c.in-5.is c.in_one-in-5.ensures

pub returns-in-6 : goal.returns-in-6
unfolding share shares
returns-in-6 c = rw c.in-6.is c.in_one-in-6.ensures

pub returns-in_default : goal.returns-in_default
returns-in_default c =
    let code = c.args.code in
    let over : 7 ≤ code = omega arith in
    let none : (p : ℕ) → share code p ≡ 0 = λ p. share_over code p over in
    rw (none 0, none 1, none 2) c.in_one-in_default.ensures
