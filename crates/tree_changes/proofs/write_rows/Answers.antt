-- `tree_changes::write_rows` meets its contract: a leaf is grafted, or one is pruned.
use mathlib.Core.Path.{◌≡◌}
use Prim.Native.Nat.{ℕ, ◌+◌, ◌-◌, ◌*◌}
use native.Mathlib.Omega.{arith}
use borrow.Author.Tests.{ltb-true}
use Rattle.tree_changes.proofs.write_rows.Goals as goal

pub graft_rows-requires : goal.graft_rows-requires
graft_rows-requires c =
    let p = rw c.in-Graft.is at c.requires in
    (p.0, p.2, p.3, omega (arith, p.4, p.0))

pub prune_rows-requires : goal.prune_rows-requires
prune_rows-requires c =
    let p = rw c.in-Prune.is at c.requires in
    (p.0, p.1, p.2, ltb-true _ _ p.3, p.4)

-- a listing of one leaf more
longer : (n : ℕ) → 2 * (n + 1 - 2) ≡ 2 * (n - 1)
longer n = omega arith

pub returns-in-Graft : goal.returns-in-Graft
returns-in-Graft c =
    rw (c.in-Graft.is, longer c.args.n)
    c.graft_rows.ensures

pub returns-in-Prune : goal.returns-in-Prune
returns-in-Prune c =
    rw c.in-Prune.is c.prune_rows.ensures
