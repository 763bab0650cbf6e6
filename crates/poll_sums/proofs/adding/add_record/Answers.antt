-- `poll_sums::adding::add_record` meets its contract: there is room for all that is dealt; the shares of the first
-- three leaves are kept back, or given with those before them after the last leaf.
use Prim.Native.Nat.{◌+◌, ◌<◌}
use native.Mathlib.Omega.{arith}
use Rattle.poll_records.specs.inner.Due.{packed}
use Rattle.poll_records.proofs.PackedLeaves.{next_polled}
use Rattle.poll_sums.specs.inner.Sums.{most_given}
use Rattle.poll_sums.proofs.Sums.{dealt_le}
use Rattle.poll_sums.proofs.Keeping.{fresh_ready, given_small, on_ready, on_next, on_added}
use Rattle.poll_sums.proofs.Keeping.{end_added}
use Rattle.poll_sums.proofs.adding.add_record.Goals.{After-shares_of-shares}
use Rattle.poll_sums.proofs.adding.add_record.Goals as goal

-- there is room for the shares, and for what is kept back with them
small :
    (c : After-shares_of-shares)
    → c.shares_of-shares.result + (c.args.due.kept + c.shares_of-shares.result) < most_given
small c =
    let a = c.args in
    let p = c.requires in
    given_small a.n a.due p.0 p.1 p.2 a.code _ c.shares_of-shares.ensures

pub overflow_add-kept : goal.overflow_add-kept
overflow_add-kept c = omega (arith, small (goal.at.overflow_add-kept c).After-shares_of-shares)

pub deal_with_fourth-requires : goal.deal_with_fourth-requires
deal_with_fourth-requires c =
    let p = c.requires in
    let less = small (goal.at.deal_with_fourth-requires c).After-shares_of-shares in
    (p.0, p.1, p.2, p.3, λ i j hi hj. omega (arith, p.4 i j hi hj, less))

pub overflow_add-result-then-q-n : goal.overflow_add-result-then-q-n
unfolding packed
overflow_add-result-then-q-n c =
    let p = c.requires in
    let l = p.0 in
    omega (arith, p.1.leaves, l.ab, l.bc, l.cd, l.dn, p.2)

pub returns-then-q-n : goal.returns-then-q-n
returns-then-q-n c =
    let a = c.args in
    let p = c.requires in
    let e = c.shares_of-shares.ensures in
    let g = c.deal_with_fourth.ensures in
    let h = c.if-q-n.true in (
      g.0,
      on_next a.n a.due p.0 p.1 p.2 a.code _ e h,
      on_ready a.n a.due p.0 p.1 p.2 a.code _ e h,
      on_added a.n a.due p.0 p.1 p.2 a.code _ e a.sums.now _ g.1,
    )

pub deal_of_three-requires : goal.deal_of_three-requires
deal_of_three-requires c =
    let q = c.args.due.quartet in
    let p = c.requires in
    let w = c.shares_of-shares.result in
    let g = c.deal_with_fourth.ensures in (
      p.0,
      p.1,
      p.2,
      g.0,
      λ i j hi hj.
          omega (
            arith,
            g.1 i j hi hj,
            dealt_le q.c q.d q.b q.d q.a q.d w i j,
            p.4 i j hi hj,
            small (goal.at.deal_of_three-requires c).After-shares_of-shares,
          ),
    )

pub begin-requires : goal.begin-requires
begin-requires c =
    let p = c.requires in
    (p.2, rw c.next.ensures (next_polled c.args.n c.args.due.quartet p.2 p.0))

pub returns : goal.returns
returns c =
    let a = c.args in
    let p = c.requires in
    let e = c.shares_of-shares.ensures in
    let g = c.deal_with_fourth.ensures in
    let f = c.deal_of_three.ensures in
    rw c.begin.ensures (
      f.0,
      c.next.ensures,
      fresh_ready a.n _,
      end_added a.n a.due p.0 p.1 p.2 a.code _ e a.sums.now _ g.1 c.next.result _ f.1,
    )
