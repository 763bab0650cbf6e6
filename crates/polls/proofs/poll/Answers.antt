-- `polls::poll` meets its contract: the sizes are refused, or a record is the first bad one, or all are added and their
-- sums are written.
use mathlib.Core.Path.{sym, ◌∙◌}
use native.Mathlib.Omega.{arith}
use Rattle.refusals.proofs.Answers.{done_none, refused_some, judged_stops}
use Rattle.poll_rules.specs.Operations.{poll_refusal}
use Rattle.poll_rules.proofs.Operations.{sizes_pass}
use Rattle.poll_rules.proofs.Records.{passes_of, record_due}
use Rattle.poll_records.proofs.PackedLeaves.{leaves_polled}
use Rattle.polls.proofs.Tallies.{upto_none, due_leaves, sums_small, upto_bad, upto_more, none_bad, all_sums}
use Rattle.polls.proofs.Operations.{poll_refused, poll_done}
use Rattle.polls.proofs.poll.Goals as goal

pub returns-in_err-judge_sizes : goal.returns-in_err-judge_sizes
unfolding poll_refusal
returns-in_err-judge_sizes c =
    let arises = refused_some _ _ (sym c.judge_sizes.ensures ∙ c.in_err-judge_sizes.was) in
    let said = poll_refused _ _ _ (judged_stops _ arises) c.from_residual.ensures in
    record { answer = said.0; buffer = said.1 }

pub begin-due-requires : goal.begin-due-requires
begin-due-requires c =
    let sized = sizes_pass _ _ _ (done_none _ (sym c.judge_sizes.ensures ∙ c.in_ok-judge_sizes.was)) in
    (sized.most, (omega arith, omega arith, omega arith, omega arith))

pub loop-k-init : goal.loop-k-init
loop-k-init c =
    rw c.begin-due.ensures
    (upto_none _ _ _ (done_none _ (sym c.judge_sizes.ensures ∙ c.in_ok-judge_sizes.was)))

pub judge_record-requires : goal.judge_record-requires
judge_record-requires c =
    let u = c.loop-k.invariant in
    let leaves = due_leaves _ _ _ _ _ _ u c.loop-k-test.true in
    (u.ready.leaves, leaves_polled c.args.n c.loop-k.due.quartet u.sizes.most leaves)

pub returns-in_err-judge_record : goal.returns-in_err-judge_record
returns-in_err-judge_record c =
    let arises = refused_some _ _ (sym c.judge_record.ensures ∙ c.in_err-judge_record.was) in
    let bad = upto_bad _ _ _ _ _ _ c.loop-k.invariant c.loop-k-test.true arises in
    let said = poll_refused _ _ _ bad c.from_residual-in_err-judge_record.ensures in
    record { answer = said.0; buffer = said.1 }

pub add_record-due-requires : goal.add_record-due-requires
add_record-due-requires c =
    let u = c.loop-k.invariant in
    let t = c.loop-k-test.true in
    (due_leaves _ _ _ _ _ _ u t, u.ready, u.sizes.most, u.size, sums_small _ _ _ _ _ _ u t)

pub loop-k-preserved : goal.loop-k-preserved
loop-k-preserved c =
    let passed = done_none _ (sym c.judge_record.ensures ∙ c.in_ok-judge_record.was) in
    let g = c.add_record-due.ensures in
    let q = c.loop-k.due.quartet in
    upto_more _ _ _ _ _ _ c.loop-k.invariant c.loop-k-test.true _ _ passed g.0 g.1 g.2
    (rw (record_due q _ (passes_of _ q _ passed)) at g.3)

pub returns : goal.returns
returns c =
    let u = c.loop-k.invariant in
    let over = c.loop-k-test.false in
    let said =
    poll_done _ _ _ c.loop-k.sums (omega (arith, u.sizes.fewest)) (none_bad _ _ _ _ _ _ u over)
    (all_sums _ _ _ _ _ _ u over) c.write_table.ensures in
    record { answer = said.0; buffer = said.1 }
