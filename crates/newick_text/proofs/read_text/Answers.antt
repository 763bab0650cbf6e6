-- `newick_text::read_text` meets its contract: what is kept of the bytes so far is what the laws of reading say, and
-- gives what is kept of one more and of the run behind it.
use native.Mathlib.Omega.{arith}
use mathlib.Core.Path.{refl}
use Rattle.newick_text.proofs.Texts.{unbroken, not_ended}
use Rattle.newick_text.proofs.Texts.{read_start, name_may_end, breaks_here, byte_comes, read_more, ends_early}
use Rattle.newick_text.proofs.Texts.{ends_whole}
use Rattle.newick_text.proofs.Answers.{grammar_says, kept_stopped, kept_made}
use Rattle.newick_text.proofs.Running.{ran_on, ran_low}
use Rattle.newick_text.proofs.read_text.Goals as goal

pub loop-k-init : goal.loop-k-init
loop-k-init c =
    let ready = c.requires in
    rw (c.len-n.ensures, c.new-kept.ensures) (ready.indexed, ready.count, ready.strains, read_start ready _)

pub returns-in_default : goal.returns-in_default
returns-in_default c =
    let inv = c.loop-k.invariant in
    grammar_says _ _ (breaks_here inv.1 inv.2 inv.3 _ c.loop-k-test.true (rw c.in_default.is at c.next_state.ensures)
    refl)

pub end_name-requires : goal.end_name-requires
end_name-requires c =
    let inv = c.loop-k.invariant in
    name_may_end inv.1 inv.2 inv.3 _ inv.0 c.len-n.ensures

pub bracket-requires : goal.bracket-requires
bracket-requires c =
    let inv = c.loop-k.invariant in
    byte_comes inv.1 inv.2 inv.3 _ c.loop-k-test.true (rw c.in-Some.is at c.next_state.ensures)
    (unbroken c.in-Some.after) (rw (← c.len-n.ensures) at c.end_name.ensures)

pub next_depth-depth-requires : goal.next_depth-depth-requires
next_depth-depth-requires c = c.loop-k.invariant.3.shallow

pub name_hash-requires : goal.name_hash-requires
name_hash-requires c = c.loop-k.invariant.3.hash_low

pub run_on-run-requires : goal.run_on-run-requires
run_on-run-requires c = (omega (arith, c.loop-k-test.true), c.name_hash.ensures.1)

pub loop-k-smaller : goal.loop-k-smaller
loop-k-smaller c = omega (arith, c.loop-k-test.true, ran_low _ c.run_on-run.ensures)

pub loop-k-preserved : goal.loop-k-preserved
loop-k-preserved c =
    let inv = c.loop-k.invariant in
    let small = c.name_hash.ensures in
    let more =
    read_more inv.1 inv.2 inv.3 _ c.loop-k-test.true (rw c.in-Some.is at c.next_state.ensures)
    (unbroken c.in-Some.after) (rw (← c.len-n.ensures) at c.end_name.ensures) c.bracket.ensures
    (rw small.0 at small.1) in (
      inv.0,
      inv.1,
      inv.2,
      ran_on _ c.run_on-run.ensures (rw (c.next_depth-depth.ensures, small.0, c.name_from-from.ensures) more),
    )

pub returns-in_default-state : goal.returns-in_default-state
returns-in_default-state c =
    let inv = c.loop-k.invariant in
    grammar_says _ _ (ends_early inv.1 inv.2 inv.3 c.loop-k-test.false (not_ended _ c.in_default-state.not-Ended))

pub returns-in_err-judge_kept-in-Ended : goal.returns-in_err-judge_kept-in-Ended
returns-in_err-judge_kept-in-Ended c =
    let inv = c.loop-k.invariant in
    let whole = ends_whole inv.1 inv.2 inv.3 c.loop-k-test.false (rw c.in-Ended.is) in
    rw (← c.len-n.ensures)
    (kept_stopped _ _ c.loop-k.seen whole.0 inv.1 inv.2 whole.1 whole.2 c.judge_kept.ensures
    _ c.in_err-judge_kept-in-Ended.was c.from_residual.ensures)

pub returns : goal.returns
returns c =
    let inv = c.loop-k.invariant in
    let whole = ends_whole inv.1 inv.2 inv.3 c.loop-k-test.false (rw c.in-Ended.is) in
    rw (← c.len-n.ensures)
    (kept_made _ _ c.loop-k.seen whole.0 inv.1 inv.2 whole.1 whole.2 c.judge_kept.ensures
    c.in_ok-judge_kept-in-Ended.was)
