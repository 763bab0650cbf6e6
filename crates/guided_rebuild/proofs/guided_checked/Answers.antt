-- `guided_rebuild::guided_checked` meets its contract: a proposal is refused, or our own rebuild has the same result.
use mathlib.Core.Path.{◌≡◌, sym, ◌∙◌}
use Rattle.limits.specs.Limits.{scale_of}
use Rattle.refusals.proofs.Answers.{handed_on}
use Rattle.merging.specs.inner.Runs.{halt}
use Rattle.rebuild_answers.proofs.RebuildRefusals.{many_proposals}
use Rattle.state_arrays.specs.inner.Fits.{counts_scale, Given}
use Rattle.state_arrays.proofs.StateArrays.{counts_given, holds_start}
use Rattle.guided_rebuild.proofs.Proposals.{guided_whole, refused_unwritten}
use Rattle.guided_rebuild.proofs.guided_checked.Goals.{After-scaled_counts-p}
use Rattle.guided_rebuild.proofs.guided_checked.Goals as goal

-- what the proposals are tried on, at the scale of the table
given :
    (c : After-scaled_counts-p)
    → let a = c.args in
    let p = c.scaled_counts-p.result in
    (counts_scale p ≡ scale_of a.kind) × Given a.n (counts_scale p) a.table.now p
given c = counts_given c.args.kind _ _ _ c.requires.0 c.requires.1 c.scaled_counts-p.ensures

pub follow-requires : goal.follow-requires
follow-requires c =
    let arrays = c.single-arrays.ensures in
    let holds = holds_start c.args.n c.requires.0.1 arrays.label in (
      (given (goal.at.follow-requires c).After-scaled_counts-p).1,
      c.requires.3,
      record { came = halt; holds = rw (arrays.m, arrays.sizes) holds },
    )

pub returns-in_err-follow : goal.returns-in_err-follow
returns-in_err-follow c =
    let told = rw (given (goal.at.returns-in_err-follow c).After-scaled_counts-p).0 at c.follow.ensures in
    let e = handed_on _ c.from_residual.ensures in
    record {
      answer = e ∙ sym c.in_err-follow.was ∙ told;
      buffer = refused_unwritten _ _ (sym told ∙ c.in_err-follow.was);
    }

pub returns : goal.returns
returns c =
    let p = c.requires in
    let g = given (goal.at.returns c).After-scaled_counts-p in
    let told = rw g.0 at c.follow.ensures in
    let positive = rw g.0 at g.1.scaled.0 in
    let whole = guided_whole _ _ _ _ p.0 positive p.1 (many_proposals _ _ p.3) (sym told ∙ c.in_ok-follow.was) in
    let r = c.rebuild_checked.ensures in
    record { answer = rw whole r.answer; buffer = rw whole r.buffer }
