-- `own_rebuild::rebuild_checked` meets its contract: the merges end with the tree, if there is one, and then their rows
-- are a listing of it.
use mathlib.Core.Path.{◌≡◌, ap, ◌∙◌}
use native.Mathlib.Omega.{arith}
use Rattle.base.proofs.Bools.{never}
use Rattle.limits.specs.Limits.{scale_of}
use Rattle.refusals.specs.Refusals.{outcome, written}
use Rattle.state_arrays.specs.inner.Fits.{counts_scale, Given}
use Rattle.state_arrays.proofs.StateArrays.{counts_given}
use Rattle.leaf_merges.proofs.LeafMerges.{leaves_merged_start}
use Rattle.own_rebuild.proofs.Results.{standard_rebuilt, answered_none}
use Rattle.own_rebuild.proofs.rebuild_checked.Given.{Over}
use Rattle.own_rebuild.proofs.rebuild_checked.Goals.{After-scaled_counts-p}
use Rattle.own_rebuild.proofs.rebuild_checked.Goals as goal

-- what the merges are given, at the scale of the table
given :
    (g : Over) (c : After-scaled_counts-p g)
    → let a = c.args in
    let p = c.scaled_counts-p.result in
    (counts_scale p ≡ scale_of a.kind) × Given a.n (counts_scale p) (g.T.Table.cells a.table.now a.n) p
given g c = counts_given c.args.kind _ _ _ c.requires.0 c.requires.1 c.scaled_counts-p.ensures

pub merge_leaves-requires : goal.merge_leaves-requires
merge_leaves-requires g c = (
  (given g (goal.at.merge_leaves-requires g c).After-scaled_counts-p).1,
  leaves_merged_start c.args.n c.requires.0.1 _ c.own_numbers.ensures c.own_numbers-2.ensures,
)

pub returns-then-not-one_subtree_fits : goal.returns-then-not-one_subtree_fits
returns-then-not-one_subtree_fits g c =
    let given-of = given g (goal.at.returns-then-not-one_subtree_fits g c).After-scaled_counts-p in
    let all = given-of.1 in
    let none = answered_none all.leaf_count all.scaled.0 all.is_table c.merge_leaves.ensures
    (λ q. never (c.one_subtree_fits.ensures.1 q) c.if-not-one_subtree_fits.true) c.args.out.now in
    let t = rw given-of.0 at none in
    record { answer = t.0; buffer = t.1 }

pub returns : goal.returns
returns g c =
    let given-of = given g (goal.at.returns g c).After-scaled_counts-p in
    let all = given-of.1 in
    let fits = c.one_subtree_fits.ensures.0 (c.if-not-one_subtree_fits.false) in
    let end = c.merge_leaves.ensures in
    let listing = standard_rebuilt all.leaf_count all.scaled.0 all.is_table end fits _ c.requires.2 in
    let same = rw given-of.0 at listing in
    record {
      answer = c.standardise.ensures.answer ∙ ap outcome same;
      buffer = c.standardise.ensures.buffer ∙ ap (λ a. written a c.args.out.now) same;
    }
