-- `guess_trees::write_tree_table` meets its contract: the arrays start with single leaves, and end with the tree.
use mathlib.Core.Path.{◌≡◌, refl}
use Rattle.limits.specs.Limits.{scale_of}
use Rattle.state_arrays.specs.inner.Fits.{counts_scale}
use Rattle.guess_merges.specs.inner.Guessing.{GuessGiven}
use Rattle.guess_merges.proofs.Starts.{guess_given, start_search, guess_start, guess_end}
use Rattle.guess_trees.proofs.write_tree_table.Goals.{After-scaled_counts-p}
use Rattle.guess_trees.proofs.write_tree_table.Goals as goal

-- what the merges are given, at the scale of the table
given :
    (c : After-scaled_counts-p)
    → let p = c.scaled_counts-p.result in
    (counts_scale p ≡ scale_of c.args.kind) × GuessGiven c.args.n (counts_scale p) c.args.table.now p
given c =
    guess_given c.args.kind c.args.n _ _ c.requires.0 c.requires.1 c.scaled_counts-p.ensures

pub find_partners-requires : goal.find_partners-requires
find_partners-requires c =
    let g = (given (goal.at.find_partners-requires c).After-scaled_counts-p).1 in
    let arrays = c.single-arrays.ensures in
    let r = start_search g arrays.label c.start.ensures in
    (rw arrays.sizes r.0, refl, r.1)

pub merge_by_means-requires : goal.merge_by_means-requires
merge_by_means-requires c =
    let g = (given (goal.at.merge_by_means-requires c).After-scaled_counts-p).1 in
    let arrays = c.single-arrays.ensures in
    let found = c.find_partners.ensures in (
      g,
      rw (arrays.m, arrays.sizes) (guess_start g arrays.label c.start.ensures found.0
          (rw arrays.sizes at found.1) c.requires.2),
    )

pub returns : goal.returns
returns c =
    let r = guess_end (given (goal.at.returns c).After-scaled_counts-p).1 c.merge_by_means.ensures in
    record { packed = r.0; rebuilds = rw (given (goal.at.returns c).After-scaled_counts-p).0 at r.1 }
