-- `splits::writing::write_splits` meets its contract: before row k the array holds the set of every number below n + k,
-- and the output the sets of the first k nodes.
use mathlib.Core.Path.{◌≡◌, ap₂, ◌∙◌}
use mathlib.Core.List.{[]}
use Prim.Native.Nat.{◌+◌, ◌<◌}
use native.Mathlib.Omega.{arith}
use borrow.Author.Rules.{rules}
use lib.ListN.{length, length-set}
use Rattle.limits.specs.Limits.{IsLeafCount}
use Rattle.trees.specs.Trees.{leaves}
use Rattle.trees.specs.Listings.{subtree_at}
use Rattle.trees.specs.Splits.{bytes_of, set_of}
use Rattle.sets.specs.declared.Combination.TheVariants.{Union}
use Rattle.sets.specs.Sets.{combined}
use Rattle.sets.proofs.SetLaws.{combined_held}
use Rattle.listings.proofs.Rows.{RowOf, row_read}
use Rattle.listings.proofs.Entries.{seen_leaves, node_made, seen_node}
use Rattle.splits.specs.inner.NodeSets.{set_of_subtree}
use Rattle.splits.proofs.SplitsWritten.{written_none, written_more}
use Rattle.splits.proofs.writing.write_splits.Goals.{After-combine-set, After-row_at-r}
use Rattle.splits.proofs.writing.write_splits.Goals as goal

-- the row of this turn
this :
    (c : After-row_at-r)
    → let a = c.args in
    RowOf a.n a.rows.now c.loop-k.k c.row_at-r.result
this c =
    row_read _ _ c.requires.0 c.requires.1 _ (omega arith) c.row_at-r.ensures

counted :
    (c : After-row_at-r)
    → IsLeafCount c.args.n
counted c = c.requires.0

-- the set of the row's node
made :
    (c : After-combine-set)
    → let s = c.args in
    c.combine-set.result ≡ set_of_subtree (subtree_at s.n s.rows.now (s.n + c.loop-k.k))
unfolding leaves combined
made c =
    let l = c.loop-k in
    let s = c.args in
    let row = this (goal.at.overflow_add-under c).After-row_at-r in
    node_made set_of_subtree [] s.n s.rows.now row l.under _ l.invariant.1
    (λ a b. c.combine-set.ensures ∙ ap₂ (λ v w. bytes_of (combined Union (set_of v) (set_of w))) a b
    ∙ combined_held Union _ _)

pub loop-k-init : goal.loop-k-init
loop-k-init c =
    let s = c.args in (
      c.put_leaves.ensures.0,
      seen_leaves set_of_subtree [] s.n s.rows.now c.put_leaves.new.under c.put_leaves.ensures.1,
      written_none s.n s.rows.now s.out.now,
    )

-- the two children have entries
pub bounds-under-r : goal.bounds-under-r
bounds-under-r c = omega (arith, (this c).first_before, counted c)

pub bounds-under-r-in-loop-k : goal.bounds-under-r-in-loop-k
bounds-under-r-in-loop-k c =
    let here = (goal.at.bounds-under-r-in-loop-k c).After-row_at-r in
    omega (arith, (this here).second_before, counted here)

pub offset_bounds-under-r : goal.offset_bounds-under-r
offset_bounds-under-r c = omega (arith, (this c).first_before, counted c)

pub offset_bounds-under-r-in-loop-k : goal.offset_bounds-under-r-in-loop-k
offset_bounds-under-r-in-loop-k c =
    let here = (goal.at.offset_bounds-under-r-in-loop-k c).After-row_at-r in
    omega (arith, (this here).second_before, counted here)

pub loop-k-preserved : goal.loop-k-preserved
loop-k-preserved c =
    let l = c.loop-k in
    let n = c.args.n in
    let rows = c.args.rows.now in
    let node = made (goal.at.loop-k-preserved c).After-combine-set in
    let room : n + l.k < length l.under = omega (arith, c.requires.0) in (
      rw length-set l.invariant.0,
      seen_node set_of_subtree [] n rows l.under l.k _ room node l.invariant.1,
      c.put_set.ensures ∙ written_more n rows l.out c.args.out.now _ l.k l.invariant.2 node,
    )

pub overflow_add-under : goal.overflow_add-under
overflow_add-under c = search rules
