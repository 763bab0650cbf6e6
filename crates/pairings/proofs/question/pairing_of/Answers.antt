-- `pairings::question::pairing_of` meets its contract: before row k the bits under every number below n + k are known,
-- and none of their edges shows a pairing.
use mathlib.Core.Path.{◌≡◌, ◌∙◌}
use Prim.Native.Nat.{◌+◌, ◌<◌, ◌-◌}
use native.Mathlib.Omega.{arith}
use lib.ListN.{length, length-set}
use Rattle.listings.proofs.Rows.{RowOf, row_read}
use Rattle.pairings.proofs.Questions.{FourAsked, question_four}
use Rattle.pairings.proofs.Passing.{passed_leaves, passed_all, row_shows, row_passed}
use Rattle.pairings.proofs.question.pairing_of.Goals.{After-row_at-r, Start}
use Rattle.pairings.proofs.question.pairing_of.Goals as goal

-- the leaves that are asked for
four : (c : Start) → FourAsked c.args.n c.args.q
four c = question_four c.args.n c.args.q (omega arith) c.requires.2

-- the row of this turn
this :
    (c : After-row_at-r)
    → let a = c.args in
    RowOf a.n a.listing.now c.loop-k.k c.row_at-r.result
this c =
    row_read _ _ c.requires.0 c.requires.1 _ (omega arith) c.row_at-r.ensures

pub loop-k-init : goal.loop-k-init
loop-k-init c = (
  c.leaf_bits-under.ensures.0,
  λ q h f. passed_leaves c.args.n c.args.listing.now c.requires.0 c.requires.1 q f c.leaf_bits-under.result h,
)

pub bounds-under-r : goal.bounds-under-r
bounds-under-r c = omega (arith, (this c).first_before, c.requires.0)

pub bounds-under-r-in-loop-k : goal.bounds-under-r-in-loop-k
bounds-under-r-in-loop-k c = omega (arith, (this c).second_before, c.requires.0)

pub returns-in-Some : goal.returns-in-Some
returns-in-Some c =
    let at = goal.at.returns-in-Some c in
    let l = c.loop-k in
    let row : l.k < c.args.n - 2 = omega arith in
    let passed = l.invariant.1 c.args.q c.leaf_bits-under.ensures.1 (four at.Start) in
    let said = c.in-Some.ensures in
    said.0
    ∙ row_shows c.args.n c.args.listing.now c.requires.0 c.requires.1 c.args.q (four at.Start) l.under row
    (this at.After-row_at-r) passed (rw said.0 at said.1)

pub loop-k-preserved : goal.loop-k-preserved
loop-k-preserved c =
    let l = c.loop-k in
    let row : l.k < c.args.n - 2 = omega arith in
    let room : c.args.n + l.k < length l.under = omega (arith, c.requires.0) in (
      rw length-set l.invariant.0,
      λ q known f.
          row_passed c.args.n c.args.listing.now c.requires.0 c.requires.1 q f l.under row
          (this (goal.at.loop-k-preserved c).After-row_at-r)
          (l.invariant.1 q known f) c.in_default.ensures room,
    )

pub returns : goal.returns
returns c =
    let l = c.loop-k in
    let end : l.k ≡ c.args.n - 2 = omega arith in
    passed_all c.args.n c.args.listing.now c.requires.0 c.requires.1 c.args.q (four (goal.at.returns c).Start) l.under
    (rw end at (l.invariant.1 c.args.q c.leaf_bits-under.ensures.1 (four (goal.at.returns c).Start)))
