-- `standard_listings::in_order` meets its contract: the least leaf under either child is known.
use mathlib.Core.Path.{◌≡◌, ◌∙◌}
use Prim.Native.Nat.{◌-◌}
use native.Mathlib.Omega.{arith}
use borrow.Author.Tests.{lt-ltb, le-ltb}
use Rattle.trees.specs.Trees.{least}
use Rattle.listings.specs.inner.Children.{row_first, row_second}
use Rattle.listings.proofs.Rows.{RowOf, row_read}
use Rattle.standard_listings.specs.inner.Standardising.{part, pick}
use Rattle.standard_listings.proofs.in_order.Goals.{After-least_of-2, After-row_at-r}
use Rattle.standard_listings.proofs.in_order.Goals as goal

-- the row of node v
this :
    (c : After-row_at-r)
    → let a = c.args in
    RowOf a.n a.listing.now (a.v - a.n) c.row_at-r.result
this c =
    let w = c.requires.0 in
    row_read _ _ w.count w.keeps _ (omega arith) c.row_at-r.ensures

pub least_of-requires : goal.least_of-requires
least_of-requires c =
    let p = c.requires.0 in (p.count, omega (arith, (this c).first_before, p))

pub least_of-requires-2 : goal.least_of-requires-2
least_of-requires-2 c =
    let p = c.requires.0 in
    let r = this (goal.at.least_of-requires-2 c).After-row_at-r in
    (p.count, omega (arith, r.second_before, p))

-- what is known of the least leaves under the two children
known :
    (c : After-least_of-2)
    → let a = c.args in
    RowOf a.n a.listing.now (a.v - a.n) c.row_at-r.result
    → (c.least_of.result ≡ least (part a.n a.listing.now (row_first a.n a.listing.now a.v)))
    × (c.least_of-2.result ≡ least (part a.n a.listing.now (row_second a.n a.listing.now a.v)))
known c r =
    let p = c.requires in (
      c.least_of.ensures ∙ p.1.is _ (omega (arith, r.first_before, p.0)) ∙ rw r.first_is,
      c.least_of-2.ensures ∙ p.1.is _ (omega (arith, r.second_before, p.0)) ∙ rw r.second_is,
    )

pub returns-then-least_of : goal.returns-then-least_of
unfolding pick
returns-then-least_of c =
    let r = this (goal.at.returns-then-least_of c).After-row_at-r in
    let e = known (goal.at.returns-then-least_of c).After-least_of-2 r in
    let less = lt-ltb _ _ (rw (e.0, e.1) at c.if-least_of.true) in
    record { first = r.first_is ∙ rw less; second = r.second_is ∙ rw less }

pub returns : goal.returns
unfolding pick
returns c =
    let r = this (goal.at.returns c).After-row_at-r in
    let e = known (goal.at.returns c).After-least_of-2 r in
    let more = le-ltb _ _ (rw (e.0, e.1) at c.if-least_of.false) in
    record { first = r.second_is ∙ rw more; second = r.first_is ∙ rw more }
