-- `listings::row_at` meets its contract: a row is there where the listing has more than k pairs of numbers.
use Prim.Native.Nat.{◌/◌}
use borrow.Author.Tests.{lt-ltb, le-ltb}
use lib.ListN.{length}
use Rattle.listings.specs.Rows.{row_at}
use Rattle.listings.proofs.row_at.Goals as goal

pub returns-then-row_count-k : goal.returns-then-row_count-k
unfolding row_at
returns-then-row_count-k c =
    let a = c.args in
    rw (le-ltb a.k (length a.listing.now / 2) (rw c.row_count.ensures at c.if-row_count-k.true))

pub returns : goal.returns
unfolding row_at
returns c =
    let a = c.args in
    rw (lt-ltb a.k (length a.listing.now / 2)
    (rw c.row_count.ensures at
    c.if-row_count-k.false))
    (rw (c.from-2.ensures, c.from.ensures))
