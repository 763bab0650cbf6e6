-- `standard_listings::standard_rows` meets its contract: the rows under the last node, from row 0 on, are the standard
-- listing.
use Prim.Native.Nat.{ℕ}
use native.Mathlib.Omega.{arith}
use lib.ListN.{length-replicate}
use Rattle.limits.specs.Limits.{most_rows, most_numbers}
use Rattle.standard_listings.proofs.SubtreeRows.{whole_rows_fit, whole_rows_written}
use Rattle.standard_listings.proofs.standard_rows.Goals as goal

pub order_rows-requires : goal.order_rows-requires
order_rows-requires c =
    let p = c.requires in
    (p.0, p.1, length-replicate {A = ℕ} most_rows 0, length-replicate {A = ℕ} most_numbers 0)

pub write_node-requires : goal.write_node-requires
write_node-requires c =
    let p = c.requires in
    let fits = whole_rows_fit _ _ p.0 p.1 _ _ c.order_rows.ensures p.2 in
    (omega (arith, p.0), record { listing = c.args.listing.now; fits = fits })

pub returns : goal.returns
returns c =
    let p = c.requires in
    let fits = whole_rows_fit _ _ p.0 p.1 _ _ c.order_rows.ensures p.2 in
    whole_rows_written _ _ p.0 p.1 _ _ _ p.2 (c.write_node.ensures _ fits)
