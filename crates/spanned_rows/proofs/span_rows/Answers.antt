-- `spanned_rows::span_rows` meets its contract: leaves are numbered, what stays is joined, and the chain is written.
use mathlib.Core.Path.{◌≡◌, ap, sym, ◌∙◌}
use native.Mathlib.Omega.{arith}
use Prim.Native.Nat.{ℕ, ◌-◌, ◌*◌}
use lib.ListN.{length, drop, length-replicate, length-append, length-drop}
use lib.Seq.{length-take-le}
use Rattle.limits.specs.Limits.{most_leaves, most_numbers, IsLeafCount}
use Rattle.trees.specs.Trees.{leaf, node}
use Rattle.trees.specs.Listings.{tree_of}
use Rattle.rerooted_rows.specs.inner.Arrays.{with_chain}
use Rattle.spanned_rows.specs.inner.Marks.{marked}
use Rattle.spanned_rows.specs.inner.Parts.{part, RowsJoined}
use Rattle.spanned_rows.proofs.Spanned.{span_fits, span_long, span_end}
use Rattle.spanned_rows.proofs.span_rows.Goals.{After-join_rows-joined}
use Rattle.spanned_rows.proofs.span_rows.Goals as goal

pub join_rows-joined-requires : goal.join_rows-joined-requires
join_rows-joined-requires c =
    record {
      count = c.requires.0;
      new_count = rw c.number_leaves-m.ensures.count c.requires.2;
      keeps = c.requires.1;
      stay = _;
      leaves = c.number_leaves-m.ensures.each;
      as_many = c.number_leaves-m.ensures.count;
      rows_long = length-replicate {A = ℕ} most_numbers 0;
      chain_long = length-replicate {A = ℕ} most_leaves 0;
    }

-- what is joined, where so many leaves stay
module _ (c : After-join_rows-joined) where
  new_count : IsLeafCount c.number_leaves-m.result
  new_count = rw c.number_leaves-m.ensures.count c.requires.2

  joined :
      let a = c.args in
      RowsJoined c.number_leaves-m.result (part (marked a.marks.now) (node (leaf 0) (tree_of a.n a.listing.now)))
      c.join_rows-joined.result
  joined = let n = c.number_leaves-m.ensures in c.join_rows-joined.ensures _ n.each n.count

pub finish-requires : goal.finish-requires
finish-requires c =
    let here = (goal.at.finish-requires c).After-join_rows-joined in
    span_fits _ c.requires.0 c.requires.1 (new_count here) c.number_leaves-m.ensures.count (joined here)

-- as many numbers as the array has room for
written :
    (c : After-join_rows-joined)
    → length (with_chain c.number_leaves-m.result c.join_rows-joined.result) ≡ 2 * (c.number_leaves-m.result - 2)
written c = span_long _ c.requires.0 c.requires.1 (new_count c) c.number_leaves-m.ensures.count (joined c)

pub copy_from_slice-requires : goal.copy_from_slice-requires
copy_from_slice-requires c =
    let here = (goal.at.copy_from_slice-requires c).After-join_rows-joined in
    length-take-le _ _ (omega (arith, new_count here, c.requires.3))
    ∙ sym (ap length c.finish.ensures.rows ∙ written here)

pub returns : goal.returns
returns c =
    let here = (goal.at.returns c).After-join_rows-joined in
    let rest = drop (2 * (c.number_leaves-m.result - 2)) c.args.rows.now in
    let left = length-drop (2 * (c.number_leaves-m.result - 2)) c.args.rows.now in
    let all = c.copy_from_slice.ensures.after ∙ c.finish.ensures.rows in
    let both = length-append c.copy_from_slice.new.self rest in
    span_end _ c.requires.0 c.requires.1 (new_count here) c.number_leaves-m.ensures.count (joined here) rest _ (rw all)
    (omega (arith, both, left, ap length all, written here, new_count here, c.requires.3))
