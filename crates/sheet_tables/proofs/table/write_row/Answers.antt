-- `sheet_tables::table::write_row` meets its contract: the part of the buffer behind the rows before row i begins with
-- row i.
use mathlib.Core.Path.{◌≡◌, ap, ◌∙◌}
use mathlib.Core.List.{List}
use Prim.Native.Nat.{ℕ, ◌+◌, ◌-◌, ◌*◌, ◌≤◌, ◌<◌}
use native.Mathlib.Nat.{mul-le-mul_right}
use native.Mathlib.Omega.{arith}
use borrow.Rule.Slice.PartMut.{same_len_mid, mid_len}
use lib.ListN.{length, take, drop}
use Rattle.base.specs.Lists.{filled}
use Rattle.base.proofs.Lists.{row_of, column_of}
use Rattle.base.proofs.Filling.{length_filled}
use Rattle.packed_tables.specs.Packed.{mirrored, packed_cells}
use Rattle.packed_tables.proofs.Sizes.{row_read}
use Rattle.sheet_tables.specs.inner.Rows.{table_rule}
use Rattle.sheet_tables.proofs.TableRows.{filled_on}
use Rattle.sheet_tables.proofs.table.write_row.Goals.{After-write_row, Start}
use Rattle.sheet_tables.proofs.table.write_row.Goals as goal

-- the row ends in the buffer
ends : (c : Start) → (let a = c.args in a.i * a.n + a.n ≤ length a.out.now)
ends c =
    let a = c.args in
    let l : a.i + 1 ≤ a.n = omega arith in
    omega (arith, mul-le-mul_right a.n l)

pub overflow_mul-at : goal.overflow_mul-at
overflow_mul-at c = omega (arith, ends (goal.at.overflow_mul-at c).Start)

pub offset_bounds-out-at : goal.offset_bounds-out-at
offset_bounds-out-at c = omega (arith, ends (goal.at.offset_bounds-out-at c).Start)

pub slice_bounds-write_row-count : goal.slice_bounds-write_row-count
slice_bounds-write_row-count c = omega (arith, ends (goal.at.slice_bounds-write_row-count c).Start)

pub slice_bounds-write_row-start : goal.slice_bounds-write_row-start
slice_bounds-write_row-start c = omega (arith, ends (goal.at.slice_bounds-write_row-start c).Start)

-- the row as it was written into the part
module _ (c : After-write_row) where
  abbrev at : ℕ
  at = c.args.i * c.args.n

  abbrev part : List ℕ
  part = take (length c.args.out.now - at) (drop at c.args.out.now)

  enough : c.args.i < c.args.n → at + c.args.n ≤ length c.args.out.now → c.args.n ≤ length part
  enough l e = omega (arith, e, mid_len at (length c.args.out.now) c.args.out.now (omega arith))

  row_put :
      let cells = packed_cells c.args.n c.args.packed.now in
      at + c.args.n ≤ length c.args.out.now
      → c.write_row.new.out ≡ filled c.args.n (mirrored c.args.n cells c.args.i) part
  row_put e = c.write_row.ensures ∙ row_read _ _ c.requires.0 _ part c.requires.1 (enough c.requires.1 e)

pub returns : goal.returns
returns c =
    let a = c.args in
    let xs = a.out.now in
    let at = a.i * a.n in
    let cells = packed_cells a.n a.packed.now in
    let k = length xs - at in
    let same : (j : ℕ) → j < a.n → mirrored a.n cells a.i j ≡ table_rule a.n cells (at + j) =
    λ j l. rw (row_of a.n a.i j l, column_of a.n a.i j l) in
    let here = goal.at.returns c in
    let e = ends here.Start in
    let put = row_put here.After-write_row e in
    let room = enough here.After-write_row c.requires.1 e in
    let long = ap length put ∙ length_filled _ _ a.n room in
    record {
      long = same_len_mid at k xs c.write_row.new.out long;
      row = λ base h e. rw put (filled_on at a.n k (table_rule a.n cells) _ base xs e room same);
    }
