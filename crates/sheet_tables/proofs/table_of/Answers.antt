-- `sheet_tables::table_of` meets its contract: of a sheet that has been judged the room alone is left to judge, and its
-- cells stand between the offset and the trailer.
use mathlib.Core.Path.{◌≡◌, refl, ◌∙◌}
use Prim.Native.Nat.{◌*◌, ◌<◌, ◌≤◌}
use native.Mathlib.Omega.{arith}
use lib.ListN.{length}
use Rattle.refusals.specs.Refusals.{accepted, answered, outcome, written}
use Rattle.packed_tables.specs.Packed.{table_with}
use Rattle.sheet_rules.specs.Sheets.{leaves_of, cells_of}
use Rattle.sheets.proofs.Judged.{other_room, short_room}
use Rattle.sheet_tables.specs.Operations.{sheet_table_answer}
use Rattle.sheet_tables.proofs.PackedSheet.{is_packed, kept_cells}
use Rattle.sheet_tables.proofs.TableWritten.{table_written}
use Rattle.sheet_tables.proofs.table_of.Goals.{Then-out-n, Else-out-n, After-write_table}
use Rattle.sheet_tables.proofs.table_of.Goals as goal

-- the room is not enough: that is the first refusal
short :
    (c : Then-out-n)
    → (let n = leaves_of c.args.sheet.now in length c.args.out.now < n * n)
short c = rw c.leaves-n.ensures.0 at c.if-out-n.true

pub returns-then-out-n : goal.returns-then-out-n
unfolding sheet_table_answer answered outcome written
returns-then-out-n c =
    let less = short (goal.at.returns-then-out-n c).Then-out-n in
    rw (short_room _ _ _ c.cells-cells.ensures.kept _ _ less)
    (record { answer = refl; buffer = refl; made = λ enough. absurd (omega (arith, less, enough)) })

-- the room is enough
enough :
    (c : Else-out-n)
    → (let n = leaves_of c.args.sheet.now in n * n ≤ length c.args.out.now)
enough c = rw c.leaves-n.ensures.0 at c.if-out-n.false

pub write_table-requires : goal.write_table-requires
write_table-requires c =
    let room = enough (goal.at.write_table-requires c).Else-out-n in
    rw (c.leaves-n.ensures.0, c.cells-cells.ensures.cells) (is_packed _ c.cells-cells.ensures.kept, room)

-- the table as it was written
made :
    (c : After-write_table)
    → (let S = c.args.sheet.now in
    c.write_table.new.out ≡ written (accepted (table_with (leaves_of S) (cells_of S))) c.args.out.now)
unfolding written
made c =
    (rw (c.leaves-n.ensures.0, c.cells-cells.ensures.cells) at c.write_table.ensures)
    ∙ table_written _ _ (kept_cells _ c.cells-cells.ensures.kept)

pub returns : goal.returns
unfolding sheet_table_answer answered outcome
returns c =
    let here = goal.at.returns c in
    let passes = other_room _ _ _ c.cells-cells.ensures.kept _ _ (enough here.Else-out-n) in
    let all = made here.After-write_table in
    rw passes (record { answer = refl; buffer = all; made = λ room. (refl, all) })
