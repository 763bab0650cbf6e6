-- `guesses::sheet_guess` meets its contract: the sheet's table stands at the front of a local array, and the guess is
-- of that.
use mathlib.Core.Path.{◌≡◌, sym}
use Prim.Native.Nat.{◌*◌, ◌≤◌}
use native.Mathlib.Omega.{arith}
use lib.ListN.{take}
use Rattle.limits.specs.Limits.{most_cells, IsLeafCount}
use Rattle.guess_answers.specs.Operations.{sheet_guessed}
use Rattle.packed_tables.proofs.PackedIsTable.{sheet_is_table}
use Rattle.packed_tables.specs.Packed.{table_with}
use Rattle.sheet_rules.specs.Sheets.{leaves_of, cells_of}
use Rattle.guesses.proofs.Judged.{few_cells, table_in_front}
use Rattle.guesses.proofs.sheet_guess.Goals.{After-leaves-n, After-table_of}
use Rattle.guesses.proofs.sheet_guess.Goals as goal

-- the leaf count, and that the table fits the array
counted : (c : After-leaves-n) → IsLeafCount (leaves_of c.args.sheet.now)
counted c = rw c.leaves-n.ensures.0 at c.leaves-n.ensures.1

few : (c : After-leaves-n) → let n = c.leaves-n.result in n * n ≤ most_cells
few c = rw c.leaves-n.ensures.0 (few_cells _ (counted c))

pub overflow_mul-cells : goal.overflow_mul-cells
overflow_mul-cells c = omega (arith, few (goal.at.overflow_mul-cells c).After-leaves-n)

pub slice_bounds-table-end : goal.slice_bounds-table-end
slice_bounds-table-end c = omega (arith, few (goal.at.slice_bounds-table-end c).After-leaves-n)

-- the cells lent to the guess are the sheet's table
the_table :
    (c : After-table_of)
    → (let S = c.args.sheet.now in
    let n = leaves_of S in IsLeafCount n → take (n * n) c.table_of.new.out ≡ table_with n (cells_of S))
the_table c count = rw (c.table_of.ensures.made (omega (arith, few_cells _ count))).1 (table_in_front _ count _)

pub slice_bounds-guess_tree-end : goal.slice_bounds-guess_tree-end
slice_bounds-guess_tree-end c =
    let here = goal.at.slice_bounds-guess_tree-end c in
    let table = the_table here.After-table_of (counted here.After-leaves-n) in
    rw (c.leaves-n.ensures.0, table) (sym (sheet_is_table _ _).cells)

pub guess_tree-requires : goal.guess_tree-requires
guess_tree-requires c =
    let here = goal.at.guess_tree-requires c in
    let count = counted here.After-leaves-n in
    rw c.leaves-n.ensures.0 (count, rw (the_table here.After-table_of count) (sheet_is_table _ _), c.requires)

pub returns : goal.returns
unfolding sheet_guessed
returns c =
    let here = goal.at.returns c in
    let table = the_table here.After-table_of (counted here.After-leaves-n) in
    rw (c.leaves-n.ensures.0, table) at c.guess_tree.ensures
