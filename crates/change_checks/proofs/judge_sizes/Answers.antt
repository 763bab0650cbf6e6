-- `change_checks::judge_sizes` meets its contract: each test refuses, or the next one decides.
use mathlib.Core.Path.{◌≡◌, sym, ◌∙◌}
use Prim.Native.Nat.{◌-◌, ◌*◌, ◌≤◌}
use native.Mathlib.Omega.{arith}
use Rattle.limits.specs.Limits.{IsLeafCount}
use Rattle.checks.proofs.Sizes.{is_leaf_count}
use Rattle.change_checks.proofs.Refusals.{count_told, numbers_told, cells_told, room_told, space_told}
use Rattle.change_checks.proofs.Refusals.{sizes_told}
use Rattle.change_checks.proofs.judge_sizes.Goals.{Else-cells-table_cells, Else-not-leaf_count}
use Rattle.change_checks.proofs.judge_sizes.Goals.{Else-numbers-listing_numbers, Else-room-listing_numbers}
use Rattle.change_checks.proofs.judge_sizes.Goals.{then-numbers-listing_numbers-via-then-numbers-listing_numbers}
use Rattle.change_checks.proofs.judge_sizes.Goals.{
  then-numbers-listing_numbers-via-else-numbers-listing_numbers+then-cells-table_cells,
}
use Rattle.change_checks.proofs.judge_sizes.Goals.{then-room-listing_numbers-via-then-room-listing_numbers}
use Rattle.change_checks.proofs.judge_sizes.Goals.{
  then-room-listing_numbers-via-else-room-listing_numbers+then-space-table_cells,
}
use Rattle.change_checks.proofs.judge_sizes.Goals as goal

pub returns-then-not-leaf_count : goal.returns-then-not-leaf_count
returns-then-not-leaf_count c = count_told _ _ _ _ _ _ (sym c.leaf_count.ensures ∙ c.if-not-leaf_count.true)

-- what the tests before have shown
count : (c : Else-not-leaf_count) → IsLeafCount c.args.m
count c = is_leaf_count _ (sym c.leaf_count.ensures ∙ c.if-not-leaf_count.false)

numbers : (c : Else-numbers-listing_numbers) → let a = c.args in a.numbers ≡ 2 * (a.n - 2)
numbers c = c.if-numbers-listing_numbers.false ∙ c.listing_numbers.ensures c.requires

cells : (c : Else-cells-table_cells) → let a = c.args in a.cells ≡ a.n * a.n
cells c = c.if-cells-table_cells.false ∙ c.table_cells.ensures c.requires

room : (c : Else-room-listing_numbers) → let a = c.args in IsLeafCount a.m → 2 * (a.m - 2) ≤ a.room
room c k = omega (arith, c.if-room-listing_numbers.false, c.listing_numbers-2.ensures k)

pub returns-then-numbers-listing_numbers : goal.returns-then-numbers-listing_numbers
returns-then-numbers-listing_numbers c =
    let k = count (goal.at.returns-then-numbers-listing_numbers c).Else-not-leaf_count in
    elim c.then-numbers-listing_numbers.branch [
      | then-numbers-listing_numbers-via-then-numbers-listing_numbers w ↦
          numbers_told _ _ _ _ _ _ k
          (λ h. w.if-numbers-listing_numbers.true (h ∙ sym (c.listing_numbers.ensures c.requires)))
      | then-numbers-listing_numbers-via-else-numbers-listing_numbers+then-cells-table_cells w ↦
          cells_told _ _ _ _ _ _ k (w.if-numbers-listing_numbers.false ∙ c.listing_numbers.ensures c.requires)
          (λ h. w.if-cells-table_cells.true (h ∙ sym (w.table_cells.ensures c.requires)))
    ]

pub returns-then-room-listing_numbers : goal.returns-then-room-listing_numbers
returns-then-room-listing_numbers c =
    let at = goal.at.returns-then-room-listing_numbers c in
    let k = count at.Else-not-leaf_count in
    let long = numbers at.Else-numbers-listing_numbers in
    let square = cells at.Else-cells-table_cells in
    elim c.then-room-listing_numbers.branch [
      | then-room-listing_numbers-via-then-room-listing_numbers w ↦
          room_told _ _ _ _ _ _ k long square
          (omega (arith, w.if-room-listing_numbers.true, c.listing_numbers-2.ensures k))
      | then-room-listing_numbers-via-else-room-listing_numbers+then-space-table_cells w ↦
          space_told _ _ _ _ _ _ k long square
          (omega (arith, w.if-room-listing_numbers.false, c.listing_numbers-2.ensures k))
          (omega (arith, w.if-space-table_cells.true, w.table_cells-else-room-listing_numbers.ensures k))
    ]

pub returns : goal.returns
returns c =
    let at = goal.at.returns c in
    let k = count at.Else-not-leaf_count in
    sizes_told _ _ _ _ _ _ k (numbers at.Else-numbers-listing_numbers) (cells at.Else-cells-table_cells)
    (room at.Else-room-listing_numbers k)
    (omega (arith, c.if-space-table_cells.false, c.table_cells-else-room-listing_numbers.ensures k))
