-- `looks::judge_sizes` meets its contract: the two leaf counts, the three lengths and the room, one after the other.
use mathlib.Core.Path.{◌≡◌, sym, ◌∙◌}
use Prim.Native.Nat.{◌+◌, ◌-◌, ◌*◌}
use native.Mathlib.Omega.{arith}
use Rattle.limits.specs.Limits.{IsLeafCount, IsCountOf}
use Rattle.limits.proofs.TableKinds.{leaf_count_of}
use Rattle.checks.proofs.Sizes.{is_count, is_leaf_count}
use Rattle.looks.proofs.Refusals.{count_told, new_count_told, numbers_told, cells_told, new_cells_told}
use Rattle.looks.proofs.Refusals.{room_told, sizes_told}
use Rattle.looks.proofs.judge_sizes.Goals.{Else-cells-table_cells, Else-new_cells-table_cells, Else-not-leaf_count}
use Rattle.looks.proofs.judge_sizes.Goals.{Else-not-leaf_count_of, Else-numbers-listing_numbers}
use Rattle.looks.proofs.judge_sizes.Goals.{then-not-leaf_count-via-then-not-leaf_count}
use Rattle.looks.proofs.judge_sizes.Goals.{then-not-leaf_count-via-else-not-leaf_count+then-not-leaf_count_of}
use Rattle.looks.proofs.judge_sizes.Goals.{then-numbers-listing_numbers-via-then-numbers-listing_numbers}
use Rattle.looks.proofs.judge_sizes.Goals.{
  then-numbers-listing_numbers-via-else-numbers-listing_numbers+then-cells-table_cells,
}
use Rattle.looks.proofs.judge_sizes.Goals.{
  then-numbers-listing_numbers-via-else-numbers-listing_numbers+else-cells-table_cells+then-new_cells-table_cells,
}
use Rattle.looks.proofs.judge_sizes.Goals as goal

count : (c : Else-not-leaf_count) → IsLeafCount c.args.n
count c = is_leaf_count _ (sym c.leaf_count.ensures ∙ c.if-not-leaf_count.false)

new_count : (c : Else-not-leaf_count_of) → let a = c.args in IsCountOf a.kind (a.n + 1)
new_count c =
    let a = c.args in
    is_count a.kind (a.n + 1) (sym c.leaf_count_of.ensures ∙ c.if-not-leaf_count_of.false)

-- what the tests before have shown
numbers : (c : Else-numbers-listing_numbers) → let a = c.args in IsLeafCount a.n → a.numbers ≡ 2 * (a.n - 2)
numbers c k = c.if-numbers-listing_numbers.false ∙ c.listing_numbers.ensures k

cells : (c : Else-cells-table_cells) → let a = c.args in IsLeafCount a.n → a.cells ≡ a.n * a.n
cells c k = c.if-cells-table_cells.false ∙ c.table_cells.ensures k

new_cells :
    (c : Else-new_cells-table_cells) → let a = c.args in IsLeafCount (a.n + 1) → a.new_cells ≡ (a.n + 1) * (a.n + 1)
new_cells c k = c.if-new_cells-table_cells.false ∙ c.table_cells-else-cells-table_cells.ensures k

pub returns-then-not-leaf_count : goal.returns-then-not-leaf_count
returns-then-not-leaf_count c = elim c.then-not-leaf_count.branch [
  | then-not-leaf_count-via-then-not-leaf_count w ↦
      count_told _ _ _ _ _ _ _ (sym c.leaf_count.ensures ∙ w.if-not-leaf_count.true)
  | then-not-leaf_count-via-else-not-leaf_count+then-not-leaf_count_of w ↦
      new_count_told _ _ _ _ _ _ _
      (is_leaf_count _ (sym c.leaf_count.ensures ∙ w.if-not-leaf_count.false))
      (sym w.leaf_count_of.ensures ∙ w.if-not-leaf_count_of.true)
]

pub returns-then-numbers-listing_numbers : goal.returns-then-numbers-listing_numbers
returns-then-numbers-listing_numbers c =
    let at = goal.at.returns-then-numbers-listing_numbers c in
    let k = count at.Else-not-leaf_count in
    let d = new_count at.Else-not-leaf_count_of in
    let larger = leaf_count_of c.args.kind (c.args.n + 1) d in
    let long = c.listing_numbers.ensures k in
    elim c.then-numbers-listing_numbers.branch [
      | then-numbers-listing_numbers-via-then-numbers-listing_numbers w ↦
          numbers_told _ _ _ _ _ _ _ k d (λ h. w.if-numbers-listing_numbers.true (h ∙ sym long))
      | then-numbers-listing_numbers-via-else-numbers-listing_numbers+then-cells-table_cells w ↦
          cells_told _ _ _ _ _ _ _ k d (w.if-numbers-listing_numbers.false ∙ long)
          (λ h. w.if-cells-table_cells.true (h ∙ sym (w.table_cells.ensures k)))
      | then-numbers-listing_numbers-via-else-numbers-listing_numbers+else-cells-table_cells+then-new_cells-table_cells
          w ↦
          new_cells_told _ _ _ _ _ _ _ k d (w.if-numbers-listing_numbers.false ∙ long)
          (w.if-cells-table_cells.false ∙ w.table_cells.ensures k)
          (λ h. w.if-new_cells-table_cells.true (h ∙ sym (w.table_cells-else-cells-table_cells.ensures larger)))
    ]

pub returns-then-room-due : goal.returns-then-room-due
returns-then-room-due c =
    let at = goal.at.returns-then-room-due c in
    let k = count at.Else-not-leaf_count in
    let d = new_count at.Else-not-leaf_count_of in
    let larger = leaf_count_of c.args.kind (c.args.n + 1) d in
    room_told _ _ _ _ _ _ _ k d (numbers at.Else-numbers-listing_numbers k) (cells at.Else-cells-table_cells k)
    (new_cells at.Else-new_cells-table_cells larger) c.if-room-due.true

pub returns : goal.returns
returns c =
    let at = goal.at.returns c in
    let k = count at.Else-not-leaf_count in
    let d = new_count at.Else-not-leaf_count_of in
    let larger = leaf_count_of c.args.kind (c.args.n + 1) d in
    sizes_told _ _ _ _ _ _ _ k d (numbers at.Else-numbers-listing_numbers k) (cells at.Else-cells-table_cells k)
    (new_cells at.Else-new_cells-table_cells larger) (omega (arith, c.if-room-due.false))

pub overflow_add-n : goal.overflow_add-n
overflow_add-n c = omega (arith, count c)
