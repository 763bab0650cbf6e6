-- `least_depths::TableRow::seek` meets its contract: the row is moved on, or found anew.
use Rattle.least_depths.proofs.LeastDepths.{row_found}
use Rattle.least_depths.proofs.TableRow.seek.Goals.{then-p-self-2, else-p-self-2}
use Rattle.least_depths.proofs.TableRow.seek.Goals as goal

pub invariant_of-self : goal.invariant_of-self
invariant_of-self c = elim c.if-p-self-2.branch [
  | then-p-self-2 w ↦
      let next = w.next_row-self.ensures in
      rw (w.self-is, w.self2-is) (record { found = row_found c.requires next.0 next.1 })
  | else-p-self-2 w ↦ rw (w.self-is, w.self2-is) (record { found = w.find_row-self.ensures })
]
