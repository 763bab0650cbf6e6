-- `standard_listings::write_row` meets its contract: it writes the two cells of the row, and no other.
use Rattle.standard_listings.proofs.write_row.Goals as goal

pub returns : goal.returns
returns c = rw (c.child_number.ensures, c.child_number-2.ensures)
