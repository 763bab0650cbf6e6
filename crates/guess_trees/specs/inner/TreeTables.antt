-- The table of the tree that the guess makes, as bytes: no public contract cites it.
use Rattle.std.specs.Prelude.{◌≡◌, List, ℕ}
use Rattle.refusals.specs.Refusals.{accepted}
use Rattle.packed_tables.specs.Packed.{table_with, packed_cells, Packed}
use Rattle.merging.specs.MergeLists.{final_listing}
use Rattle.merging.specs.Rebuilds.{rebuilt}
use Rattle.merging.specs.Guesses.{guess}

-- the bytes B are a packed table from which our rebuild makes the tree of the guess for the table t
pub record TreeTable (n s : ℕ) (t B : List ℕ) : Type 0 where
  pub packed : Packed n B
  pub rebuilds : rebuilt n s (table_with n (packed_cells n B)) ≡ accepted (final_listing n (guess n s t))
