-- The operation `table`: its answer, the refusals in the order in which they are judged.
use Rattle.std.specs.Prelude.{List, ℕ, ◌*◌}
use Rattle.refusals.specs.Refusals.{Answer, answered}
use Rattle.trees.specs.Listings.{tree_of}
use Rattle.trees.specs.Tables.{table_of}
use Rattle.listings.specs.Operations.{listing_refusal}

-- the table of the tree that a listing stands for: 1, 2, 3, 7, 8
unfoldable pub table_answer : (n : ℕ) (l : List ℕ) (room : ℕ) → Answer (List ℕ)
table_answer n l room = answered (listing_refusal n l (n * n) room) (table_of n (tree_of n l))
