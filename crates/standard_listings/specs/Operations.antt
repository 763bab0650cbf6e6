-- The operation standardise: its answer, the refusals in the order in which they are judged.
use Rattle.std.specs.Prelude.{List, ℕ, ◌-◌, ◌*◌}
use Rattle.refusals.specs.Refusals.{Answer, answered}
use Rattle.trees.specs.Listings.{tree_of, standard}
use Rattle.listings.specs.Operations.{listing_refusal}

-- standardise: the standard listing of the tree that a listing stands for
unfoldable pub standardise_answer : (n : ℕ) (l : List ℕ) (room : ℕ) → Answer (List ℕ)
standardise_answer n l room = answered (listing_refusal n l (2 * (n - 2)) room) (standard n (tree_of n l))
