-- Tree records (02, request 3): a leaf count, a listing and an origin; and the answers of operations that make one.
use Rattle.std.specs.Prelude.{List, ℕ, Result, Ok, Err}
use Rattle.refusals.specs.declared.Refusal.{Refusal}
use Rattle.refusals.specs.Refusals.{Answer, accepted, refused}
use Rattle.tree_records.specs.declared.Origin.{Origin}

pub record TreeRecord : Type 0 where
  pub leaves : ℕ
  pub listing : List ℕ
  pub origin : Origin

-- an answer's listing as the record of a tree on n leaves, marked with this origin
unfoldable pub marked : ℕ → Origin → Answer (List ℕ) → Answer TreeRecord
marked n o (accepted l) = accepted (record { leaves = n; listing = l; origin = o })
marked n o (refused r) = refused r

-- the answer as the enum that code returns: the origin, while the listing stands in a lent buffer
unfoldable pub tree_outcome : Answer TreeRecord → Result Origin Refusal
tree_outcome (accepted R) = Ok R.origin
tree_outcome (refused r) = Err r
