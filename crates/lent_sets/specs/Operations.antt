-- The operations on lent sets (02, request 6): their answers, the refusals in the order in which they are judged. A set
-- is lent as bytes, and all of its bits count, those at and above the number of leaves too.
use Rattle.std.specs.Prelude.{Bool, List, [], ◌∷◌, ℕ, length}
use Rattle.std.proofs.Math.Option.{Option}
use Rattle.limits.specs.Limits.{set_bytes}
use Rattle.refusals.specs.declared.Refusal.{Refusal}
use Rattle.refusals.specs.Refusals.{Answer, judged, answered}
use Rattle.trees.specs.Splits.{bytes_of, set_of}
use Rattle.checks.specs.Sizes.{length_refusal, room_refusal}
use Rattle.sets.specs.declared.Combination.{Combination}
use Rattle.sets.specs.Sets.{combined, same_set}

-- two sets of these lengths: 2
unfoldable pub pair_refusal : (a b : ℕ) → Option Refusal
pair_refusal a b = judged (length_refusal set_bytes a ∷ length_refusal set_bytes b ∷ [])

-- and the room for a third: 2, 3
unfoldable pub sets_refusal : (a b room : ℕ) → Option Refusal
sets_refusal a b room = judged (pair_refusal a b ∷ room_refusal set_bytes room ∷ [])

-- join and intersect: what is made of the two
unfoldable pub combine_answer : (what : Combination) (a b : List ℕ) (room : ℕ) → Answer (List ℕ)
combine_answer what a b room =
    answered (sets_refusal (length a) (length b) room) (bytes_of (combined what (set_of a) (set_of b)))

-- equal: whether two sets have the same leaves
unfoldable pub equal_answer : (a b : List ℕ) → Answer Bool
equal_answer a b = answered (pair_refusal (length a) (length b)) (same_set (set_of a) (set_of b))
