-- The reply of a C call that makes a guess, its listing in a buffer: the figure is the origin's number and 256 times
-- the total gap.
use Rattle.std.specs.Prelude.{[], ◌∷◌, ℕ}
use Rattle.refusals.specs.Refusals.{Answer, accepted, refused}
use Rattle.tree_records.specs.Origins.{origin_number}
use Rattle.replies.specs.Replies.{in_one, figure, refusal_reply}
use Rattle.merging.specs.Guesses.{Reply}

unfoldable pub guess_reply : Answer Reply → ℕ
guess_reply (accepted r) = in_one 0 (figure (r.total ∷ origin_number r.origin ∷ []))
guess_reply (refused x) = refusal_reply x
