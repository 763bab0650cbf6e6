-- The answer of the guess as code returns it, while the listing stands in a lent buffer.
use Rattle.std.specs.Prelude.{[], ◌∷◌, ℕ, Result, Ok, Err}
use Rattle.refusals.specs.declared.Refusal.{Refusal}
use Rattle.refusals.specs.Refusals.{Answer, accepted, refused}
use Rattle.tree_records.specs.Origins.{origin_number}
use Rattle.replies.specs.Replies.{figure}
use Rattle.merging.specs.Guesses.{Reply}
use Rattle.guesses.specs.declared.Found.{Found}

-- what is told of a reply
abbrev pub found : Reply → Found
found r = record { origin = r.origin; total = r.total }

unfoldable pub guess_outcome : Answer Reply → Result Found Refusal
guess_outcome (accepted r) = Ok (found r)
guess_outcome (refused x) = Err x

-- the figure of a reply to C: the origin's number and 256 times the total gap
abbrev pub found_figure : Found → ℕ
found_figure f = figure (f.total ∷ origin_number f.origin ∷ [])
