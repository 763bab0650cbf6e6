-- How a reply is made of what code returns. No entry's contract cites it.
use Rattle.std.specs.Prelude.{ℕ, Result, Ok, Err}
use Rattle.refusals.specs.declared.Refusal.{Refusal}
use Rattle.refusals.specs.Refusals.{number_of}
use Rattle.replies.specs.Replies.{in_one, refusal_reply}

-- the reply to a call that returns this, where `told` tells the figure of a result: that figure, or the refusal's reply
abbrev pub told_reply : {R : Type 0} → (R → ℕ) → Result R Refusal → ℕ
told_reply told (Ok x) = in_one 0 (told x)
told_reply told (Err r) = refusal_reply r

-- its number: 0, or the refusal's
abbrev pub told_number : {R : Type 0} → Result R Refusal → ℕ
told_number (Ok x) = 0
told_number (Err r) = number_of r
