-- Export as code answers it: how many bytes it wrote, or the refusal.
use Rattle.std.specs.Prelude.{List, ℕ, length, Result, Ok, Err}
use Rattle.refusals.specs.declared.Refusal.{Refusal}
use Rattle.refusals.specs.Refusals.{Answer, accepted, refused}

-- the bytes of a text that is given
unfoldable pub replied : Answer (List ℕ) → Result ℕ Refusal
replied (accepted t) = Ok (length t)
replied (refused r) = Err r
