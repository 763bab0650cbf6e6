-- The sizes of a look, which are judged in a go of their own. No public contract cites it.
use Rattle.std.specs.Prelude.{[], ◌∷◌, ℕ, ◌+◌, ◌-◌, ◌*◌}
use Rattle.std.proofs.Math.Option.{Option}
use Rattle.limits.specs.declared.Kind.{Kind}
use Rattle.refusals.specs.declared.Refusal.{Refusal}
use Rattle.refusals.specs.Refusals.{judged}
use Rattle.checks.specs.Sizes.{count_refusal, count_refusal_of, length_refusal, room_refusal}

-- a listing of so many numbers and a table of so many cells, of n leaves; a new table, of n + 1; and the room
unfoldable pub look_sizes_refusal : Kind → (n numbers cells new_cells due room : ℕ) → Option Refusal
look_sizes_refusal kind n numbers cells new_cells due room =
    judged (
    count_refusal n ∷ count_refusal_of kind (n + 1) ∷ length_refusal (2 * (n - 2)) numbers
    ∷ length_refusal (n * n) cells ∷ length_refusal ((n + 1) * (n + 1)) new_cells ∷ room_refusal due room ∷ []
    )
