-- What is judged of a lent table: the refusals, in their order.
use Rattle.std.specs.Prelude.{List, [], ◌∷◌, ℕ, ◌*◌, length}
use Rattle.std.proofs.Math.Option.{Option}
use Rattle.limits.specs.declared.Kind.{Kind}
use Rattle.refusals.specs.declared.Refusal.{Refusal}
use Rattle.refusals.specs.Refusals.{judged}
use Rattle.trees.specs.Tables.{cells_refusal}
use Rattle.checks.specs.Sizes.{sizes_refusal}

-- a table of this kind of n leaves, and room for a result of so many numbers: 1, 2, 3, 4, 5
unfoldable pub table_refusal : Kind → (n : ℕ) (t : List ℕ) (due room : ℕ) → Option Refusal
table_refusal kind n t due room =
    judged (sizes_refusal kind n (n * n) (length t) due room ∷ cells_refusal n t ∷ [])
