-- What the searches of the checks 4 and 5 find, as the answer that code gives.
use Rattle.std.specs.Prelude.{Ok, Err}
use mathlib.Core.Path.{◌≡◌}
use mathlib.Core.List.{List}
use mathlib.Core.Option.{Option, none, some}
use Prim.Native.Nat.{ℕ}
use Rattle.refusals.specs.declared.Refusal.TheVariants.{Diagonal, Halves}
use Rattle.refusals.specs.Refusals.{outcome_of}
use Rattle.trees.specs.Tables.{first_filled, first_unequal, cells_refusal}
use Rattle.table_checks.specs.inner.Searches.{halves_refusal}

pub unequal_told :
    (o : Option (ℕ × ℕ)) (i j : ℕ) → o ≡ some (i, j)
    → Err (Halves i j) ≡ outcome_of (halves_refusal o)
unfolding halves_refusal outcome_of
unequal_told o i j e = rw e

pub equal_told : (o : Option (ℕ × ℕ)) → o ≡ none → Ok tt ≡ outcome_of (halves_refusal o)
unfolding halves_refusal outcome_of
equal_told o e = rw e

pub filled_told :
    (n : ℕ) (t : List ℕ) (i : ℕ) → first_filled n t ≡ some i
    → Err (Diagonal i) ≡ outcome_of (cells_refusal n t)
unfolding cells_refusal outcome_of
filled_told n t i e = rw (e, cells_refusal)

-- where the diagonal is 0, the halves decide
pub halves_decide :
    (n : ℕ) (t : List ℕ) → first_filled n t ≡ none → cells_refusal n t ≡ halves_refusal (first_unequal n t)
unfolding cells_refusal halves_refusal
halves_decide n t e = rw (e, cells_refusal)
