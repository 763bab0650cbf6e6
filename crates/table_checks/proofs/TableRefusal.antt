-- A table as it is judged: where the sizes are right the cells decide; and what holds of a table that is not refused.
use mathlib.Core.Path.{◌≡◌, refl, ap, ◌∙◌}
use mathlib.Core.List.{List, [], ◌∷◌}
use mathlib.Core.Option.{none}
use Prim.Native.Nat.{ℕ, ◌*◌, ◌≤◌}
use lib.ListN.{length}
use Rattle.limits.specs.declared.Kind.{Kind}
use Rattle.limits.specs.Limits.{IsLeafCount, IsCountOf}
use Rattle.limits.proofs.TableKinds.{leaf_count_of}
use Rattle.refusals.specs.Refusals.{judged}
use Rattle.refusals.proofs.Answers.{judged_alone, judged_none, judged_passes}
use Rattle.trees.specs.Tables.{IsTable, cells_refusal}
use Rattle.trees.proofs.Tables.{passes, passes_exactly}
use Rattle.checks.specs.Sizes.{sizes_refusal}
use Rattle.checks.proofs.Sizes.{sizes_as_due, sizes_right, sizes_pass}
use Rattle.table_checks.specs.Operations.{table_refusal}
use Rattle.table_checks.specs.inner.Searches.{Square}

module _ (kind : Kind) (n : ℕ) (t : List ℕ) (due room : ℕ) where
  -- what the code works out as due counts only where the leaf count is right
  pub table_as_due :
      (d : ℕ) → (IsLeafCount n → d ≡ due) → table_refusal kind n t d room ≡ table_refusal kind n t due room
  unfolding table_refusal
  table_as_due d h =
      ap (λ o. judged (o ∷ cells_refusal n t ∷ []))
      (sizes_as_due kind n _ (length t) d room (n * n) due (λ c. refl) h)

  -- where 1, 2 and 3 do not arise, 4 and 5 decide
  pub cells_left :
      IsCountOf kind n → length t ≡ n * n → due ≤ room → table_refusal kind n t due room ≡ cells_refusal n t
  unfolding table_refusal
  cells_left c e m =
      let sizes = sizes_pass kind n _ _ due room (record { count = c; long = e; enough = m }) in
      judged_passes _ sizes ∙ judged_alone (cells_refusal n t)

-- where the sizes are right, the cells are as many as are due
pub right_square :
    (kind : Kind) (n : ℕ) (t : List ℕ) (due room : ℕ) → sizes_refusal kind n (n * n) (length t) due room ≡ none
    → Square n t
right_square kind n t due room h =
    let w = sizes_right kind n _ _ due room h in
    record { few = (leaf_count_of kind n w.count).1; cells = w.long }

-- a table that is not refused, whatever its kind
pub record Accepted (n : ℕ) (t : List ℕ) (due room : ℕ) : Type 0 where
  pub count : IsLeafCount n
  pub is_table : IsTable n t
  pub room_enough : due ≤ room

pub accepted_table :
    (kind : Kind) (n : ℕ) (t : List ℕ) (due room : ℕ) → table_refusal kind n t due room ≡ none
    → Accepted n t due room
unfolding table_refusal
accepted_table kind n t due room h =
    let a = judged_none (sizes_refusal kind n (n * n) (length t) due room) _ h in
    let b = judged_none (cells_refusal n t) _ a.1 in
    let w = sizes_right kind n _ (length t) due room a.0 in
    record { count = leaf_count_of kind n w.count; is_table = passes n t w.long b.0; room_enough = w.enough }

-- and a table with a zero diagonal and equal halves is not refused where the room is enough
pub table_passes :
    (kind : Kind) (n : ℕ) (t : List ℕ) (due room : ℕ) → IsCountOf kind n → IsTable n t → due ≤ room
    → table_refusal kind n t due room ≡ none
table_passes kind n t due room c h l = cells_left kind n t due room c h.cells l ∙ ((passes_exactly n t).1 h).1
