-- The table of a sheet on its way to our own rebuild: a sheet accepted with one room is accepted with any other that is
-- enough, and our own rebuild refuses it with 6 alone, as a table and where it stands.
use mathlib.Core.Path.{◌≡◌, ◌∙◌}
use mathlib.Core.Option.{none}
use mathlib.Core.List.{List}
use Prim.Native.Nat.{ℕ, ◌-◌, ◌*◌, ◌≤◌}
use Rattle.limits.specs.declared.Kind.TheVariants.{Counts}
use Rattle.refusals.proofs.Answers.{unless_passed}
use Rattle.packed_tables.specs.Packed.{table_with}
use Rattle.rebuild_answers.specs.Operations.{rebuild_answer, packed_answer}
use Rattle.rebuild_answers.proofs.RebuildRefusals.{none_refused}
use Rattle.rebuild_answers.proofs.Promises.{mirrored_rebuilt}
use Rattle.sheet_rules.specs.Sheets.{leaves_of, cells_of}
use Rattle.sheet_rules.specs.Operations.{sheet_refusal}
use Rattle.sheets.specs.inner.Figures.{packed_of}
use Rattle.sheets.proofs.Judged.{accepted_here}
use Rattle.sheet_tables.proofs.PackedSheet.{is_packed, kept_cells}
use Rattle.sheet_trees.specs.Operations.{sheet_tree}

-- our own rebuild of it
pub rebuilt_alone :
    (S : List ℕ) (room : ℕ) → sheet_refusal S (2 * (leaves_of S - 2)) room ≡ none
    → rebuild_answer Counts (leaves_of S) (table_with (leaves_of S) (cells_of S)) room ≡ sheet_tree S
unfolding sheet_tree
rebuilt_alone S room h =
    let a = accepted_here S (2 * (leaves_of S - 2)) room h in
    mirrored_rebuilt (leaves_of S) (cells_of S) room a.count a.room_enough

-- and where it stands, in the bytes from the offset to the trailer
pub rebuilt_in_place :
    (S : List ℕ) (room : ℕ) → sheet_refusal S 0 0 ≡ none → 2 * (leaves_of S - 2) ≤ room
    → packed_answer (leaves_of S) (packed_of S) room ≡ sheet_tree S
unfolding packed_answer sheet_tree
rebuilt_in_place S room h enough =
    let packed = is_packed S h in
    unless_passed _ _ (none_refused (leaves_of S) (packed_of S) room packed.0 packed.1 enough)
    ∙ rw (kept_cells S h)
