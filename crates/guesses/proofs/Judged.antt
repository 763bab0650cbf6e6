-- What is so of a table and of a sheet that have been judged, as the guess asks it.
use mathlib.Core.Path.{◌≡◌}
use mathlib.Core.List.{List}
use mathlib.Core.Option.{none}
use Prim.Native.Nat.{ℕ, ◌*◌, ◌≤◌}
use native.Mathlib.Nat.{mul-le-mul}
use lib.ListN.{length, take}
use lib.Seq.{take_at}
use Rattle.limits.specs.declared.Kind.{Kind}
use Rattle.limits.specs.Limits.{IsLeafCount, IsCountOf, most_cells}
use Rattle.refusals.specs.Refusals.{accepted, written}
use Rattle.refusals.proofs.Answers.{judged_none}
use Rattle.checks.specs.Sizes.{sizes_refusal}
use Rattle.checks.proofs.Sizes.{sizes_right}
use Rattle.table_checks.specs.Operations.{table_refusal}
use Rattle.packed_tables.specs.Packed.{table_with}
use Rattle.packed_tables.proofs.PackedIsTable.{sheet_is_table}
use Rattle.sheet_rules.specs.Sheets.{leaves_of, cells_of}

-- the leaf count of a table is one of its kind
pub count_of_kind :
    (kind : Kind) (n : ℕ) (t : List ℕ) (due room : ℕ) → table_refusal kind n t due room ≡ none → IsCountOf kind n
unfolding table_refusal
count_of_kind kind n t due room h =
    let a = judged_none (sizes_refusal kind n (n * n) (length t) due room) _ h in
    (sizes_right kind n _ (length t) due room a.0).count

-- A sheet that has been judged.
module _ (S : List ℕ) (count : IsLeafCount (leaves_of S)) where
  abbrev n : ℕ
  n = leaves_of S

  pub few_cells : n * n ≤ most_cells
  few_cells = mul-le-mul count.1 count.1

  -- its table stands at the front of an array of most_cells
  pub table_in_front :
      (cells : List ℕ) → take (n * n) (written (accepted (table_with n (cells_of S))) cells) ≡ table_with n (cells_of S)
  unfolding written
  table_in_front cells = take_at (table_with n (cells_of S)) _ (n * n) (sheet_is_table n (cells_of S)).cells
