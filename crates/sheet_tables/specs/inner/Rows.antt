-- What the inner functions ask of one another and promise one another. No public promise cites it.
use Rattle.std.specs.Prelude.{◌≡◌, List, ℕ, ◌+◌, ◌*◌, ◌/◌, ◌%◌, ◌≤◌, length}
use Rattle.base.specs.Lists.{filled}
use Rattle.packed_tables.specs.Packed.{mirrored}

-- cell k of the table with the cells c above the diagonal, counted row by row
abbrev pub table_rule : ℕ → List ℕ → ℕ → ℕ
table_rule n c k = mirrored n c (k / n) (k % n)

-- a buffer with the rows before row i has row i too
pub record RowWritten (n : ℕ) (c : List ℕ) (i : ℕ) (before after : List ℕ) : Type 0 where
  pub long : length after ≡ length before
  pub row :
      (out : List ℕ) → n * n ≤ length out → before ≡ filled (i * n) (table_rule n c) out
      → after ≡ filled (i * n + n) (table_rule n c) out
