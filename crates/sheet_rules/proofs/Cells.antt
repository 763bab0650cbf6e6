-- Cells in a sheet: how many there are, and which bytes each of them is.
use mathlib.Core.Path.{◌≡◌}
use mathlib.Core.List.{List}
use Prim.Native.Nat.{ℕ, ◌+◌, ◌*◌, ◌<◌}
use lib.ListN.{length, get_or, take, drop}
use Rattle.base.proofs.Lists.{length_tab, getD_tab}
use Rattle.pair_counts.specs.Pairs.{P}
use Rattle.byte_numbers.specs.Bytes.{number}
use Rattle.sheet_rules.specs.Sheets.{cells}

pub cells_many : (S : List ℕ) (n o : ℕ) → length (cells S n o) ≡ P n
unfolding cells
cells_many S n o = length_tab (P n) (λ k. number (take 2 (drop (o + 2 * k) S)))

-- the cell at place k of those that start at o
pub cell_at : (S : List ℕ) (n o k : ℕ) → k < P n → get_or (cells S n o) k 0 ≡ number (take 2 (drop (o + 2 * k) S))
unfolding cells
cell_at S n o k h = getD_tab (P n) (λ k. number (take 2 (drop (o + 2 * k) S))) k 0 h
