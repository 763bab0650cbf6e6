-- Packed tables: the cells above the diagonal alone, row by row, in two bytes each, low byte first, as a strain sheet
-- has them (01, "The strain sheet"); the table that they mean has them mirrored below the diagonal.
use Rattle.std.specs.Prelude.{◌≡◌, cond, List, ℕ, ◌+◌, ◌-◌, ◌*◌, ◌/◌, ◌%◌, ltb, length, get_or, take, drop}
use Rattle.base.specs.Numbers.{sum_below}
use Rattle.base.specs.Lists.{tab}
use Rattle.limits.specs.Limits.{IsLeafCount}
use Rattle.pair_counts.specs.Pairs.{P}
use Rattle.byte_numbers.specs.Bytes.{number}

-- how many cells above the diagonal stand before cell (i, j), i < j, row by row: n − 1 in row 0, n − 2 in row 1, ..,
-- and j − i − 1 in row i itself
unfoldable pub cells_before : ℕ → ℕ → ℕ → ℕ
cells_before n i j = sum_below i (λ r. n - (r + 1)) + (j - (i + 1))

-- cell (i, j) of the table that has the cells c above the diagonal: below it the mirror cell, on it 0
unfoldable pub mirrored : ℕ → List ℕ → ℕ → ℕ → ℕ
mirrored n c i j = cond (ltb i j) (get_or c (cells_before n i j) 0) (cond (ltb j i) (get_or c (cells_before n j i) 0) 0)

-- the table that has the cells c above the diagonal: n × n cells, row by row
unfoldable pub table_with : ℕ → List ℕ → List ℕ
table_with n c = tab (n * n) (λ k. mirrored n c (k / n) (k % n))

-- the cells above the diagonal that the bytes B hold
unfoldable pub packed_cells : ℕ → List ℕ → List ℕ
packed_cells n B = tab (P n) (λ k. number (take 2 (drop (2 * k) B)))

-- the bytes of n leaves: two for each pair of them
abbrev pub Packed : ℕ → List ℕ → Type 0
Packed n B = IsLeafCount n × (length B ≡ n * (n - 1))
