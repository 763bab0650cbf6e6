-- What a poll adds up to (01, "Polls"; 02, 2): what a record adds to a cell, in sixths, and the poll's table.
use Rattle.std.specs.Prelude.{Bool, false, ◌&&◌, ◌||◌, List, [], ◌∷◌, ℕ, zero, suc, ◌+◌, ◌*◌, ◌/◌, ◌%◌, eqb, get_or}
use Rattle.base.specs.Numbers.{indicator}
use Rattle.base.specs.Lists.{tab}
use Rattle.poll_rules.specs.declared.Record.{Record}

-- cell (i, j) is that of the pair x, y, or its mirror cell
unfoldable pub cell_of : (x y i j : ℕ) → Bool
cell_of x y i j = (eqb i x && eqb j y) || (eqb i y && eqb j x)

-- pairing p of the record's leaves puts i beside j: cell (i, j) is that of one of its two pairs, or a mirror cell.
-- 0: first with second; 1: first with third; 2: first with fourth
unfoldable pub beside : ℕ → Record → (i j : ℕ) → Bool
beside zero r i j = cell_of r.a r.b i j || cell_of r.c r.d i j
beside (suc zero) r i j = cell_of r.a r.c i j || cell_of r.b r.d i j
beside (suc (suc zero)) r i j = cell_of r.a r.d i j || cell_of r.b r.c i j
beside (suc (suc (suc p))) r i j = false

-- what the codes 0 to 6 give to the pairings 0, 1 and 2, in sixths: 0, 1 and 2 give all to one, 3 a third to each, and
-- 4, 5 and 6 half to each of two
unfoldable pub shares : List (List ℕ)
shares =
    (6 ∷ 0 ∷ 0 ∷ [])
    ∷ (0 ∷ 6 ∷ 0 ∷ [])
    ∷ (0 ∷ 0 ∷ 6 ∷ [])
    ∷ (2 ∷ 2 ∷ 2 ∷ [])
    ∷ (3 ∷ 3 ∷ 0 ∷ [])
    ∷ (3 ∷ 0 ∷ 3 ∷ [])
    ∷ (0 ∷ 3 ∷ 3 ∷ [])
    ∷ []

-- the share of pairing p in a record with this code
unfoldable pub share : (code p : ℕ) → ℕ
share code p = get_or (get_or shares code []) p 0

-- what a record adds to cell (i, j): the share of the pairing that puts i beside j
unfoldable pub adds : Record → (i j : ℕ) → ℕ
adds r i j =
    indicator (beside 0 r i j) (share r.code 0)
    + (indicator (beside 1 r i j) (share r.code 1) + indicator (beside 2 r i j) (share r.code 2))

-- what the records add to cell (i, j)
unfoldable pub poll_cell : List Record → (i j : ℕ) → ℕ
poll_cell [] i j = 0
poll_cell (r ∷ R) i j = adds r i j + poll_cell R i j

-- the poll's table: n × n cells, row by row
unfoldable pub poll_table : ℕ → List Record → List ℕ
poll_table n R = tab (n * n) (λ k. poll_cell R (k / n) (k % n))
