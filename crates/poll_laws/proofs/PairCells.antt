-- Which cells a pair of leaves has: one above the diagonal, and none on it.
use mathlib.Core.Path.{◌≡◌, refl}
use mathlib.Core.Bool.{false, true, ◌&&◌, or-false}
use Prim.Native.Nat.{ℕ, zero, suc, ◌<◌}
use native.Mathlib.Omega.{arith}
use borrow.Author.Tests.{eqb-true}
use lib.Dec.{eqb}
use Rattle.base.proofs.Bools.{is_false, or_none, and_both}
use Rattle.poll_rules.specs.declared.Record.{Record}
use Rattle.poll_rules.specs.Counts.{cell_of, beside}

-- i is x and j is y
pub both_are : (i j x y : ℕ) → (eqb i x && eqb j y) ≡ true → (i ≡ x) × (j ≡ y)
both_are i j x y h = let r = and_both (eqb i x) (eqb j y) h in (eqb-true i x r.0, eqb-true j y r.1)

-- a pair x < y has the cell (i, j), i < j, where i is x and j is y
pub cell_rising : (x y i j : ℕ) → x < y → i < j → cell_of x y i j ≡ (eqb i x && eqb j y)
unfolding cell_of
cell_rising x y i j l m = rw (other_way, or-false (eqb i x && eqb j y))
  where
    other_way : (eqb i y && eqb j x) ≡ false
    other_way = is_false _ (λ h. let r = both_are i j y x h in omega arith)

-- no cell of a pair is on the diagonal
cell_diagonal : (x y i : ℕ) → x < y → cell_of x y i i ≡ false
unfolding cell_of
cell_diagonal x y i l =
    or_none _ _ (is_false _ (λ h. let r = both_are i i x y h in omega arith))
    (is_false _ (λ h. let r = both_are i i y x h in omega arith))

-- nor any of a pairing
pub pairing_diagonal :
    (p : ℕ) (r : Record) (i : ℕ) → r.a < r.b → r.b < r.c → r.c < r.d → beside p r i i ≡ false
unfolding beside
pairing_diagonal zero r i ab bc cd = rw (cell_diagonal r.a r.b i ab, cell_diagonal r.c r.d i cd)
pairing_diagonal (suc zero) r i ab bc cd =
    rw (cell_diagonal r.a r.c i (omega arith), cell_diagonal r.b r.d i (omega arith))
pairing_diagonal (suc (suc zero)) r i ab bc cd =
    rw (cell_diagonal r.a r.d i (omega arith), cell_diagonal r.b r.c i bc)
pairing_diagonal (suc (suc (suc p))) r i ab bc cd = refl
