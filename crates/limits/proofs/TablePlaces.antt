-- The places of the cells of a table, row by row, n cells a row: all are below the cells of the largest table, so that
-- their arithmetic fits every integer type.
use Prim.Native.Nat.{ℕ, ◌+◌, ◌*◌, ◌≤◌, ◌<◌}
use native.Mathlib.Nat.{mul-le-mul}
use native.Mathlib.Omega.{arith}
use Rattle.base.proofs.Lists.{place}
use Rattle.limits.specs.Limits.{most_leaves, most_cells}

pub square_small : (n : ℕ) → n ≤ most_leaves → n * n ≤ most_cells
square_small n h = mul-le-mul h h

pub place_small : (n i j : ℕ) → n ≤ most_leaves → i < n → j < n → i * n + j < most_cells
place_small n i j h li lj = omega (arith, place n i j li lj, square_small n h)
