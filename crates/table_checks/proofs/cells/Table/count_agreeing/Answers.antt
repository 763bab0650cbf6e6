-- `table_checks::count_agreeing` meets its contract: four numbers of at most 1 that add up to 4 are each 1.
use mathlib.Core.Path.{◌≡◌}
use Prim.Native.Nat.{ℕ, ◌+◌, ◌≤◌}
use native.Mathlib.Omega.{arith}
use Rattle.table_checks.proofs.Searches.{four_told}
use Rattle.table_checks.proofs.cells.Table.count_agreeing.Goals as goal

-- of at most 1 each
pub overflow_add-result : goal.overflow_add-result
overflow_add-result c = omega (arith, c.agrees-2.ensures.0, c.agrees.ensures.0)

pub overflow_add-result-2 : goal.overflow_add-result-2
overflow_add-result-2 c = omega (arith, c.agrees-3.ensures.0, c.agrees-2.ensures.0, c.agrees.ensures.0)

pub overflow_add-result-3 : goal.overflow_add-result-3
overflow_add-result-3 c =
    omega (arith, c.agrees-4.ensures.0, c.agrees-3.ensures.0, c.agrees-2.ensures.0, c.agrees.ensures.0)

four_ones :
    {a b c d : ℕ} → a ≤ 1 → b ≤ 1 → c ≤ 1 → d ≤ 1
    → (a + b + c + d ≤ 4) × (a + b + c + d ≡ 4 → (a ≡ 1) × (b ≡ 1) × (c ≡ 1) × (d ≡ 1))
four_ones la lb lc ld = (omega arith, λ e. (omega arith, omega arith, omega arith, omega arith))

pub returns : goal.returns
returns c =
    let ones = four_ones c.agrees.ensures.0 c.agrees-2.ensures.0 c.agrees-3.ensures.0
    c.agrees-4.ensures.0 in (
      ones.0,
      λ h.
          four_told _ _ _ _ (c.agrees.ensures.1 (ones.1 h).0) (c.agrees-2.ensures.1 (ones.1 h).1)
          (c.agrees-3.ensures.1 (ones.1 h).2) (c.agrees-4.ensures.1 (ones.1 h).3),
    )
