-- A row of a listing that keeps the rules: its two numbers come before its node, and the node joins what stands under
-- them.
use mathlib.Core.Path.{◌≡◌, ◌∙◌}
use mathlib.Core.List.{List}
use Prim.Native.Nat.{ℕ, ◌+◌, ◌-◌, ◌*◌, ◌/◌, ◌<◌}
use native.Mathlib.Omega.{arith}
use borrow.Author.Tests.{lt-ltb}
use lib.ListN.{length, get_or}
use Rattle.limits.specs.Limits.{IsLeafCount}
use Rattle.trees.specs.Trees.{node}
use Rattle.trees.specs.Listings.{KeepsRules, subtree_at}
use Rattle.trees.proofs.SubtreesByRow.{child_before, subtree_at_row}
use Rattle.listings.specs.declared.Row.{Row}
use Rattle.listings.specs.Rows.{row_at}

-- r is row k of such a listing
pub record RowOf (n : ℕ) (l : List ℕ) (k : ℕ) (r : Row) : Type 0 where
  pub first_is : r.first ≡ get_or l (2 * k) 0
  pub second_is : r.second ≡ get_or l (2 * k + 1) 0
  pub first_before : r.first < n + k
  pub second_before : r.second < n + k
  pub joins : subtree_at n l (n + k) ≡ node (subtree_at n l r.first) (subtree_at n l r.second)

pub row_read :
    (n : ℕ) (l : List ℕ) → IsLeafCount n → KeepsRules n l → (k : ℕ) → k < n - 2 → {r : Row} → r ≡ row_at l k
    → RowOf n l k r
unfolding row_at
row_read n l c w k h {r} e = record {
  first_is = rw is;
  second_is = rw is;
  first_before = rw is (omega (arith, child_before n l c w (2 * k) (omega (arith, w.numbers))));
  second_before = rw is (omega (arith, child_before n l c w (2 * k + 1) (omega (arith, w.numbers))));
  joins = rw is (subtree_at_row n l c w k h);
}
  where
    is : r ≡ record { first = get_or l (2 * k) 0; second = get_or l (2 * k + 1) 0 }
    is = e ∙ rw (lt-ltb k (length l / 2) (omega (arith, w.numbers)))
