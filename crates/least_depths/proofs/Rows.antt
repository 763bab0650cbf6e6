-- A row of a tree's table as it is written, or taken from another: where its cells stand, what their counts ask, and
-- one cell more of it; and one row more of the rows in the order of the places.
use mathlib.Core.Path.{◌≡◌, refl, sym, ◌∙◌}
use mathlib.Core.List.{List}
use Prim.Native.Nat.{ℕ, ◌+◌, ◌*◌, ◌/◌, ◌≤◌, ◌<◌}
use native.Mathlib.Nat.{add-zero}
use native.Mathlib.Omega.{arith}
use native.Mathlib.Decide.{ℕ_discrete}
use lib.ListN.{length, set, length-set}
use Rattle.base.proofs.Lists.{place}
use Rattle.base.proofs.Filling.{cell_more}
use Rattle.limits.specs.Limits.{most_leaves, most_cells}
use Rattle.limits.proofs.TablePlaces.{place_small}
use Rattle.leaf_orders.specs.inner.LeafOrders.{at}
use Rattle.least_depths.specs.inner.Rows.{RowWritten, RowsHold}

-- where cell j of row i stands
pub cell_place :
    {n i j room : ℕ} → n ≤ most_leaves → i < n → j < n → n * n ≤ room → (i * n + j < most_cells) × (i * n + j < room)
cell_place {n} {i} {j} few li lj enough = (place_small n i j few li lj, omega (arith, place n i j li lj))

module _ {A : Type 0} {n i : ℕ} {value : ℕ → A} where
  -- no cell, one more, and all
  pub row_begun : {out : List A} → RowWritten n i value out out 0
  row_begun = record { same_length = refl; cells = λ f l h e. rw add-zero e }

  pub row_more :
      {before out : List A} {j : ℕ} {v : A} → RowWritten n i value before out j → j < n → i * n + j < length before
      → v ≡ value j → RowWritten n i value before (set out (i * n + j) v) (j + 1)
  row_more {out = out} {j = j} {v = v} w lj room e = record {
    same_length = length-set out (i * n + j) v ∙ w.same_length;
    cells = λ f l h start. cell_more f l (i * n) j start room (w.cells f l h start) (e ∙ sym (h j lj));
  }

  pub row_whole :
      {before out : List A} {j : ℕ} → j ≡ n → RowWritten n i value before out j → RowWritten n i value before out n
  row_whole e w = rw e at w

-- no row of those in the order of the places, and one more
module _ {n : ℕ} {leaves cells : List ℕ} {f : ℕ → ℕ} where
  pub rows_none : RowsHold n leaves f cells 0
  rows_none = record { right = λ k q l e. absurd (omega arith) }

  pub rows_more :
      {p : ℕ} → RowsHold n leaves f cells p → ((k : ℕ) → k / n ≡ at leaves p → at cells k ≡ f k)
      → RowsHold n leaves f cells (p + 1)
  rows_more {p = p} old new = record {
    right = λ k q l e. elim (ℕ_discrete q p) [
      | yes s ↦ new k (rw s at e)
      | no d ↦ old.right k q (omega arith) e
    ];
  }
