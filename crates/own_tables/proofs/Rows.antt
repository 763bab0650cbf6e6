-- A row of which all cells are right holds the tree's counts; a table of which one is wrong is not the tree's own.
use mathlib.Core.Path.{◌≡◌, refl, sym, ap, ◌∙◌}
use mathlib.Core.Logic.{inl, inr, ◌≢◌}
use mathlib.Core.Bool.{Bool, true, false}
use mathlib.Core.List.{List}
use Prim.Native.Nat.{ℕ, ◌+◌, ◌*◌, ◌/◌, ◌%◌, ◌≤◌, ◌<◌}
use native.Mathlib.Nat.{div-add-mod', mod-lt}
use native.Mathlib.Omega.{arith}
use borrow.Author.Tests.{eqb-true, eq-eqb}
use lib.Dec.{eqb}
use mir.Val.{bool_byte}
use Rattle.base.specs.Numbers.{indicator, all_below, count_below}
use Rattle.base.proofs.Bools.{bool?}
use Rattle.base.proofs.Counts.{all_true, count_full, count_all}
use Rattle.base.proofs.Lists.{place}
use Rattle.trees.specs.Listings.{tree_of}
use Rattle.trees.specs.Tables.{is_own_table}
use Rattle.leaf_orders.specs.declared.LeafOrder.{LeafOrder}
use Rattle.leaf_orders.specs.inner.LeafOrders.{at}
use Rattle.least_depths.specs.inner.Rows.{count_of}
use Rattle.least_depths.proofs.RowCounts.{cell_at, cell_is, cell_in}
use Rattle.own_tables.specs.inner.Rows.{RightCounted}

-- a test as a number: 1 where it is passed, else 0
pub bool_as : (b : Bool) → bool_byte b ≡ indicator b 1
bool_as true = refl
bool_as false = refl

-- what the number of right cells of the row of the leaf at place p says of the row, and of the table
pub record RowJudged (o : LeafOrder) (p : ℕ) (cells : List ℕ) (right : ℕ) : Type 0 where
  pub all_right : right ≡ o.n → (k : ℕ) → k / o.n ≡ at o.leaves p → at cells k ≡ cell_at o.n o.listing.now k
  pub some_wrong : right ≢ o.n → is_own_table o.n cells (tree_of o.n o.listing.now) ≡ false

pub row_judged :
    {o : LeafOrder} {p right : ℕ} {cells : List ℕ} → p < o.n → RightCounted o p cells o.n right
    → RowJudged o p cells right
unfolding is_own_table
row_judged {o} {p} {cells = cells} lp counted = record {
  all_right = λ all k e.
      let here : k ≡ i * o.n + k % o.n = sym (div-add-mod' k o.n) ∙ rw e in
      let full : o.n ≤ count_below o.n right_at = omega (arith, counted) in
      ap (at cells) here
      ∙ eqb-true _ _ (count_full o.n right_at full (k % o.n) (mod-lt k (omega arith)))
      ∙ sym (cell_in o p k e);
  some_wrong = λ some. elim (bool? (all_below (o.n * o.n) (λ k. eqb (at cells k) (cell_at o.n o.listing.now k)))) [
    | inl own ↦ absurd (some (counted ∙ count_all o.n _ (same own)))
    | inr e ↦ e
  ];
}
  where
    i : ℕ
    i = at o.leaves p

    li : i < o.n
    li = o.ordered.leaf_below p lp

    right_at : ℕ → Bool
    right_at j = eqb (at cells (i * o.n + j)) (count_of o p j)

    same :
        all_below (o.n * o.n) (λ k. eqb (at cells k) (cell_at o.n o.listing.now k)) ≡ true → (j : ℕ) → j < o.n
        → right_at j ≡ true
    same own j lj =
        let cell = eqb-true _ _ (all_true (o.n * o.n) _ own (i * o.n + j) (place o.n i j li lj)) in
        eq-eqb (at cells (i * o.n + j)) (count_of o p j) (cell ∙ cell_is o p j lj)
