-- The rows of a table, written in the order of the places of the leaves: one cell more of a row, one row more, and all.
use mathlib.Core.Path.{◌≡◌, refl, sym, ap, ◌∙◌}
use mathlib.Core.Logic.{◌≢◌}
use mathlib.Core.List.{List, ◌++◌}
use Prim.Native.Nat.{ℕ, ◌+◌, ◌-◌, ◌*◌, ◌/◌, ◌%◌, ◌≤◌, ◌<◌}
use native.Mathlib.Nat.{div-add-mod', div-lt_iff_lt-mul, mod-lt}
use native.Mathlib.Omega.{arith}
use native.Mathlib.Decide.{dec_lt, ℕ_discrete}
use lib.ListN.{length, get_or, set, drop, length-set, length-append, length-drop, get_or-append}
use lib.Seq.{ext_get_or, get_or-set_same, get_or-set_other, get_or-append-add, get_or-drop}
use Rattle.base.specs.Lists.{tab}
use Rattle.base.proofs.Lists.{length_tab, getD_tab, row_of, column_of}
use Rattle.leaf_orders.specs.declared.LeafOrder.{LeafOrder}
use Rattle.leaf_orders.specs.inner.LeafOrders.{at}
use Rattle.least_depths.specs.inner.Rows.{count_of, RowsHold}
use Rattle.least_depths.proofs.RowCounts.{cell_at, leaf_once, all_rows, cell_in}
use Rattle.least_depths.proofs.Rows.{rows_none, rows_more}
use Rattle.tree_tables.specs.inner.Rows.{RowPut}

module _ {o : LeafOrder} {p : ℕ} where
  -- no cell of the row, one more, and all
  pub row_begun : {out : List ℕ} → RowPut o p out out 0
  row_begun = record { same_length = refl; put = λ k e l. absurd (omega arith); kept = λ k d. refl }

  pub row_more :
      {before out : List ℕ} {j v : ℕ} → RowPut o p before out j → j < o.n → at o.leaves p * o.n + j < length before
      → v ≡ count_of o p j → RowPut o p before (set out (at o.leaves p * o.n + j) v) (j + 1)
  row_more {out = out} {j = j} {v = v} w lj room e = record {
    same_length = length-set out here v ∙ w.same_length;
    put = λ k r l. elim (ℕ_discrete k here) [
      | yes q ↦
          rw (q, column_of o.n i j lj)
          (get_or-set_same out here v 0 (omega (arith, w.same_length)) ∙ e)
      | no q ↦
          let other : k % o.n ≢ j = λ s. q (sym (div-add-mod' k o.n) ∙ rw (r, s)) in
          get_or-set_other out here k v 0 q ∙ w.put k r (omega arith)
    ];
    kept = λ k d.
        get_or-set_other out here k v 0 (λ q. d (ap (λ z. z / o.n) q ∙ row_of o.n i j lj)) ∙ w.kept k d;
  }
    where
      i : ℕ
      i = at o.leaves p

      here : ℕ
      here = i * o.n + j

-- the rows of the leaves at the first p places are written; the cells beyond the table are as they were
pub record RowsPut (o : LeafOrder) (before after : List ℕ) (p : ℕ) : Type 0 where
  pub same_length : length after ≡ length before
  pub put : RowsHold o.n o.leaves (cell_at o.n o.listing.now) after p
  pub kept : (k : ℕ) → o.n * o.n ≤ k → at after k ≡ at before k

module _ (o : LeafOrder) where
  -- no row, one more, and all
  pub rows_begun : {out : List ℕ} → RowsPut o out out 0
  rows_begun = record { same_length = refl; put = rows_none; kept = λ k l. refl }

  pub row_put :
      {before mid out : List ℕ} {p : ℕ} → p < o.n → RowsPut o before mid p → RowPut o p mid out o.n
      → RowsPut o before out (p + 1)
  row_put {p = p} lp w r = record {
    same_length = r.same_length ∙ w.same_length;
    put =
        rows_more
        (record {
          right = λ k q l e.
              r.kept k (λ g. below q l (leaf_once o.ordered q p (omega arith) lp (sym e ∙ g))) ∙ w.put.right k q l e;
        })
        (λ k e. r.put k e (mod-lt k some) ∙ sym (cell_in o p k e));
    kept = λ k l.
        let out_of_it : k / o.n ≢ at o.leaves p =
        λ e. (let inside : k < o.n * o.n = (div-lt_iff_lt-mul some).0 (rw e (o.ordered.leaf_below p lp)) in
        omega arith) in
        r.kept k out_of_it ∙ w.kept k l;
  }
    where
      some : 0 < o.n
      some = omega arith

      below : (q : ℕ) → q < p → q ≢ p
      below q l e = omega arith

  pub rows_whole :
      {before out : List ℕ} {p : ℕ} → o.n * o.n ≤ length before → p ≡ o.n → RowsPut o before out p
      → out ≡ tab (o.n * o.n) (cell_at o.n o.listing.now) ++ drop (o.n * o.n) before
  rows_whole {before} {out} room e w =
      ext_get_or 0 out _ (omega (arith, w.same_length, long)) (λ k l. elim (dec_lt k (o.n * o.n)) [
        | yes in_it ↦
            all_rows o.ordered e w.put k in_it
            ∙ sym (get_or-append (tab (o.n * o.n) f) _ 0 k (rw length_tab in_it) ∙ getD_tab (o.n * o.n) f k 0 in_it)
        | no past ↦ w.kept k (omega arith) ∙ sym (beyond k (omega arith))
      ])
    where
      f : ℕ → ℕ
      f = cell_at o.n o.listing.now

      long : length (tab (o.n * o.n) f ++ drop (o.n * o.n) before) ≡ o.n * o.n + (length before - o.n * o.n)
      long =
          omega (
            arith,
            length-append (tab (o.n * o.n) f) (drop (o.n * o.n) before),
            length_tab (o.n * o.n) f,
            length-drop (o.n * o.n) before,
          )

      beyond : (k : ℕ) → o.n * o.n ≤ k → get_or (tab (o.n * o.n) f ++ drop (o.n * o.n) before) k 0 ≡ get_or before k 0
      beyond k l =
          let q : k ≡ length (tab (o.n * o.n) f) + (k - o.n * o.n) = omega (arith, length_tab (o.n * o.n) f) in
          let u : o.n * o.n + (k - o.n * o.n) ≡ k = omega arith in
          ap (λ z. get_or (tab (o.n * o.n) f ++ drop (o.n * o.n) before) z 0) q
          ∙ get_or-append-add (tab (o.n * o.n) f) (drop (o.n * o.n) before) (k - o.n * o.n) 0
          ∙ get_or-drop (o.n * o.n) before (k - o.n * o.n) 0
          ∙ ap (λ z. get_or before z 0) u
