-- Which refusals may arise from a table: 1, 2, 3, then 4 and 5, whose leaves are below the leaf count.
use mathlib.Core.Path.{◌≡◌, refl}
use mathlib.Core.List.{List}
use mathlib.Core.Option.{Option, none, some}
use Prim.Native.Nat.{ℕ, ◌*◌, ◌<◌}
use native.Mathlib.Omega.{arith}
use lib.ListN.{length}
use Rattle.base.specs.Lists.{tab}
use Rattle.base.proofs.Lists.{length_tab, getD_tab, find_place}
use Rattle.base.proofs.RowOrder.{found_first}
use Rattle.limits.specs.declared.Kind.{Kind}
use Rattle.limits.specs.Limits.{IsLeafCount}
use Rattle.limits.proofs.TableKinds.{leaf_count_of}
use Rattle.refusals.specs.declared.Refusal.{Refusal}
use Rattle.refusals.specs.declared.Refusal.TheVariants.{LeafCount as Count, InputLength, OutputRoom, Diagonal, Halves}
use Rattle.refusals.proofs.Causes.{Arises, arises_judged, arises_last}
use Rattle.trees.specs.Tables.{first_filled, first_unequal, cells_refusal}
use Rattle.checks.specs.Sizes.{sizes_refusal}
use Rattle.checks.proofs.Sizes.{sizes_right, sizes_arise}
use Rattle.table_checks.specs.Operations.{table_refusal}

-- the leaf of a diagonal cell, and the leaves of two cells
filled_below : (n : ℕ) (t : List ℕ) (i : ℕ) → first_filled n t ≡ some i → i < n
unfolding first_filled
filled_below n t i h =
    let r = find_place _ (tab n (λ i. i)) i 0 h in
    let inside : r.0 < n = rw length_tab at r.1 in
    rw (← r.2) (rw (getD_tab n (λ i. i) r.0 0 inside) inside)

unequal_below : (n : ℕ) (t : List ℕ) (p : ℕ × ℕ) → first_unequal n t ≡ some p → (p.0 < n) × (p.1 < n)
unfolding first_unequal
unequal_below n t p h = let r = found_first n _ p h in (r.left, r.right)

-- What holds of each of these holds of the one that arises.
pub record CellCauses (P : Refusal → Type 0) (n : ℕ) : Type 0 where
  pub diagonal : IsLeafCount n → (i : ℕ) → i < n → P (Diagonal i)
  pub halves : IsLeafCount n → (i j : ℕ) → i < n → j < n → P (Halves i j)

module _ (P : Refusal → Type 0) (n : ℕ) (t : List ℕ) (w : CellCauses P n) where
  pub cells_arise : IsLeafCount n → Arises P (cells_refusal n t)
  cells_arise k = go (first_filled n t) refl (first_unequal n t) refl
    where
      go :
          (o : Option ℕ) → first_filled n t ≡ o → (u : Option (ℕ × ℕ)) → first_unequal n t ≡ u
          → Arises P (cells_refusal n t)
      go (some i) e u f = unfold cells_refusal in rw (e, cells_refusal) (w.diagonal k i (filled_below n t i e))
      go none e (some p) f =
          let low = unequal_below n t p f in
          unfold cells_refusal in rw (e, f, cells_refusal) (w.halves k p.0 p.1 low.0 low.1)
      go none e none f = unfold cells_refusal in rw (e, f, cells_refusal) tt

  pub table_arises :
      P Count → P InputLength → P OutputRoom → (kind : Kind) (due room : ℕ) → Arises P (table_refusal kind n t due room)
  unfolding table_refusal
  table_arises count input output kind due room =
      arises_judged P (sizes_refusal kind n (n * n) (length t) due room) _
      (sizes_arise P kind n (n * n) (length t) due room count input output)
      (λ a. arises_last P (cells_refusal n t)
      (cells_arise (leaf_count_of kind n (sizes_right kind n _ _ due room a).count)))

-- so the leaves of 5 are below the leaf count
pub halves_below :
    (n : ℕ) (t : List ℕ) → IsLeafCount n → (i j : ℕ) → cells_refusal n t ≡ some (Halves i j) → (i < n) × (j < n)
halves_below n t k i j e = (rw e at (cells_arise Low n t causes k)) i j refl
  where
    Low : Refusal → Type 0
    Low r = (i j : ℕ) → r ≡ Halves i j → (i < n) × (j < n)

    causes : CellCauses Low n
    causes = record {
      diagonal = λ k i l a b h. absurd (let z : ◌≡◌ {A = ℕ} 0 1 = cc in omega arith);
      halves = λ k i j l m a b h. (
          let first : i ≡ a = cc in
          let second : j ≡ b = cc in
          (omega arith, omega arith)
          );
    }
