-- What holds of every gap, for a table of either kind: its ends, zero on the diagonal, and no gap anywhere exactly when
-- the tree has the table at its scale.
use mathlib.Core.Path.{◌≡◌, sym, ap, ◌∙◌}
use mathlib.Core.Logic.{◌↔◌}
use mathlib.Core.Bool.{Bool, true, false, cond}
use mathlib.Core.List.{List}
use Prim.Native.Nat.{ℕ, zero, suc, ◌+◌, ◌-◌, ◌*◌, ◌/◌, ◌%◌, ◌≤◌, ◌<◌}
use native.Mathlib.Nat.{mul-zero, mul-le-mul_left}
use native.Mathlib.Decide.{ℕ_discrete}
use native.Mathlib.Omega.{arith}
use lib.Dec.{T, ltb, le→leb}
use lib.IntN.{ℤ, pos, negsuc, neg_ℤ, ◌+ℤ◌, ◌-ℤ◌, +ℤ_invr, -ℤ-+ℤ_cancel}
use lib.Signed.{mag, le_z, ◌≤ℤ◌, le_z_yes}
use lib.ListN.{get_or}
use Rattle.base.proofs.Lists.{getD_tab, row_of, column_of, place}
use Rattle.limits.specs.declared.Kind.{Kind}
use Rattle.limits.specs.Limits.{IsCountOf, most_of, scale_of, largest_cell_of}
use Rattle.pair_counts.specs.Pairs.{P}
use Rattle.pair_counts.proofs.Pairs.{P_mono, P_largest_of}
use Rattle.trees.specs.Trees.{Tree}
use Rattle.trees.specs.Quartets.{quartets}
use Rattle.trees.specs.Tables.{cell, IsTable, HasTable}
use Rattle.trees.proofs.Quartets.{cell_most, quartets_diagonal}
use Rattle.trees.proofs.Tables.{diagonal_zero, to_cells, of_cells}
use Rattle.gaps.specs.Operations.{gaps}

-- the difference of two numbers: its ends, and that 0 is that of equal ones
not_less : (x y m : ℕ) → y ≤ m → neg_ℤ (pos m) ≤ℤ (pos x -ℤ pos y)
not_less x zero zero l = le_z_yes (le→leb 0 (x + 0) (omega arith))
not_less x zero (suc m) l = le_z_yes tt
not_less x (suc y) zero l = absurd (omega arith)
not_less x (suc y) (suc m) l = le_z_yes (either (ltb x (suc y)) (suc y - suc x) (x - suc y) (omega arith))
  where
    either : (b : Bool) (p q : ℕ) → p ≤ m → T (le_z (negsuc m) (cond b (negsuc p) (pos q)))
    either true p q h = le→leb p m h
    either false p q h = tt

not_more : (x y m : ℕ) → x ≤ m → (pos x -ℤ pos y) ≤ℤ pos m
not_more x zero m l = le_z_yes (le→leb (x + 0) m (omega arith))
not_more x (suc y) m l = le_z_yes (either (ltb x (suc y)) (suc y - suc x) (x - suc y) (omega arith))
  where
    either : (b : Bool) (p q : ℕ) → q ≤ m → T (le_z (cond b (negsuc p) (pos q)) (pos m))
    either true p q h = tt
    either false p q h = le→leb q m h

less_same : (x y : ℕ) → pos x -ℤ pos y ≡ pos 0 → x ≡ y
less_same x y h =
    let e : x ≡ 0 + y = ap mag (sym (-ℤ-+ℤ_cancel (pos x) (pos y)) ∙ ap (λ z. z +ℤ pos y) h) in
    omega (arith, e)

-- the largest cell of a table, a number of 32 bits
abbrev pub largest_number : ℕ
largest_number = 4294967295

-- the gap at (i, j)
abbrev pub gap : Kind → (n : ℕ) → List ℕ → Tree → ℕ → ℕ → ℤ
gap kind n t T i j = get_or (gaps n (scale_of kind) t T) (i * n + j) (pos 0)

module _ (kind : Kind) (n : ℕ) (t : List ℕ) (T : Tree) where
  -- the tree's cell at the table's scale
  abbrev tree_cell : ℕ → ℕ → ℕ
  tree_cell i j = scale_of kind * quartets n T i j

  module _ (i j : ℕ) (li : i < n) (lj : j < n) where
    -- the gap is the table's cell less the tree's, at the table's scale
    pub gap_is : gap kind n t T i j ≡ pos (cell n t i j) -ℤ pos (scale_of kind * quartets n T i j)
    unfolding gaps cell
    gap_is =
        getD_tab (n * n) (λ k. pos (get_or t k 0) -ℤ pos (scale_of kind * quartets n T (k / n) (k % n))) (i * n + j)
        (pos 0) (place n i j li lj)
        ∙ rw (row_of n i j lj, column_of n i j lj)

    -- it is at least −(scale · P(n − 2)), and at most what a cell may hold
    pub gap_ends :
        cell n t i j ≤ largest_number
        → (neg_ℤ (pos (scale_of kind * P (n - 2))) ≤ℤ gap kind n t T i j) × (gap kind n t T i j ≤ℤ pos largest_number)
    gap_ends small =
        rw gap_is (
          not_less (cell n t i j) (tree_cell i j) (scale_of kind * P (n - 2))
              (mul-le-mul_left (scale_of kind) (cell_most n T i j li lj)),
          not_more (cell n t i j) (tree_cell i j) largest_number small,
        )

    -- over all leaf counts it is at least −7,875 for counts and −2,610 for a poll's table
    pub gap_lowest : IsCountOf kind n → neg_ℤ (pos (largest_cell_of kind)) ≤ℤ gap kind n t T i j
    gap_lowest c =
        let few = P_mono (n - 2) (most_of kind - 2) (omega (arith, c.1)) in
        let less = mul-le-mul_left (scale_of kind) (cell_most n T i j li lj) in
        let most = mul-le-mul_left (scale_of kind) few in
        rw gap_is
        (not_less (cell n t i j) (tree_cell i j) (largest_cell_of kind) (omega (arith, less, most, P_largest_of kind)))

  module _ (is : IsTable n t) where
    -- 0 on the diagonal
    pub gap_diagonal : (i : ℕ) → i < n → gap kind n t T i i ≡ pos 0
    gap_diagonal i l =
        gap_is i i l l ∙ rw (diagonal_zero is i l, quartets_diagonal n T i, mul-zero (scale_of kind))

    -- there is no gap anywhere exactly when the tree has the table at its scale
    pub no_gap : ((i j : ℕ) → i < n → j < n → gap kind n t T i j ≡ pos 0) ↔ HasTable n (scale_of kind) t T
    no_gap = (
      (λ z. of_cells n (scale_of kind) t T is (λ i j li lj d.
          less_same (cell n t i j) (tree_cell i j) (sym (gap_is i j li lj) ∙ z i j li lj))),
      (λ h i j li lj. gap_is i j li lj
          ∙ ap (λ z. pos z -ℤ pos (tree_cell i j)) (own h i j li lj) ∙ +ℤ_invr (pos (tree_cell i j))),
    )
      where
        own : HasTable n (scale_of kind) t T → (i j : ℕ) → i < n → j < n → cell n t i j ≡ tree_cell i j
        own h i j li lj = elim (ℕ_discrete i j) [
          | yes e ↦ rw e (diagonal_zero is j lj ∙ rw (quartets_diagonal n T j, mul-zero (scale_of kind)))
          | no d ↦ to_cells n (scale_of kind) t T h i j li lj d
        ]
