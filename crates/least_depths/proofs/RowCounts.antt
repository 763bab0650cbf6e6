-- What an order of leaves gives: each place has its leaf, and the counts of a row of the table are found from the least
-- depths between the place of the row's leaf and the others.
use mathlib.Core.Path.{◌≡◌, refl, ap, sym, ◌∙◌}
use mathlib.Core.List.{List}
use Prim.Native.Nat.{ℕ, zero, suc, ◌+◌, ◌-◌, ◌*◌, ◌/◌, ◌%◌, ◌≤◌, ◌<◌}
use native.Mathlib.Nat.{div-lt_iff_lt-mul}
use native.Mathlib.Omega.{arith}
use native.Mathlib.Decide.{dec_lt, ℕ_discrete}
use Rattle.base.specs.Numbers.{sum_below}
use Rattle.base.proofs.Lists.{row_of, column_of}
use Rattle.base.proofs.Sums.{sum_permuted}
use Rattle.limits.specs.Limits.{most_leaves}
use Rattle.pair_counts.proofs.Pairs.{P_mono, P_largest}
use Rattle.trees.specs.Trees.{Tree}
use Rattle.trees.specs.Listings.{tree_of}
use Rattle.trees.specs.Quartets.{quartets}
use Rattle.trees.proofs.Quartets.{cell_most, quartets_diagonal, quartets_ij}
use Rattle.leaf_orders.specs.declared.LeafOrder.{LeafOrder}
use Rattle.leaf_orders.specs.inner.LeafOrders.{whole, most_depth, at, IsLeafOrder}
use Rattle.least_depths.specs.inner.Depths.{RowFound}
use Rattle.least_depths.specs.inner.Rows.{count_of, RowsHold}

-- the cells of the table, one after the other
abbrev pub cell_at : (n : ℕ) (l : List ℕ) → ℕ → ℕ
cell_at n l k = quartets n (tree_of n l) (k / n) (k % n)

-- a table that has a cell has a leaf
positive : {k : ℕ} (n : ℕ) → k < n * n → 0 < n
positive zero l = absurd (omega (arith, l))
positive (suc m) l = omega arith

module _ {n : ℕ} {T : Tree} {places aboves leaves depths : List ℕ} (p : IsLeafOrder n T places aboves leaves depths)
  where
    -- the rows of the leaves at all places are all rows
    pub all_rows :
        {f : ℕ → ℕ} {cells : List ℕ} {m : ℕ} → m ≡ n → RowsHold n leaves f cells m → (k : ℕ) → k < n * n
        → at cells k ≡ f k
    all_rows e h k l =
        let i = k / n in
        let li : i < n = (div-lt_iff_lt-mul (positive n l)).1 l in
        h.right k (at places i) (omega (arith, p.place_below i li)) (sym (p.leaf_there i li))

    -- two places have two leaves
    pub leaf_once : (s t : ℕ) → s < n → t < n → at leaves s ≡ at leaves t → s ≡ t
    leaf_once s t ls lt e = omega (arith, p.place_there s ls, ap (at places) e, p.place_there t lt)

    -- and a sum over the leaves at all places is one over all leaves
    pub places_sum : (f : ℕ → ℕ) → sum_below n (λ s. f (at leaves s)) ≡ sum_below n f
    places_sum f =
        sum_permuted n f (at leaves) (at places) p.leaf_below leaf_once
        (λ k lk. (p.place_below k lk, p.leaf_there k lk))

-- the row of the leaf at place p
module _ (o : LeafOrder) {p base : ℕ} {tops : List ℕ} (r : RowFound o.n p base o.aboves o.leaves o.depths tops) where
  pub leaf_below : at o.leaves p < o.n
  leaf_below = o.ordered.leaf_below p r.place

  pub count_told : (j : ℕ) → j < o.n → base + at o.aboves j + at tops j ≡ count_of o p j + whole
  count_told j lj = elim (ℕ_discrete (at o.leaves p) j) [
    | yes e ↦
        rw (← e, quartets_diagonal o.n (tree_of o.n o.listing.now) (at o.leaves p))
        (omega (arith, r.here, r.above, o.ordered.small (at o.leaves p) leaf_below))
    | no d ↦
        let t = at o.places j in
        let there : at o.leaves t ≡ j = o.ordered.leaf_there j lj in
        let lt : t < o.n = o.ordered.place_below j lj in
        elim (dec_lt p t) [
          | yes l ↦
              omega (arith, r.above, rw there at (o.ordered.told p t (at tops (at o.leaves t)) l lt (r.after t l lt)))
          | no l ↦
              let less : t < p = omega (arith, apart t there d) in
              omega (
                arith,
                r.above,
                quartets_ij o.n (tree_of o.n o.listing.now) (at o.leaves p) j,
                rw there
                    at (o.ordered.told t p (at tops (at o.leaves t)) less r.place (r.before t (omega arith) less)),
              )
        ]
  ]
    where
      apart : {j : ℕ} (t : ℕ) → at o.leaves t ≡ j → (at o.leaves p ≡ j → ⊥) → t ≡ p → ⊥
      apart t e d q = d (ap (at o.leaves) (sym q) ∙ e)

  -- no sum is too large
  pub count_fits : (j : ℕ) → j < o.n → base + at o.aboves j + at tops j ≤ most_depth
  count_fits j lj =
      omega (
        arith,
        count_told j lj,
        cell_most o.n (tree_of o.n o.listing.now) (at o.leaves p) j leaf_below lj,
        P_mono (o.n - 2) (most_leaves - 2) (omega (arith, o.ordered.few)),
        P_largest,
      )

-- a cell of the row of the leaf at place p, by its place in the table
module _ (o : LeafOrder) (p : ℕ) where
  pub cell_is : (j : ℕ) → j < o.n → cell_at o.n o.listing.now (at o.leaves p * o.n + j) ≡ count_of o p j
  cell_is j lj = rw (row_of o.n (at o.leaves p) j lj, column_of o.n (at o.leaves p) j lj) refl

  pub cell_in : (k : ℕ) → k / o.n ≡ at o.leaves p → cell_at o.n o.listing.now k ≡ count_of o p (k % o.n)
  cell_in k e = rw e refl
