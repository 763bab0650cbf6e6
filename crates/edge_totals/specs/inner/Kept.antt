-- The weights of all rows as they are kept by number: what moving leaf n to the edge above a number adds to the total
-- gap and takes from it. No public contract cites it.
use Rattle.std.specs.Prelude.{◌≡◌, List, ℕ, ◌+◌, ◌-◌, ◌*◌, ◌<◌, length, map, get_or}
use Rattle.limits.specs.Limits.{most_nodes}
use Rattle.trees.specs.Listings.{subtree_at, tree_of}
use Rattle.grafted_cells.specs.inner.Moves.{new_row_gap}
use Rattle.edge_weights.specs.declared.Weight.{Weight}
use Rattle.edge_weights.specs.inner.Weights.{Weighed}

-- what stands at a number that is not weighed
abbrev pub unweighed : Weight
unweighed = record { gain = 0; loss = 0; row = 0 }

-- the gains, the losses and the gaps in the row of leaf n, by number
abbrev pub gains : List Weight → List ℕ
gains = map (λ w. w.gain)

abbrev pub losses : List Weight → List ℕ
losses = map (λ w. w.loss)

abbrev pub rows : List Weight → List ℕ
rows = map (λ w. w.row)

-- the number at place q of a listing, whose brother is named at place r, is weighed
abbrev pub WeighedAt : (n s : ℕ) (l t u gains losses rows : List ℕ) (q r : ℕ) → Type 0
WeighedAt n s l t u gains losses rows q r =
    let e = get_or l q 0 in
    Weighed n s t u (tree_of n l) e (subtree_at n l e) (subtree_at n l (get_or l r 0)) (get_or gains e 0)
    (get_or losses e 0) (get_or rows e 0)

-- the children of the rows before row k are weighed
pub record RowsWeighed (n s : ℕ) (l t u : List ℕ) (k : ℕ) (gains losses rows : List ℕ) : Type 0 where
  pub gains_long : length gains ≡ most_nodes
  pub losses_long : length losses ≡ most_nodes
  pub rows_long : length rows ≡ most_nodes
  pub first : (q : ℕ) → q < k → WeighedAt n s l t u gains losses rows (2 * q) (2 * q + 1)
  pub second : (q : ℕ) → q < k → WeighedAt n s l t u gains losses rows (2 * q + 1) (2 * q)

-- all numbers but the last are weighed, and the gaps in the row of leaf n at the edge above the last are known
pub record AllWeighed (n s : ℕ) (l t u gains losses rows : List ℕ) : Type 0 where
  pub weighed : RowsWeighed n s l t u (n - 2) gains losses rows
  pub at_last : get_or rows (2 * n - 3) 0 ≡ new_row_gap n s u (tree_of n l) (2 * n - 3)
