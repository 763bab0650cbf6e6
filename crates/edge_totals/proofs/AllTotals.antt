-- The total gaps of the grafted trees move by the weights of the rows, so what is spread from the last edge is the
-- total gap at every edge.
use mathlib.Core.Path.{◌≡◌, ap, ◌∙◌}
use mathlib.Core.Logic.{inl, inr}
use mathlib.Core.List.{List, ◌++◌}
use Prim.Native.Nat.{ℕ, ◌+◌, ◌-◌, ◌*◌, ◌^◌, ◌/◌, ◌≤◌, ◌<◌}
use native.Mathlib.Omega.{arith}
use native.Mathlib.Decide.{ℕ_discrete}
use lib.ListN.{length, get_or, set, length-set}
use lib.Seq.{get_or-set_same, drop-set-lt}
use Rattle.base.specs.Lists.{tab, filled}
use Rattle.trees.specs.Trees.{Tree, IsTree}
use Rattle.trees.specs.Listings.{subtree_at, tree_of}
use Rattle.trees.specs.Tables.{cell}
use Rattle.trees.specs.Gaps.{total_gap}
use Rattle.trees.proofs.Trees.{Apart, apart_sym}
use Rattle.trees.proofs.Rules.{listing_tree}
use Rattle.trees.proofs.Gaps.{gap_fits}
use Rattle.grafted_trees.specs.Grafts.{grafted}
use Rattle.grafted_cells.specs.inner.Moves.{Moved, new_row_gap}
use Rattle.grafted_cells.proofs.MovedLeaf.{moved_first, moved_second}
use Rattle.grafted_cells.proofs.Totals.{moved_total}
use Rattle.block_gaps.specs.inner.Blocks.{most_gaps}
use Rattle.edge_weights.specs.inner.Rows.{Given}
use Rattle.edge_weights.specs.inner.Weights.{Weighed}
use Rattle.edge_weights.proofs.RowsJoined.{node_distinct}
use Rattle.edge_totals.specs.inner.Kept.{RowsWeighed, AllWeighed}
use Rattle.edge_totals.specs.inner.Totals.{MovesTo, Moves, SpreadReady}
use Rattle.edge_totals.proofs.SpreadTotals.{found_node}

-- a store in front of what stays does not show behind
pub filled_store :
    (n i : ℕ) (f : ℕ → ℕ) (l : List ℕ) (v : ℕ) → i < n → filled n f (set l i v) ≡ filled n f l
unfolding filled
filled_store n i f l v h = ap (λ r. tab n f ++ r) (drop-set-lt n l i v h)

module _ {n s : ℕ} {l t u p : List ℕ} (g : Given n s l t u p) where
  abbrev T : Tree
  T = tree_of n l

  abbrev total : ℕ → ℕ
  total e = total_gap (n + 1) s u (grafted n T e)

  -- Leaf n moves from the edge above the node of row k, whose children are x and y, to those above the children.
  module _ {gains losses rows : List ℕ} (w : RowsWeighed n s l t u (n - 2) gains losses rows) (k : ℕ)
      (row : k < n - 2) (known : get_or rows (n + k) 0 ≡ new_row_gap n s u T (n + k)) where
    abbrev x : ℕ
    x = get_or l (2 * k) 0

    abbrev y : ℕ
    y = get_or l (2 * k + 1) 0

    tree : IsTree n T
    tree = listing_tree n g.count l g.keeps

    apart : Apart (subtree_at n l x) (subtree_at n l y)
    apart = (node_distinct g row).2

    moves_to :
        (e : ℕ) (X Y : Tree) → Moved n T (n + k) e X Y → Apart X Y
        → Weighed n s t u T e X Y (get_or gains e 0) (get_or losses e 0) (get_or rows e 0)
        → MovesTo gains losses rows total (n + k) e
    moves_to e X Y moved apart h =
        omega (
          arith,
          moved_total n s T t u (n + k) e X Y moved apart g.is_table g.is_own,
          h.gained,
          h.lost,
        )

    moves_first : MovesTo gains losses rows total (n + k) x
    moves_first =
        moves_to x _ _ (rw g.is_standard at (moved_first n g.count T tree k row)) apart (w.first k row)

    moves_second : MovesTo gains losses rows total (n + k) y
    moves_second =
        moves_to y _ _ (rw g.is_standard at (moved_second n g.count T tree k row))
        (apart_sym (subtree_at n l x) (subtree_at n l y) apart) (w.second k row)

  module _ {gains losses rows : List ℕ} (w : AllWeighed n s l t u gains losses rows)
      (cells : (i j : ℕ) → cell (n + 1) u i j < 2 ^ 32) where
    -- the number at a place, by the row of the place
    at_place :
        (P : ℕ → Type 0) → ((k : ℕ) → k < n - 2 → P (2 * k)) → ((k : ℕ) → k < n - 2 → P (2 * k + 1)) → (q : ℕ)
        → q < 2 * (n - 2) → P q
    at_place P first second q h = elim (ℕ_discrete (2 * (q / 2)) q) [
      | yes e ↦ rw e at (first (q / 2) (omega arith))
      | no d ↦ (let e : 2 * (q / 2) + 1 ≡ q = omega arith in rw e at (second (q / 2) (omega arith)))
    ]

    -- the gaps in the row of leaf n at the edge above a row's node
    row_known : (k : ℕ) → k < n - 2 → get_or rows (n + k) 0 ≡ new_row_gap n s u T (n + k)
    row_known k h = elim (found_node n l g.count g.keeps k h) [
      | inl last ↦ rw last w.at_last
      | inr q ↦
          rw (← q.3)
          (at_place (λ q. get_or rows (get_or l q 0) 0 ≡ new_row_gap n s u T (get_or l q 0))
          (λ k h. (w.weighed.first k h).in_row) (λ k h. (w.weighed.second k h).in_row) q.0 q.2)
    ]

    pub totals_move : Moves n l gains losses rows total
    totals_move = record {
      first = λ k h. moves_first w.weighed k h (row_known k h);
      second = λ k h. moves_second w.weighed k h (row_known k h);
      small = λ e.
          gap_fits (n + 1) s u (grafted n T e) g.new_count (omega (arith, g.scaled)) (λ i j li lj. cells i j);
      gains_small =
          at_place (λ q. get_or gains (get_or l q 0) 0 ≤ 3 * most_gaps) (λ k h. (w.weighed.first k h).gain_small)
          (λ k h. (w.weighed.second k h).gain_small);
    }

    -- the total for the last edge is stored
    pub at_last :
        (out : List ℕ) (last : ℕ) → 2 * n - 3 ≤ length out → get_or (set out (2 * n - 4) last) (2 * n - 4) 0 ≡ last
    at_last out last room = get_or-set_same out (2 * n - 4) last 0 (omega (arith, g.count))

    pub spread_ready :
        (out : List ℕ) (last : ℕ) → 2 * n - 3 ≤ length out → last ≡ total (2 * n - 3)
        → SpreadReady n l gains losses rows (set out (2 * n - 4) last)
    spread_ready out last room e = record {
      count = g.count;
      keeps = g.keeps;
      room = simp length-set room;
      totals = total;
      moves = totals_move;
      last = at_last out last room ∙ e;
    }
