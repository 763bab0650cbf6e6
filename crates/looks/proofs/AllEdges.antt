-- A look at all edges: it is refused as a look at edge 1 is, which every tree has; and the totals are worked out from
-- the standard listing of the tree, which stands for the same grafts.
use mathlib.Core.Path.{◌≡◌, ap, sym, ◌∙◌}
use mathlib.Core.Logic.{inl, inr}
use mathlib.Core.Bool.{true}
use mathlib.Core.List.{List, ◌++◌}
use Prim.Native.Nat.{ℕ, ◌+◌, ◌-◌, ◌*◌, ◌≤◌}
use native.Mathlib.Omega.{arith}
use lib.ListN.{length, take, drop}
use Rattle.base.specs.Lists.{tab, filled}
use Rattle.base.proofs.Bools.{bool?}
use Rattle.base.proofs.Lists.{length_tab}
use Rattle.limits.specs.declared.Kind.{Kind}
use Rattle.limits.specs.declared.Kind.TheVariants.{Counts}
use Rattle.limits.specs.Limits.{IsLeafCount, IsCountOf, scale_of}
use Rattle.limits.proofs.TableKinds.{leaf_count_of, scale_bounds}
use Rattle.refusals.proofs.Answers.{judged_stops}
use Rattle.checks.specs.Sizes.{right_count}
use Rattle.checks.proofs.Sizes.{is_leaf_count, count_stops}
use Rattle.trees.specs.Trees.{Tree, IsTree, ordered}
use Rattle.trees.specs.Listings.{KeepsRules, tree_of, standard}
use Rattle.trees.specs.Tables.{table_of, IsTable}
use Rattle.trees.specs.Gaps.{total_gap}
use Rattle.trees.proofs.Trees.{tree_on, ordered_is, ordered_drawn}
use Rattle.trees.proofs.Rules.{listing_tree}
use Rattle.trees.proofs.FrontListings as fronts
use Rattle.trees.proofs.Tables.{ordered_table}
use Rattle.grafted_trees.specs.Grafts.{names_edge, grafted}
use Rattle.grafted_trees.proofs.EdgeNumbers.{range_edge}
use Rattle.state_arrays.specs.inner.Fits.{ScaledCounts}
use Rattle.look_answers.specs.Operations.{look_refusal, look_total}
use Rattle.edge_weights.specs.inner.Rows.{Given}

-- every tree has an edge 1, and an edge to leaf 0
pub first_edge : (n : ℕ) → IsLeafCount n → names_edge n 1 ≡ true
first_edge n c = range_edge n 1 (omega arith) (omega (arith, c))

pub last_edge : (n : ℕ) → IsLeafCount n → names_edge n (2 * n - 3) ≡ true
last_edge n c = range_edge n (2 * n - 3) (omega (arith, c)) (omega arith)

-- what is due counts only where the leaf count is right, and there edge 1 is
pub all_refused :
    (kind : Kind) (n : ℕ) (l t u : List ℕ) (due room : ℕ) → (IsLeafCount n → due ≡ 2 * n - 3)
    → look_refusal kind n l t u (names_edge n 1) due room ≡ look_refusal kind n l t u true (2 * n - 3) room
unfolding look_refusal
all_refused kind n l t u due room h = elim (bool? (right_count Counts n)) [
  | inl right ↦
      let c = is_leaf_count n right in
      rw (first_edge n c, h c)
  | inr wrong ↦
      let stops = count_stops Counts n wrong in
      judged_stops _ stops ∙ sym (judged_stops _ stops)
]

-- what is filled in front of a buffer, as what is written there
pub filled_written :
    (n : ℕ) (f : ℕ → ℕ) (out : List ℕ) → filled n f out ≡ tab n f ++ drop (length (tab n f)) out
unfolding filled
filled_written n f out = rw (length_tab n f)

-- The standard listing of the tree, at the front of an array.
module _ (kind : Kind) (n : ℕ) (l t u : List ℕ) (c : IsLeafCount n) (d : IsCountOf kind (n + 1))
    (keeps : KeepsRules n l) (own : t ≡ table_of n (tree_of n l)) (new : IsTable (n + 1) u) (rows rest : List ℕ)
    (put : rows ≡ standard n (tree_of n l) ++ rest) where
  abbrev T : Tree
  T = tree_of n l

  abbrev front : List ℕ
  front = take (2 * (n - 2)) rows

  is_tree : IsTree n T
  is_tree = listing_tree n c l keeps

  pub front_fits : 2 * (n - 2) ≤ length rows
  front_fits = fronts.front_fits n c T is_tree rows rest put

  pub front_long : length front ≡ 2 * (n - 2)
  front_long = fronts.front_long n c T is_tree rows rest put

  stands : tree_of n front ≡ ordered T
  stands = fronts.front_stands n c T is_tree rows rest put

  pub given : (p : List ℕ) → ScaledCounts n (scale_of kind) p → Given n (scale_of kind) front t u p
  given p counts = record {
    count = c;
    new_count = leaf_count_of kind (n + 1) d;
    keeps = fronts.front_keeps n c T is_tree rows rest put;
    is_standard = fronts.front_standard n c T is_tree rows rest put;
    is_own = own ∙ sym (ap (table_of n) stands ∙ ordered_table n T);
    is_table = new;
    scaled = scale_bounds kind;
    pair_counts = counts;
  }

  -- grafting looks at a tree in standard order alone
  pub front_total :
      (e : ℕ) → total_gap (n + 1) (scale_of kind) u (grafted n (tree_of n front) e) ≡ look_total kind n l u e
  unfolding look_total grafted
  front_total e = rw (stands, ordered_is (ordered T) (ordered_drawn n T (tree_on n T is_tree)).in_order)
