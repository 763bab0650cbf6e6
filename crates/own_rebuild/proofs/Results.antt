-- The end of our own rebuild: when all leaves but 0 have been merged, one test says whether the tree is there, to which
-- the result is tied by `Rooted`.
use Rattle.std.specs.Prelude.{Err}
use mathlib.Core.Path.{◌≡◌, refl, sym, ap, ◌∙◌}
use mathlib.Core.Bool.{true, false, ◌||◌}
use mathlib.Core.List.{List}
use Prim.Native.Nat.{ℕ, ◌+◌, ◌-◌, ◌*◌, ◌≤◌, ◌<◌}
use native.Mathlib.Nat.{zero-mul, zero-add}
use native.Mathlib.Omega.{arith}
use native.Mathlib.Decide.{ℕ_discrete}
use lib.ListN.{length, get_or, take}
use lib.Seq.{length-take-le}
use Rattle.refusals.specs.declared.Refusal.TheVariants.{NoTree}
use Rattle.base.proofs.Bools.{or_left, or_right, is_false, never}
use Rattle.limits.specs.declared.Kind.TheVariants.{Counts}
use Rattle.limits.specs.Limits.{IsLeafCount}
use Rattle.pair_counts.specs.Pairs.{P}
use Rattle.pair_counts.proofs.Pairs.{P_zero}
use Rattle.refusals.specs.Refusals.{accepted, refused, answered, outcome, written}
use Rattle.refusals.proofs.Answers.{judged_passes, judged_alone}
use Rattle.trees.specs.Trees.{leaf, leaves, size, least}
use Rattle.trees.specs.Listings.{tree_of, standard}
use Rattle.trees.specs.Tables.{cell, IsTable}
use Rattle.trees.proofs.Trees.{leaf_eq, least_in, least_le}
use Rattle.trees.specs.inner.Forests.{unused, lawful}
use Rattle.trees.proofs.Forests.{last_alone}
use Rattle.trees.proofs.Rules.{of_lawful}
use Rattle.merging.specs.Rebuilds.{rebuilt}
use Rattle.merging.proofs.States.{WellFormed, wf_start, full_sizes}
use Rattle.merging.proofs.Runs.{wf_runs}
use Rattle.merging.proofs.Values.{m_most}
use Rattle.merging.proofs.Rooted.{Rooted, rooted_result, rooted_two, rooted_refused}
use Rattle.checks.proofs.Sizes.{sizes_pass}
use Rattle.listings.specs.Operations.{listing_refusal}
use Rattle.standard_listings.specs.Operations.{standardise_answer}
use Rattle.leaf_merges.specs.inner.LeafMerges.{LeavesMerged}
use Rattle.own_rebuild.specs.inner.OneSubtree.{OneSubtreeFits}
use Rattle.state_arrays.proofs.StateArrays.{in_label}

-- The subtrees of all leaves but 0 have been merged.
module _ {n s : ℕ} {table label m sizes names rows : List ℕ} {r : ℕ} (count : IsLeafCount n) (sp : 0 < s)
    (is_table : IsTable n table) (b : LeavesMerged n s table label m sizes names rows r 1) where
  abbrev big : 3 ≤ n
  big = count.0

  w : WellFormed n b.state
  w = wf_runs (wf_start n) b.forest.came

  zero : b.state.tree 0 ≡ leaf 0
  zero = b.done.low 0 (omega arith)

  zero_size : size (b.state.tree 0) ≡ 1
  zero_size = rw zero (unfold size in refl)

  m_zero : b.state.m 0 ≡ 0
  m_zero = omega (arith, rw (zero_size, P_zero) at (m_most w 0))

  one_out : leaves (b.state.tree 0) 1 ≡ false
  one_out = rw zero (is_false (leaves (leaf 0) 1) (λ q. omega (arith, leaf_eq 1 0 q)))

  positive : (y : ℕ) → leaves (b.state.tree 1) y ≡ true → 1 ≤ y
  positive y py = elim (ℕ_discrete y 0) [
    | yes z ↦ absurd (never (rw (w.closed 1 0 (rw z at py)) (w.own 1)) one_out)
    | no z ↦ omega arith
  ]

  one_least : least (b.state.tree 1) ≡ 1
  one_least =
      let T = b.state.tree 1 in
      omega (arith, least_le T 1 (w.own 1), positive (least T) (least_in T))

  -- one subtree has all leaves but 0
  abbrev All : Type 0
  All = (k : ℕ) → 0 < k → k < n → leaves (b.state.tree 1) k ≡ true

  sum_size : All → size (b.state.tree 0) + size (b.state.tree 1) ≡ n
  sum_size all = full_sizes w 0 1 (omega (arith, big)) (omega (arith, big)) one_out each
    where
      each : (k : ℕ) → k < n → (leaves (b.state.tree 0) k || leaves (b.state.tree 1) k) ≡ true
      each k l = elim (ℕ_discrete k 0) [
        | yes z ↦ or_left (leaves (b.state.tree 0) k) (leaves (b.state.tree 1) k) (rw z (w.own 0))
        | no z ↦ or_right (leaves (b.state.tree 0) k) _ (all k (omega arith) l)
      ]

  -- then the value expected of leaf 0 and leaf k is m(k), at the scale
  expected_top :
      All → (k : ℕ)
      → s * (P (n - (size (b.state.tree 0) + size (b.state.tree 1))) + (b.state.m 0 + b.state.m k))
      ≡ s * b.state.m k
  expected_top all k =
      let none : n - (size (b.state.tree 0) + size (b.state.tree 1)) ≡ 0 = omega (arith, sum_size all) in
      rw (none, P_zero, m_zero, zero-add, zero-add)

  first_row : (k : ℕ) → cell n table 0 k ≡ get_or table k 0
  unfolding cell
  first_row k = rw (zero-mul n, zero-add k)

  -- the test of the code says whether leaf 0 and the subtree of leaf 1 are all that is left, and eligible
  whole_rooted : OneSubtreeFits n table label m → Rooted n s table b.state
  whole_rooted q = record {
    last = record {
      left = omega (arith, big);
      right = omega (arith, big);
      apart = one_out;
      cells = λ x y px py.
          let ly = w.below 1 y (omega (arith, big)) py in
          let z : x ≡ 0 = leaf_eq x 0 (rw zero at px) in
          rw z (first_row y ∙ (q y ly (positive y py)).1 ∙ b.forest.holds.sums y ly ∙ sym (expected_top all y));
    };
    all = all;
  }
    where
      all : All
      all k z l =
          let own = (q 1 (omega (arith, big)) (omega arith)).0 in
          in_label w b.forest.holds 1 (omega (arith, big)) own k l (q k l z).0

  rooted_whole : Rooted n s table b.state → OneSubtreeFits n table label m
  rooted_whole o k l z = (
    b.forest.holds.labels k l ∙ ap least (w.closed 1 k (o.all k z l)) ∙ one_least,
    sym (first_row k)
        ∙ o.last.cells 0 k (w.own 0) (o.all k z l)
        ∙ expected_top o.all k
        ∙ sym (b.forest.holds.sums k l),
  )

  pub no_tree : (OneSubtreeFits n table label m → ⊥) → rebuilt n s table ≡ refused NoTree
  no_tree deny =
      rooted_refused n s big sp table is_table b.forest.came zero (λ i j. b.done.spent i j)
      (λ o. deny (rooted_whole o))

  -- The listing: the rows keep the rules, and the subtree of leaf 1 stands under their last node.
  module _ (q : OneSubtreeFits n table label m) where
    abbrev rows_made : List ℕ
    rows_made = take (2 * (n - 2)) rows

    made : r ≡ n - 2
    made =
        let two = rooted_two n s big sp table is_table b.forest.came zero (whole_rooted q) in
        omega (arith, two, b.forest.listed.counted)

    rows_long : length rows_made ≡ 2 * (n - 2)
    rows_long = length-take-le (2 * (n - 2)) rows (omega (arith, b.forest.listed.rows_long, count.1))

    lawful_rows : lawful (unused n) n rows_made ≡ true
    lawful_rows = rw made at b.forest.listed.kept

    top_tree : tree_of n rows_made ≡ b.state.tree 1
    unfolding tree_of
    top_tree =
        let own_one = (q 1 (omega (arith, big)) (omega arith)).0 in
        let name = rw made at (b.forest.listed.named 1 (omega arith) (omega (arith, big)) own_one) in
        rw (← last_alone n rows_made big rows_long lawful_rows (get_or names 1 0) name.0) name.1

    -- so our own rebuild answers with its standard listing
    is_rebuilt : rebuilt n s table ≡ accepted (standard n (b.state.tree 1))
    is_rebuilt = rooted_result n s big sp table is_table b.forest.came zero (whole_rooted q)

    pub standard_rebuilt : (room : ℕ) → 2 * (n - 2) ≤ room → standardise_answer n rows_made room ≡ rebuilt n s table
    unfolding standardise_answer answered listing_refusal
    standard_rebuilt room enough =
        let sizes = sizes_pass Counts n _ _ _ room (record { count = count; long = rows_long; enough = enough }) in
        let keeps = of_lawful n (omega (arith, big)) rows_made lawful_rows in
        rw (judged_passes _ sizes ∙ judged_alone _ ∙ keeps, top_tree) (sym is_rebuilt)

  pub answered_none :
      (OneSubtreeFits n table label m → ⊥) → (out : List ℕ)
      → (Err NoTree ≡ outcome (rebuilt n s table)) × (out ≡ written (rebuilt n s table) out)
  unfolding outcome written
  answered_none deny out = (rw (no_tree deny), rw (no_tree deny))
