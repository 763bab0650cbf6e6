-- The lowest gaps are reached, for either kind of table and every number of leaves that it may have: a table of zeros
-- against a comb, at the two leaves on its lowest node.
use mathlib.Core.Path.{◌≡◌, refl, ap, ◌∙◌}
use mathlib.Core.Logic.{inl, inr}
use mathlib.Core.Bool.{true}
use mathlib.Core.List.{List}
use mathlib.Core.Option.{none}
use Prim.Native.Nat.{ℕ, zero, suc, ◌+◌, ◌-◌, ◌*◌, ◌≤◌, ◌<◌}
use native.Mathlib.Nat.{le_refl}
use native.Mathlib.Decide.{ℕ_discrete}
use native.Mathlib.Omega.{arith}
use borrow.Author.Tests.{lt-ltb, ne_eqb}
use lib.IntN.{pos, negsuc, neg_ℤ, ◌-ℤ◌}
use Rattle.base.proofs.Bools.{or_left, or_right, or_cases}
use Rattle.limits.specs.declared.Kind.{Kind}
use Rattle.limits.specs.declared.Kind.TheVariants.{Counts, Poll}
use Rattle.limits.specs.Limits.{IsCountOf, most_of, scale_of, largest_cell_of}
use Rattle.limits.proofs.TableKinds.{leaf_count_of}
use Rattle.pair_counts.specs.Pairs.{P}
use Rattle.pair_counts.proofs.Pairs.{P_largest_of}
use Rattle.trees.specs.Trees.{Tree, leaf, node, leaves, least}
use Rattle.trees.specs.Listings.{tree_of, post_order}
use Rattle.trees.proofs.Trees.{leaves_node, leaf_has, leaf_eq, Drawn, Distinct, InOrder}
use Rattle.trees.proofs.Subtrees.{In}
use Rattle.trees.proofs.Quartets.{cell_reached}
use Rattle.trees.proofs.Tables.{by_rule, rule_cell, rule_is_table}
use Rattle.trees.proofs.Listings.{standard_keeps, standard_read}
use Rattle.gaps.specs.Operations.{gap_refusal}
use Rattle.gaps.proofs.GapAnswers.{gap_passes}
use Rattle.gaps.proofs.GapLaws.{gap, gap_is}

-- the comb on the leaves 0 to k + 1: each node takes the leaf that comes next
unfoldable comb : ℕ → Tree
comb zero = leaf 1
comb (suc k) = node (comb k) (leaf (k + 2))

comb_has : (k x : ℕ) → 0 < x → x < k + 2 → leaves (comb k) x ≡ true
unfolding comb
comb_has zero x a b = let e : x ≡ 1 = omega arith in rw e (leaf_has 1)
comb_has (suc k) x a b = rw leaves_node (elim (ℕ_discrete x (k + 2)) [
  | yes e ↦ or_right (leaves (comb k) x) _ (rw e (leaf_has (k + 2)))
  | no d ↦ or_left _ _ (comb_has k x a (omega arith))
])

comb_only : (k x : ℕ) → leaves (comb k) x ≡ true → (0 < x) × (x < k + 2)
unfolding comb
comb_only zero x h = let e = leaf_eq x 1 h in (omega arith, omega arith)
comb_only (suc k) x h = elim (or_cases (leaves (comb k) x) (leaves (leaf (k + 2)) x) (rw leaves_node at h)) [
  | inl a ↦ (let r = comb_only k x a in (r.0, omega (arith, r.1)))
  | inr b ↦ (let e = leaf_eq x (k + 2) b in (omega arith, omega arith))
]

comb_least : (k : ℕ) → least (comb k) ≡ 1
unfolding comb least
comb_least zero = refl
comb_least (suc k) = rw (comb_least k, lt-ltb 1 (k + 2) (omega arith))

comb_distinct : (k : ℕ) → Distinct (comb k)
unfolding comb
comb_distinct zero = tt
comb_distinct (suc k) = (
  comb_distinct k,
  tt,
  λ x h. (let r = comb_only k x h in
      unfold leaves in ne_eqb x (k + 2) (λ e. omega (arith, e, r.1))),
)

comb_in_order : (k : ℕ) → InOrder (comb k)
unfolding comb least
comb_in_order zero = tt
comb_in_order (suc k) = (comb_in_order k, tt, rw (comb_least k) (omega arith))

comb_drawn : (n : ℕ) → 3 ≤ n → Drawn n (comb (n - 2))
comb_drawn n h = record {
  distinct = comb_distinct (n - 2);
  in_order = comb_in_order (n - 2);
  has = λ k a b. comb_has (n - 2) k a (omega arith);
  only = λ k t. (let r = comb_only (n - 2) k t in (r.0, omega (arith, r.1)));
}

-- its lowest node has the leaves 1 and 2
lowest_node : (k : ℕ) → In (node (leaf 1) (leaf 2)) (comb (suc k))
unfolding comb
lowest_node zero = inl refl
lowest_node (suc k) = inr (inl (lowest_node k))

zero_less : (m : ℕ) → pos 0 -ℤ pos m ≡ neg_ℤ (pos m)
zero_less zero = refl
zero_less (suc m) = rw (lt-ltb 0 (suc m) (omega arith)) (ap negsuc (omega arith))

-- so the lower end of `gap_ends` is the gap of an accepted call
pub lowest_reached :
    (kind : Kind) (n : ℕ) → IsCountOf kind n
    → (t : List ℕ) × (l : List ℕ) × (gap_refusal kind n t l (n * n) ≡ none)
    × (gap kind n t (tree_of n l) 1 2 ≡ neg_ℤ (pos (scale_of kind * P (n - 2))))
lowest_reached kind n c =
    let count = leaf_count_of kind n c in
    let drawn = comb_drawn n count.0 in
    let t = by_rule n (λ i j. 0) in
    let l = post_order (comb (n - 2)) n in (
      t,
      l,
      gap_passes kind n t l (n * n) (record {
        count = c;
        is_table = rule_is_table n (λ i j. 0) (λ i l. refl) (λ i j l m. refl);
        keeps = standard_keeps n (comb (n - 2)) count.0 drawn;
        room_enough = le_refl (n * n);
      }),
      gap_is kind n t (tree_of n l) 1 2 (omega arith) (omega arith)
          ∙ rw (
            rule_cell n (λ i j. 0) 1 2 (omega arith) (omega arith),
            standard_read n (comb (n - 2)) count.0 drawn,
            cell_reached n (comb (n - 2)) 1 2 (omega arith) (omega arith) (omega arith) (on count.0),
          )
          (zero_less (scale_of kind * P (n - 2))),
    )
  where
    on : 3 ≤ n → In (node (leaf 1) (leaf 2)) (comb (n - 2))
    on h = let e : n - 2 ≡ suc (n - 3) = omega arith in rw e (lowest_node (n - 3))

-- and that of `gap_lowest`, −7,875 for counts and −2,610 for a poll's table, for the most leaves
pub lowest_of_all :
    (kind : Kind)
    → let n = most_of kind in
    (t : List ℕ) × (l : List ℕ) × (gap_refusal kind n t l (n * n) ≡ none)
    × (gap kind n t (tree_of n l) 1 2 ≡ neg_ℤ (pos (largest_cell_of kind)))
lowest_of_all kind = rw (← P_largest_of kind) (lowest_reached kind (most_of kind) (most kind))
  where
    most : (kind : Kind) → IsCountOf kind (most_of kind)
    most Counts = (omega arith, omega arith)
    most Poll = (omega arith, omega arith)
