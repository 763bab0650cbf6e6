-- Every tree on n + 1 leaves is a graft of what pruning its leaf n leaves. The idea: in standard order the greatest
-- leaf comes second in its row, so that taking it out leaves its brother, whose number names the edge.
use mathlib.Core.Path.{◌≡◌, refl, sym, ◌∙◌}
use mathlib.Core.Logic.{inl, inr}
use mathlib.Core.Bool.{true, ◌&&◌}
use Prim.Native.Nat.{ℕ, ◌+◌, ◌-◌, ◌≤◌, ◌<◌}
use native.Mathlib.Omega.{arith}
use native.Mathlib.Decide.{dec_lt, ℕ_discrete}
use borrow.Author.Tests.{lt-ltb, le-ltb, ne_eqb}
use lib.Dec.{ltb, eqb}
use Rattle.base.specs.Numbers.{indicator}
use Rattle.base.proofs.Bools.{bool?, or_cases, eqb_same}
use Rattle.base.proofs.Counts.{no_indicator}
use Rattle.limits.specs.Limits.{IsLeafCount}
use Rattle.trees.specs.Trees.{Tree, leaf, node, leaves, size, occurrences, IsTree, least, ordered}
use Rattle.trees.specs.Listings.{number_in}
use Rattle.trees.proofs.Trees.{leaves_node, leaf_eq, least_in, least_le, InOrder, Within, within_left, within_right}
use Rattle.trees.proofs.Trees.{ordered_is, tree_on, Drawn, ordered_drawn, ordered_tree}
use Rattle.trees.proofs.Quartets.{ordered_paired}
use Rattle.spanned_trees.specs.Spans.{pruned}
use Rattle.spanned_trees.proofs.Prunes.{pruned_only}
use Rattle.grafted_trees.specs.Grafts.{names_edge, put_on, with_leaf, grafted}
use Rattle.grafted_trees.specs.inner.EdgeNumbers.{edges_at}
use Rattle.grafted_trees.proofs.EdgeNumbers.{edge_once, edge_none}
use Rattle.grafted_trees.proofs.Grafts.{with_leaf_none, own_edge, put_above, grafted_paired}
use Rattle.change_answers.proofs.GraftsPruned.{lowered_low}

-- The subtree S without its leaf x, and the edge on which x was: put on there, it makes S again, if no other edge has
-- that number. The first node of what is left is number r.
record WithoutLeaf (x : ℕ) (S : Tree) (r : ℕ) : Type 0 where
  tree : Tree
  edge : ℕ
  in_order : InOrder tree
  same_least : least tree ≡ least S
  occurs : (k : ℕ) → occurrences k S ≡ occurrences k tree + indicator (eqb k x) 1
  there : 1 ≤ edges_at edge tree r
  put_back : edges_at edge tree r ≡ 1 → with_leaf x edge tree r ≡ S

-- the leaf is in the first child, in the second, or is the second
in_first :
    (x : ℕ) (A B : Tree) (r : ℕ) → InOrder B → least A < least B → WithoutLeaf x A r → WithoutLeaf x (node A B) r
unfolding edges_at with_leaf put_on occurrences least
in_first x A B r b l w =
    let S = w.tree in
    let e = w.edge in
    let r' = r + size S - 1 in
    record {
      tree = node S B;
      edge = e;
      in_order = (w.in_order, b, rw w.same_least l);
      same_least = rw w.same_least;
      occurs = λ k. omega (arith, w.occurs k);
      there = omega (arith, w.there);
      put_back = λ h.
          rw (
            no_indicator (eqb e (number_in (node S B) r)) (omega (arith, w.there, h)),
            w.put_back (omega (arith, w.there, h)),
            with_leaf_none x e B r' (omega (arith, w.there, h)),
          );
    }

in_second :
    (x : ℕ) (A B : Tree) (r : ℕ) → InOrder A → least A < least B → WithoutLeaf x B (r + size A - 1)
    → WithoutLeaf x (node A B) r
unfolding edges_at with_leaf put_on occurrences least
in_second x A B r a l w =
    let S = w.tree in
    let e = w.edge in
    record {
      tree = node A S;
      edge = e;
      in_order = (a, w.in_order, rw w.same_least l);
      same_least = rw w.same_least;
      occurs = λ k. omega (arith, w.occurs k);
      there = omega (arith, w.there);
      put_back = λ h.
          rw (
            no_indicator (eqb e (number_in (node A S) r)) (omega (arith, w.there, h)),
            with_leaf_none x e A r (omega (arith, w.there, h)),
            w.put_back (omega (arith, w.there, h)),
          );
    }

is_second :
    (x : ℕ) (A : Tree) (r : ℕ) → InOrder A → least A < x → WithoutLeaf x (node A (leaf x)) r
unfolding occurrences least
is_second x A r a l = record {
  tree = A;
  edge = number_in A r;
  in_order = a;
  same_least = rw (lt-ltb (least A) x l);
  occurs = λ k. refl;
  there = own_edge A r;
  put_back = put_above x A r;
}

-- the first child has a smaller leaf
smaller_first : (x : ℕ) (A B : Tree) → InOrder (node A B) → Within (x + 1) (node A B) → least A < x
smaller_first x A B o w = omega (arith, o.2, within_right (x + 1) A B w (least B) (least_in B))

either :
    (x : ℕ) (A B : Tree) (r : ℕ) → InOrder (node A B) → Within (x + 1) (node A B) → leaves (node A B) x ≡ true
    → (leaves A x ≡ true → least A < x → WithoutLeaf x A r)
    → (leaves B x ≡ true → least B < x → WithoutLeaf x B (r + size A - 1)) → WithoutLeaf x (node A B) r
either x A B r o w t first second = elim (or_cases (leaves A x) (leaves B x) (rw leaves_node at t)) [
  | inl a ↦ in_first x A B r o.1 o.2 (first a (smaller_first x A B o w))
  | inr b ↦ elim (dec_lt (least B) x) [
    | yes l ↦ in_second x A B r o.0 o.2 (second b l)
    | no g ↦ rw (alone B o.1 (within_right (x + 1) A B w) b g) (is_second x A r o.0 (smaller_first x A B o w))
  ]
]
  where
    alone : (C : Tree) → InOrder C → Within (x + 1) C → leaves C x ≡ true → (least C < x → ⊥) → C ≡ leaf x
    alone (leaf i) a v t g = rw (leaf_eq x i t)
    alone (node C D) a v t g =
        let first : leaves (node C D) (least C) ≡ true = rw (leaves_node, least_in C) in
        absurd (g (omega (arith, smaller_first x C D a v, least_le (node C D) (least C) first)))

-- so it can be taken out of every subtree in standard order of which it is the greatest leaf, but not the only one
without_leaf :
    (x : ℕ) (S : Tree) (r : ℕ) → InOrder S → Within (x + 1) S → leaves S x ≡ true → least S < x → WithoutLeaf x S r
unfolding least
without_leaf x (leaf i) r o w t l = absurd (omega (arith, leaf_eq x i t))
without_leaf x (node A B) r o w t l =
    either x A B r o w t
    (λ a m. without_leaf x A r o.0 (within_left (x + 1) A B w) a m)
    (λ b m. without_leaf x B (r + size A - 1) o.1 (within_right (x + 1) A B w) b m)

-- A tree on n + 1 leaves.
module _ (n : ℕ) (c : IsLeafCount n) (S : Tree) (h : IsTree (n + 1) S) where
  drawn : Drawn (n + 1) (ordered S)
  drawn = ordered_drawn (n + 1) S (tree_on (n + 1) S h)

  -- its least leaf is 1, and n is another
  taken : WithoutLeaf n (ordered S) n
  taken =
      without_leaf n (ordered S) n drawn.in_order (λ k t. (drawn.only k t).1)
      (drawn.has n (omega arith) (omega arith))
      (omega (arith, c, least_le (ordered S) 1 (drawn.has 1 (omega arith) (omega (arith, c)))))

  abbrev T : Tree
  T = taken.tree

  abbrev e : ℕ
  e = taken.edge

  is_tree : IsTree n T
  is_tree k = omega (arith, taken.occurs k, ordered_tree (n + 1) S h k, counted)
    where
      counted :
          indicator (ltb 0 k && ltb k (n + 1)) 1 ≡ indicator (ltb 0 k && ltb k n) 1 + indicator (eqb k n) 1
      counted = elim (ℕ_discrete k n) [
        | yes d ↦ rw (d, eqb_same n, lt-ltb 0 n (omega arith), le-ltb n n (omega arith), lt-ltb n (n + 1) (omega arith))
        | no d ↦ rw (ne_eqb k n d) (elim (dec_lt k n) [
          | yes l ↦ rw (lt-ltb k n l, lt-ltb k (n + 1) (omega arith)) (omega arith)
          | no g ↦ rw (le-ltb k n (omega arith), le-ltb k (n + 1) (omega arith)) (omega arith)
        ])
      ]

  same : ordered T ≡ T
  same = ordered_is T taken.in_order

  there : names_edge n e ≡ true
  there = elim (bool? (names_edge n e)) [
    | inl t ↦ t
    | inr f ↦ absurd (omega (arith, taken.there, rw same at (edge_none n T c.0 is_tree e f)))
  ]

  grafted_back : grafted n T e ≡ ordered S
  unfolding grafted
  grafted_back = rw same (taken.put_back (rw same at (edge_once n T c.0 is_tree e there)))

  left : ordered T ≡ ordered (pruned n S)
  left =
      let one_less : n + 1 - 1 ≡ n = omega arith in
      pruned_only (n + 1) S h n (omega arith) (omega (arith, c)) (rw one_less c) T (rw one_less is_tree)
      (λ i j p q li lj lp lq di dj dp dq.
      let a : i < n = omega arith in
      let b : j < n = omega arith in
      let f : p < n = omega arith in
      let g : q < n = omega arith in
      rw (lowered_low n i a, lowered_low n j b, lowered_low n p f, lowered_low n q g)
      (sym (grafted_paired n T e i j p q a b f g) ∙ rw grafted_back (ordered_paired S i j p q)))

  -- grafting looks at a tree in standard order alone
  grafted_again : grafted n (pruned n S) e ≡ ordered S
  unfolding grafted
  grafted_again = rw (← left) grafted_back

  -- it is a graft of what pruning leaf n leaves
  pub graft_of_prune : (e : ℕ) × (names_edge n e ≡ true) × (ordered (grafted n (pruned n S) e) ≡ ordered S)
  graft_of_prune = (e, there, rw grafted_again (ordered_is (ordered S) drawn.in_order))
