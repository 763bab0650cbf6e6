-- The plan of a whole tree, leaf 0 put on: every leaf has a place of its own.
use mathlib.Core.Path.{◌≡◌, refl, ap, sym, ◌∙◌}
use mathlib.Core.Logic.{inl, inr, ◌≢◌}
use mathlib.Core.List.{List}
use Prim.Native.Nat.{ℕ, ◌+◌, ◌-◌, ◌*◌, ◌≤◌, ◌<◌}
use native.Mathlib.Omega.{arith}
use native.Mathlib.Decide.{ℕ_discrete}
use lib.ListN.{length, set}
use lib.Seq.{get_or-set_same, get_or-set_other}
use Rattle.limits.specs.Limits.{most_leaves, IsLeafCount}
use Rattle.pair_counts.specs.Pairs.{P}
use Rattle.pair_counts.proofs.Pairs.{P_zero, P_one}
use Rattle.trees.specs.Trees.{Tree, leaf, node, size}
use Rattle.trees.specs.Listings.{KeepsRules, subtree_at, tree_of}
use Rattle.trees.specs.Quartets.{quartets}
use Rattle.trees.proofs.Trees.{size_leaf, size_node, OnLeaves, on_tree, root_within, root_distinct, root_all, tree_size}
use Rattle.trees.proofs.PathSums.{count_formula}
use Rattle.trees.proofs.Rules.{on_leaves}
use Rattle.leaf_orders.specs.declared.Place.{Place}
use Rattle.leaf_orders.specs.inner.LeafOrders.{most_sum, whole, at, LeastBetween, IsLeafOrder}
use Rattle.leaf_orders.specs.inner.Orders.{depth, Prepared, NumbersPlaced, LaidOut, IsPlan}
use Rattle.leaf_orders.proofs.LeafOrders.{place_in, leaf_at, place_once, laid_same}
use Rattle.leaf_orders.proofs.Meeting.{meets}
use Rattle.leaf_orders.proofs.Placing.{place_of, above_of, before_of, laid_under}
use Rattle.leaf_orders.proofs.Rows.{pairs_small}

-- every leaf has a place of its own
pub record OwnPlaces (n : ℕ) (place : ℕ → ℕ) : Type 0 where
  pub few : n ≤ most_leaves
  pub inside : (k : ℕ) → k < n → place k < n
  pub once : (j k : ℕ) → j < n → k < n → place j ≡ place k → j ≡ k

-- leaf k stands at its place, as the numbers have it
pub record StandsAt (numbers : List Place) (places aboves leaves depths : List ℕ) (k : ℕ) : Type 0 where
  pub place : at places k ≡ place_of numbers k
  pub above : at aboves k ≡ above_of numbers k
  pub leaf : at leaves (place_of numbers k) ≡ k
  pub before : at depths (place_of numbers k) ≡ before_of numbers k

-- and so do the first m leaves
abbrev pub Placed : (numbers : List Place) (places aboves leaves depths : List ℕ) (m : ℕ) → Type 0
Placed numbers places aboves leaves depths m = (k : ℕ) → k < m → StandsAt numbers places aboves leaves depths k

module _ (n : ℕ) (l : List ℕ) (count : IsLeafCount n) (keeps : KeepsRules n l) where
  -- the tree under leaf 0, and with leaf 0 put on
  abbrev T : Tree
  T = tree_of n l

  abbrev W : Tree
  W = node (leaf 0) T

  pub on : OnLeaves n T
  on = on_leaves n l count.0 keeps

  others : size T ≡ n - 1
  others = omega (arith, tree_size n T on (omega arith))

  pub under_others : size (subtree_at n l (2 * n - 3)) ≡ n - 1
  unfolding tree_of
  under_others = others

  pub whole_size : size W ≡ n
  whole_size = omega (arith, others, size_node (leaf 0) T, size_leaf 0)

  is_under : T ≡ subtree_at n l (2 * n - 3)
  unfolding tree_of
  is_under = refl

  top_depth : depth n (leaf 0) T 0 ≡ whole - P (n - 1)
  unfolding depth
  top_depth =
      let none : n - (1 + (n - 1)) ≡ 0 = omega arith in
      rw (size_leaf 0, others, none, P_one, P_zero) (omega arith)

  -- all leaves follow one another
  module _ {sizes : List ℕ} {numbers : List Place} (g : Prepared n l sizes) (h : NumbersPlaced n l numbers n) where
    laid_whole : LaidOut n (place_of numbers) (above_of numbers) (before_of numbers) W 0 0 0
    laid_whole =
        let under_zero = laid_under g h (2 * n - 2) (2 * n - 3) (omega arith) (omega arith) in
        let leaf_0 = h.leaf_0 in (
          rw others (
            ap (λ p. p.place) leaf_0,
            omega (arith, ap (λ p. p.above) leaf_0),
            ap (λ p. p.before) leaf_0,
          ),
          rw (size_leaf 0, P_one, top_depth, is_under)
              (rw (h.root, place_of, above_of, before_of) at under_zero),
        )

    -- every leaf has a place of its own
    pub own_places : OwnPlaces n (place_of numbers)
    own_places = record {
      few = count.1;
      inside =
          λ k lk.
          omega (
            arith,
            whole_size,
            (place_in n (place_of numbers) (above_of numbers) (before_of numbers) W 0 0 0 laid_whole k
                (root_all n T on k lk)).1,
          );
      once =
          λ j k lj lk.
          place_once n (place_of numbers) (above_of numbers) (before_of numbers) W 0 0 0 laid_whole j k
          (root_all n T on j lj) (root_all n T on k lk);
    }

    -- with the leaves at their places, the plan is made
    pub plan_made :
        {places aboves leaves depths : List ℕ} → Placed numbers places aboves leaves depths n
        → IsPlan n T places aboves leaves depths
    plan_made {places} {aboves} {leaves} {depths} p = record {
      laid =
          laid_same n (place_of numbers) (above_of numbers) (before_of numbers) (at places) (at aboves)
          (λ k. at depths (at places k))
          (λ k lk. (let q = p k lk in (q.place, q.above, ap (at depths) q.place ∙ q.before))) W 0 0 0
          (root_within n T on (omega arith)) laid_whole;
      placed = λ k lk. (let q = p k lk in ap (at leaves) q.place ∙ q.leaf);
      small = λ k lk. omega (arith, (p k lk).above, (h.inside k (omega arith)).1);
    }

  -- by a plan the leaves are in order
  module _ {places aboves leaves depths : List ℕ} (p : IsPlan n T places aboves leaves depths) where
    abbrev before : ℕ → ℕ
    before k = at depths (at places k)

    place_below : (k : ℕ) → k < n → at places k < n
    place_below k lk =
        omega (arith, whole_size, (place_in n (at places) (at aboves) before W 0 0 0 p.laid k (root_all n T on k lk)).1)

    -- the leaf at a place
    stands_at : (s : ℕ) → s < n → (at leaves s < n) × (at places (at leaves s) ≡ s)
    stands_at s ls =
        let r =
        leaf_at n (at places) (at aboves) before W 0 0 0 p.laid s (omega arith)
        (omega (arith, whole_size)) in
        let below = root_within n T on (omega arith) r.0 r.1 in
        let here : at leaves s ≡ r.0 = ap (at leaves) (sym r.2) ∙ p.placed r.0 below in
        (rw here below, rw here r.2)

    few_pairs : P n ≤ most_sum
    few_pairs = pairs_small n count.1

    small : (k : ℕ) → k < n → at aboves k ≤ most_sum
    small k lk = omega (arith, p.small k lk, few_pairs)

    -- the count of the leaves at two places
    told :
        (s t m : ℕ) → s < t → t < n → LeastBetween depths s t m
        → at aboves (at leaves s) + at aboves (at leaves t) + m ≡ quartets n T (at leaves s) (at leaves t) + whole
    told s t m st tn least =
        let i = stands_at s (omega arith) in
        let j = stands_at t tn in
        let apart : at leaves s ≢ at leaves t = λ e. omega (arith, sym i.1 ∙ ap (at places) e ∙ j.1) in
        rw (count_formula n T (on_tree n T on) (at leaves s) (at leaves t) i.0 j.0 apart)
        (elim (meets n few_pairs (at places) (at aboves) depths W 0 0 0 p.laid (root_distinct n T on)
        (omega (arith, whole_size)) (at leaves s) (at leaves t) (root_all n T on (at leaves s) i.0)
        (root_all n T on (at leaves t) j.0) apart (small (at leaves s) i.0) (small (at leaves t) j.0)) [
          | inl q ↦ rw (i.1, j.1) at q.sum m least
          | inr q ↦ absurd (omega (arith, q.in_order, i.1, j.1))
        ])

    pub order_made : IsLeafOrder n T places aboves leaves depths
    order_made = record {
      few = count.1;
      leaf_below = λ s ls. (stands_at s ls).0;
      place_below = place_below;
      leaf_there = p.placed;
      place_there = λ s ls. (stands_at s ls).1;
      small = small;
      told = told;
    }

-- one leaf more at its place
module _ {n : ℕ} (numbers : List Place) (j : ℕ) (own : OwnPlaces n (place_of numbers)) (lj : j < n) where
  pub there_small : place_of numbers j < most_leaves
  there_small = omega (arith, own.inside j lj, own.few)

  pub placed_more :
      {places aboves leaves depths : List ℕ} → length places ≡ most_leaves → length aboves ≡ most_leaves
      → length leaves ≡ most_leaves → length depths ≡ most_leaves → Placed numbers places aboves leaves depths j
      → Placed numbers (set places j (place_of numbers j)) (set aboves j (above_of numbers j))
      (set leaves (place_of numbers j) j) (set depths (place_of numbers j) (before_of numbers j)) (j + 1)
  placed_more {places} {aboves} {leaves} {depths} lp la ll ld h k lk = elim (ℕ_discrete k j) [
    | yes e ↦ rw e (record {
      place = get_or-set_same places j (place_of numbers j) 0 (omega (arith, own.few));
      above = get_or-set_same aboves j (above_of numbers j) 0 (omega (arith, own.few));
      leaf = get_or-set_same leaves (place_of numbers j) j 0 (omega (arith, there_small));
      before = get_or-set_same depths (place_of numbers j) (before_of numbers j) 0 (omega (arith, there_small));
    })
    | no e ↦
        let apart : place_of numbers k ≢ place_of numbers j = λ q. e (own.once k j (omega arith) lj q) in
        let old = h k (omega (arith, e)) in
        record {
          place = get_or-set_other places j k (place_of numbers j) 0 e ∙ old.place;
          above = get_or-set_other aboves j k (above_of numbers j) 0 e ∙ old.above;
          leaf = get_or-set_other leaves (place_of numbers j) (place_of numbers k) j 0 apart ∙ old.leaf;
          before =
              get_or-set_other depths (place_of numbers j) (place_of numbers k) (before_of numbers j) 0 apart
              ∙ old.before;
        }
  ]
