-- The splits are all: with the leaves they are all the edges of a tree, and no two of these are one edge. Leaf 0 is
-- here the one side of the edge that joins it to the last node. In the bytes that a split is written in, the bits of
-- leaves from n on are 0.
use mathlib.Core.Path.{◌≡◌, refl, sym, ◌∙◌}
use mathlib.Core.Logic.{inl, inr, ◌≢◌}
use mathlib.Core.Bool.{true, false}
use mathlib.Core.List.{List, ◌++◌}
use Prim.Native.Nat.{ℕ, ◌+◌, ◌-◌, ◌*◌, ◌≤◌, ◌<◌}
use native.Mathlib.Omega.{arith}
use native.Mathlib.Decide.{dec_lt, ℕ_discrete}
use lib.ListN.{length, get_or, take, drop, length-append, get_or-append}
use lib.Seq.{get_or-append-add}
use Rattle.base.specs.Lists.{tab, any_in, all_in}
use Rattle.base.proofs.Bools.{never, is_false, or_left, or_right}
use Rattle.base.proofs.Bits.{length_cells}
use Rattle.base.proofs.Lists.{length_tab, getD_tab, any_append, any_tab_found, every_append, every_tab, flat_part}
use Rattle.limits.specs.Limits.{IsLeafCount, set_bytes}
use Rattle.trees.specs.Trees.{Tree, leaf, node, LeafSet, leaves, IsTree, least, ordered}
use Rattle.trees.specs.Listings.{subtree_at, standard}
use Rattle.trees.specs.Edges.{edges, one_edge, is_edge}
use Rattle.trees.specs.Splits.{splits, bytes_of, set_of, split_bytes}
use Rattle.trees.proofs.Trees.{leaves_node, leaf_has, leaf_eq, least_in, least_differ, Distinct, Drawn, OnLeaves}
use Rattle.trees.proofs.Trees.{tree_on, ordered_leaves, ordered_drawn}
use Rattle.trees.proofs.Subtrees.{In, in_whole, leaf_in, sub_of, every_edge, Same, same_refl, one_edge_is}
use Rattle.trees.proofs.Subtrees.{one_edge_same, subtree_edge, same_sym, distinct_in, ordered_to}
use Rattle.trees.proofs.PostOrder.{nodes, nodes_in, nodes_are, nodes_last, nodes_have, nodes_more}
use Rattle.trees.proofs.Splits.{splits_many, ordered_nodes, standard_node, splits_edges, bytes_hold}

-- one side of each edge: each leaf, then each split
unfoldable pub edge_sides : ℕ → Tree → List LeafSet
edge_sides n T = tab n (λ i. leaves (leaf i)) ++ splits n T

-- the k-th of them
abbrev pub side : ℕ → Tree → ℕ → LeafSet
side n T k = get_or (edge_sides n T) k (λ x. false)

-- they are all the edges of the tree, and no two are sides of one edge
pub record AllEdges (n : ℕ) (T : Tree) : Type 0 where
  pub so_many : length (edge_sides n T) ≡ 2 * n - 3
  pub each_is_an_edge : all_in (is_edge n T) (edge_sides n T) ≡ true
  pub no_other_edge : all_in (λ e. any_in (one_edge n e) (edge_sides n T)) (edges T) ≡ true
  pub no_two_same : (i j : ℕ) → i < j → j < 2 * n - 3 → one_edge n (side n T i) (side n T j) ≡ false

-- A tree on n leaves.
module _ (n : ℕ) (count : IsLeafCount n) (T : Tree) (tree : IsTree n T) where
  on : OnLeaves n T
  on = tree_on n T tree

  H : Tree
  H = ordered T

  d : Drawn n H
  unfolding H
  d = ordered_drawn n T on

  many : length (nodes H) ≡ n - 2
  unfolding H
  many = ordered_nodes n count T tree

  -- the node at place k
  node_at : ℕ → Tree
  node_at k = get_or (nodes H) k (leaf 0)

  node_at_in : (k : ℕ) → k < n - 2 → In (node_at k) H
  unfolding node_at
  node_at_in k l = nodes_in H k (rw many l)

  split_is : (k : ℕ) → k < n - 3 → leaves (subtree_at n (standard n T) (n + k)) ≡ leaves (node_at k)
  unfolding node_at H
  split_is k l = rw (standard_node n count T tree k (omega arith))

  -- the sides by their places
  leaf_side : (k : ℕ) → k < n → side n T k ≡ leaves (leaf k)
  unfolding edge_sides
  leaf_side k l =
      let sides = tab n (λ i. leaves (leaf i)) in
      get_or-append sides (splits n T) (λ x. false) k (rw length_tab l)
      ∙ getD_tab n (λ i. leaves (leaf i)) k (λ x. false) l

  split_side : (k : ℕ) → k < n - 3 → side n T (n + k) ≡ leaves (node_at k)
  unfolding edge_sides splits
  split_side k l =
      let sides = tab n (λ i. leaves (leaf i)) in
      let past : n + k ≡ length sides + k = rw length_tab in
      rw past
      (get_or-append-add sides (splits n T) k (λ x. false)
      ∙ getD_tab (n - 3) (λ k. leaves (subtree_at n (standard n T) (n + k))) k (λ x. false) l
      ∙ split_is k l)

  -- a subtree of the ordered tree has no leaf 0, and its leaves are below n
  low : (Y : Tree) → In Y H → (x : ℕ) → leaves Y x ≡ true → (0 < x) × (x < n)
  low Y h x q = d.only x (sub_of H Y h x q)

  no_zero : (Y : Tree) → In Y H → leaves Y 0 ≡ false
  no_zero Y h = is_false (leaves Y 0) (λ q. omega (arith, low Y h 0 q))

  -- Two subtrees are not one edge: a leaf is in the one and not in the other, and a leaf is in neither.
  two_edges :
      (Y Z : Tree) (x y : ℕ) → x < n → y < n → leaves Y x ≡ false → leaves Z x ≡ true → leaves Y y ≡ false
      → leaves Z y ≡ false → one_edge n (leaves Y) (leaves Z) ≡ false
  two_edges Y Z x y lx ly p q r s = is_false _ (λ t. elim (one_edge_same n (leaves Y) (leaves Z) t) [
    | inl same ↦ never (same x lx ∙ q) p
    | inr other ↦ never (other y ly ∙ rw s) r
  ])

  -- a third leaf
  third : (i j : ℕ) → i < j → (y : ℕ) × (y < n) × (y ≢ i) × (y ≢ j)
  third i j l = elim (ℕ_discrete i 0) [
    | no far ↦ (0, omega (arith, count.0), omega arith, omega arith)
    | yes near ↦ elim (ℕ_discrete j 1) [
      | no far ↦ (1, omega (arith, count.0), omega arith, λ e. far (sym e))
      | yes next ↦ (2, omega (arith, count.0), omega arith, omega arith)
    ]
  ]

  not_leaf : (i x : ℕ) → x ≢ i → leaves (leaf i) x ≡ false
  not_leaf i x h = is_false (leaves (leaf i) x) (λ q. h (leaf_eq x i q))

  -- two leaves
  leaf_leaf : (i j : ℕ) → i < j → j < n → one_edge n (leaves (leaf i)) (leaves (leaf j)) ≡ false
  leaf_leaf i j l lj =
      let y = third i j l in
      let apart : j ≢ i = omega arith in
      two_edges (leaf i) (leaf j) j y.0 lj y.1 (not_leaf i j apart) (leaf_has j) (not_leaf i y.0 y.2)
      (not_leaf j y.0 y.3)

  -- a node has another leaf than i
  other_leaf : (i : ℕ) (A B : Tree) → Distinct (node A B) → (x : ℕ) × (leaves (node A B) x ≡ true) × (x ≢ i)
  other_leaf i A B h = elim (ℕ_discrete (least A) i) [
    | no far ↦ (least A, rw leaves_node (or_left _ _ (least_in A)), far)
    | yes near ↦ (
      least B,
      rw leaves_node (or_right (leaves A (least B)) _ (least_in B)),
      λ q. least_differ A B h.2 (near ∙ sym q),
    )
  ]

  node_at_other : (i k : ℕ) → k < n - 2 → (x : ℕ) × (leaves (node_at k) x ≡ true) × (x ≢ i)
  unfolding node_at
  node_at_other i k l =
      let is = nodes_are H k (rw many l) in
      let distinct = rw is.2 at (distinct_in H (node_at k) d.distinct (node_at_in k l)) in
      rw is.2 (other_leaf i is.0 is.1 distinct)

  -- a later node has a leaf that an earlier one has not
  node_at_more :
      (k j : ℕ) → k < j → j < n - 2
      → (x : ℕ) × (x < n) × (0 < x) × (leaves (node_at j) x ≡ true) × (leaves (node_at k) x ≡ false)
  unfolding node_at
  node_at_more k j l lj =
      let r = nodes_more H d.distinct k j l (rw many lj) in
      let below = low (node_at j) (node_at_in j lj) r.0 r.1 in
      (r.0, below.1, below.0, r.1, r.2)

  -- a leaf and a split: the node has another leaf; and leaf 0, or a leaf of the last node, is in neither
  leaf_split : (i k : ℕ) → i < n → k < n - 3 → one_edge n (leaves (leaf i)) (leaves (node_at k)) ≡ false
  leaf_split i k li lk =
      let here = node_at_in k (omega arith) in
      let x = node_at_other i k (omega arith) in
      let lx = (low (node_at k) here x.0 x.1).1 in
      let two = two_edges (leaf i) (node_at k) x.0 in
      elim (ℕ_discrete i 0) [
        | no far ↦
            two 0 lx (omega arith) (not_leaf i x.0 x.2) x.1 (not_leaf i 0 (λ e. far (sym e)))
            (no_zero (node_at k) here)
        | yes near ↦ (
            let y = node_at_more k (n - 3) lk (omega arith) in
            let outside : y.0 ≢ i = omega (arith, y.2) in
            two y.0 lx y.1 (not_leaf i x.0 x.2) x.1 (not_leaf i y.0 outside) y.4
            )
      ]

  -- two splits: the later has a leaf that the earlier has not, and leaf 0 is in neither
  split_split : (k j : ℕ) → k < j → j < n - 3 → one_edge n (leaves (node_at k)) (leaves (node_at j)) ≡ false
  split_split k j l lj =
      let x = node_at_more k j l (omega arith) in
      two_edges (node_at k) (node_at j) x.0 0 x.1 (omega arith) x.4 x.3
      (no_zero (node_at k) (node_at_in k (omega arith)))
      (no_zero (node_at j) (node_at_in j (omega arith)))

  no_two : (i j : ℕ) → i < j → j < 2 * n - 3 → one_edge n (side n T i) (side n T j) ≡ false
  no_two i j l lj = elim (dec_lt j n) [
    | yes jn ↦ rw (leaf_side i (omega arith), leaf_side j jn) (leaf_leaf i j l jn)
    | no jn ↦ (
        let jq : j ≡ n + (j - n) = omega arith in
        elim (dec_lt i n) [
          | yes low ↦
              rw (jq, leaf_side i low, split_side (j - n) (omega arith)) (leaf_split i (j - n) low (omega arith))
          | no high ↦ (
              let iq : i ≡ n + (i - n) = omega arith in
              rw (iq, jq, split_side (i - n) (omega arith), split_side (j - n) (omega arith))
              (split_split (i - n) (j - n) (omega arith) (omega arith))
              )
        ]
        )
  ]

  -- leaf 0 has the other side of the whole tree's edge
  other_side : (Y : Tree) → ((x : ℕ) → x < n → leaves Y x ≡ leaves T x) → Same n Y (leaf 0)
  other_side Y e = inr (λ x l. elim (ℕ_discrete x 0) [
    | yes z ↦ rw (e x l, z, leaf_has 0) (is_false (leaves T 0) (λ q. omega (arith, on.only 0 q)))
    | no z ↦ rw (e x l, not_leaf 0 x z) (on.has x (omega arith) l)
  ])

  each_leaf : (i : ℕ) → i < n → is_edge n T (leaves (leaf i)) ≡ true
  each_leaf i l = elim (ℕ_discrete i 0) [
    | yes z ↦ rw z (subtree_edge n T (leaf 0) T (in_whole T) (same_sym n T (leaf 0) (other_side T (λ x lx. refl))))
    | no z ↦ subtree_edge n T (leaf i) (leaf i) (leaf_in i T (on.has i (omega arith) l)) (same_refl n (leaf i))
  ]

  each : all_in (is_edge n T) (edge_sides n T) ≡ true
  unfolding edge_sides
  each =
      every_append (is_edge n T) (tab n (λ i. leaves (leaf i))) (splits n T)
      (every_tab (is_edge n T) n (λ i. leaves (leaf i)) each_leaf) (splits_edges n count T tree)

  -- a side that is a leaf's, or a split's
  by_leaf : (Y : Tree) (i : ℕ) → i < n → Same n Y (leaf i) → any_in (one_edge n (leaves Y)) (edge_sides n T) ≡ true
  unfolding edge_sides
  by_leaf Y i l same =
      let f = one_edge n (leaves Y) in
      rw (any_append f (tab n (λ i. leaves (leaf i))) (splits n T))
      (or_left _ _ (any_tab_found f (λ i. leaves (leaf i)) n i l (one_edge_is n Y (leaf i) same)))

  by_split :
      (Y : Tree) (k : ℕ) → k < n - 3 → Same n Y (node_at k) → any_in (one_edge n (leaves Y)) (edge_sides n T) ≡ true
  unfolding edge_sides splits
  by_split Y k l same =
      let f = one_edge n (leaves Y) in
      let g : ℕ → LeafSet = λ k. leaves (subtree_at n (standard n T) (n + k)) in
      rw (any_append f (tab n (λ i. leaves (leaf i))) (splits n T))
      (or_right (any_in f (tab n (λ i. leaves (leaf i)))) _
      (any_tab_found f g (n - 3) k l (rw (split_is k l) (one_edge_is n Y (node_at k) same))))

  any_side : (Y : Tree) → In Y T → any_in (one_edge n (leaves Y)) (edge_sides n T) ≡ true
  any_side (leaf i) h =
      by_leaf (leaf i) i (on.only i (sub_of T (leaf i) h i (leaf_has i))).1 (same_refl n (leaf i))
  any_side (node A B) h = go r.0 r.1 r.2
    where
      r : (Z : Tree) × In Z H × ((x : ℕ) → leaves (node A B) x ≡ leaves Z x)
      r = unfold H in ordered_to T (node A B) h

      go :
          (Z : Tree) → In Z H → ((x : ℕ) → leaves (node A B) x ≡ leaves Z x)
          → any_in (one_edge n (leaves (node A B))) (edge_sides n T) ≡ true
      go (leaf i) g e =
          let x = other_leaf i A B (distinct_in T (node A B) on.distinct h) in
          absurd (never (sym (e x.0) ∙ x.1) (not_leaf i x.0 x.2))
      go (node C D) g e =
          let k = nodes_have H C D g in
          let is : node C D ≡ node_at k.0 = unfold node_at in sym k.2 in
          let same : (x : ℕ) → leaves (node A B) x ≡ leaves (node_at k.0) x = λ x. e x ∙ rw is in
          elim (dec_lt k.0 (n - 3)) [
            | yes l ↦ by_split (node A B) k.0 l (inl (λ x lx. same x))
            | no l ↦ (
                let top : node_at k.0 ≡ H = unfold node_at in nodes_last H k.0 (omega (arith, many, k.1)) in
                by_leaf (node A B) 0 (omega (arith, count.0))
                (other_side (node A B) (λ x lx. same x ∙ rw top (unfold H in ordered_leaves T x)))
                )
          ]

  pub all_edges : AllEdges n T
  all_edges = record {
    so_many = unfold edge_sides in rw (length-append, length_tab, splits_many n T) (omega (arith, count.0));
    each_is_an_edge = each;
    no_other_edge = every_edge (λ e. any_in (one_edge n e) (edge_sides n T)) T any_side;
    no_two_same = no_two;
  }

  -- The bytes that are written: a set for each split, and the bits of leaves from n on are 0.
  pub no_bits_beyond :
      (k : ℕ) → k < n - 3 → (x : ℕ) → n ≤ x → x < 8 * set_bytes
      → set_of (take set_bytes (drop (set_bytes * k) (split_bytes n T))) x ≡ false
  unfolding split_bytes splits
  no_bits_beyond k l x high lx =
      rw (
        flat_part set_bytes bytes_of (λ x. false) (length_cells 8 set_bytes) (splits n T) k (rw (splits_many n T) l),
        getD_tab (n - 3) (λ k. leaves (subtree_at n (standard n T) (n + k))) k (λ x. false) l,
        split_is k l,
        bytes_hold (leaves (node_at k)) x lx,
      )
      (is_false (leaves (node_at k) x) (λ q. omega (arith, low (node_at k) (node_at_in k (omega arith)) x q)))
