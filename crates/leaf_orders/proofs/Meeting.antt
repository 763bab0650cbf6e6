-- Two leaves in order: a node is less deep than those under it, so that the least depth between two leaves is that of
-- the node in which they meet. By it, and by what branches off above the two, the sum along the path between them is
-- found.
use mathlib.Core.Path.{◌≡◌, sym, ◌∙◌}
use mathlib.Core.Logic.{◌⊎◌, inl, inr, ◌≢◌}
use mathlib.Core.Bool.{true}
use mathlib.Core.List.{List}
use Prim.Native.Nat.{ℕ, ◌+◌, ◌-◌, ◌≤◌, ◌<◌}
use native.Mathlib.Omega.{arith}
use native.Mathlib.Decide.{dec_lt}
use Rattle.base.proofs.Bools.{or_cases}
use Rattle.pair_counts.specs.Pairs.{P}
use Rattle.pair_counts.proofs.Pairs.{P_le, P_mono}
use Rattle.trees.specs.Trees.{Tree, leaf, node, leaves, size}
use Rattle.trees.proofs.Trees.{leaves_node, leaf_eq, size_leaf, size_node, apart_sym, Distinct}
use Rattle.trees.proofs.BranchedPairs.{inner_sum}
use Rattle.trees.proofs.PathSums.{path_sum, path_sum_left, path_sum_right, path_sum_cross}
use Rattle.leaf_orders.specs.inner.LeafOrders.{most_sum, whole, at, LeastBetween}
use Rattle.leaf_orders.specs.inner.Orders.{depth, LaidOut}
use Rattle.leaf_orders.proofs.LeafOrders.{place_in, above_in}

-- no node over s leaves is less deep than this
unfoldable floor : (n s u : ℕ) → ℕ
floor n s u = P (n - s) + (whole - (u + u + P s))

depth_ge : (n : ℕ) (A B : Tree) (u : ℕ) → floor n (size (node A B)) u ≤ depth n A B u
unfolding depth floor
depth_ge n A B u = rw size_node (omega (arith, P_le (size A) (size B)))

first_ge :
    (n : ℕ) (A B : Tree) (u : ℕ) → size A + size B ≤ n → depth n A B u ≤ floor n (size A) (u + P (size B))
unfolding depth floor
first_ge n A B u l =
    let e : n - (size A + size B) + size B ≡ n - size A = omega arith in
    omega (arith, rw e at (P_le (n - (size A + size B)) (size B)))

second_ge :
    (n : ℕ) (A B : Tree) (u : ℕ) → size A + size B ≤ n → depth n A B u ≤ floor n (size B) (u + P (size A))
unfolding depth floor
second_ge n A B u l =
    let e : n - (size A + size B) + size A ≡ n - size B = omega arith in
    omega (arith, rw e at (P_le (n - (size A + size B)) (size A)))

module _ (n : ℕ) (small : P n ≤ most_sum) (place above : ℕ → ℕ) (depths : List ℕ) where
  -- the depths are those before the places
  abbrev Ordered : Tree → ℕ → ℕ → ℕ → Type 0
  Ordered Z p u w = LaidOut n place above (λ k. at depths (place k)) Z p u w

  -- the depth before the first leaf
  first_depth : (Z : Tree) (p u w : ℕ) → Ordered Z p u w → at depths p ≡ w
  first_depth (leaf x) p u w h = rw h.0 at h.2
  first_depth (node A B) p u w h = first_depth A p (u + P (size B)) w h.0

  -- the depths within a node, from those within its children
  Inside : Tree → ℕ → ℕ → Type 0
  Inside Z p u = (t : ℕ) → p < t → t < p + size Z → floor n (size Z) u ≤ at depths t

  within_node :
      (A B : Tree) (p u w : ℕ) → Ordered (node A B) p u w → size A + size B ≤ n → Inside A p (u + P (size B))
      → Inside B (p + size A) (u + P (size A)) → (t : ℕ) → p < t → t < p + (size A + size B)
      → depth n A B u ≤ at depths t
  unfolding Inside
  within_node A B p u w h l ia ib t lo hi = elim (dec_lt t (p + size A)) [
    | yes a ↦ omega (arith, ia t lo a, first_ge n A B u l)
    | no g ↦ elim (dec_lt (p + size A) t) [
      | yes b ↦ omega (arith, ib t b (omega arith), second_ge n A B u l)
      | no e ↦
          let here : t ≡ p + size A = omega arith in
          rw here (omega (arith, first_depth B (p + size A) (u + P (size A)) (depth n A B u) h.1))
    ]
  ]

  inside : (Z : Tree) (p u w : ℕ) → Ordered Z p u w → size Z ≤ n → Inside Z p u
  unfolding Inside
  inside (leaf x) p u w h l t lo hi = absurd (omega (arith, size_leaf x))
  inside (node A B) p u w h l t lo hi =
      let sum = size_node A B in
      let ia = inside A p (u + P (size B)) w h.0 (omega (arith, sum)) in
      let ib = inside B (p + size A) (u + P (size A)) (depth n A B u) h.1 (omega (arith, sum)) in
      let here = within_node A B p u w h (omega (arith, sum)) ia ib t lo (omega (arith, sum)) in
      omega (arith, here, depth_ge n A B u)

  -- i stands before j, and the least depth between them tells the sum along the path from i to j
  pub record Meets (Z : Tree) (i j : ℕ) : Type 0 where
    pub in_order : place i < place j
    pub sum : (m : ℕ) → LeastBetween depths (place i) (place j) m → above i + above j + m ≡ path_sum n Z i j + whole

  -- two leaves that meet in a node
  crossing :
      (A B : Tree) (p u w : ℕ) → Ordered (node A B) p u w → Distinct (node A B) → size A + size B ≤ n → (i j : ℕ)
      → leaves A i ≡ true → leaves B j ≡ true → above i ≤ most_sum → above j ≤ most_sum → Meets (node A B) i j
  crossing A B p u w h d l i j a b si sj = record {
    in_order = omega (arith, pi.1, pj.0);
    sum = λ m least.
        let low : m ≤ depth n A B u =
        rw (first_depth B (p + size A) (u + P (size A)) (depth n A B u) h.1)
        at (least.bound (p + size A) pi.1 pj.0) in
        let high : depth n A B u ≤ m =
        least.greatest (depth n A B u) (unfold depth in omega (arith, rest, small))
        (λ t lo hi. all t (omega (arith, pi.0)) (omega (arith, pj.1))) in
        rw (path_sum_cross n A B i j d.2 a b) (unfold depth in omega (arith, high, low, above_i, above_j));
  }
    where
      pi : (p ≤ place i) × (place i < p + size A)
      pi = place_in n place above (λ k. at depths (place k)) A p (u + P (size B)) w h.0 i a

      pj : (p + size A ≤ place j) × (place j < p + size A + size B)
      pj = place_in n place above (λ k. at depths (place k)) B (p + size A) (u + P (size A)) (depth n A B u) h.1 j b

      above_i : above i ≡ u + P (size B) + inner_sum A i
      above_i = above_in n place above (λ k. at depths (place k)) A p (u + P (size B)) w h.0 d.0 i a

      above_j : above j ≡ u + P (size A) + inner_sum B j
      above_j =
          above_in n place above (λ k. at depths (place k)) B (p + size A) (u + P (size A)) (depth n A B u) h.1
          d.1 j b

      rest : P (n - (size A + size B)) ≤ P n
      rest = P_mono (n - (size A + size B)) n (omega arith)

      all : (t : ℕ) → p < t → t < p + (size A + size B) → depth n A B u ≤ at depths t
      all =
          within_node A B p u w h l (inside A p (u + P (size B)) w h.0 (omega arith))
          (inside B (p + size A) (u + P (size A)) (depth n A B u) h.1 (omega arith))

  -- any two leaves of a tree, in one order or the other
  pub meets :
      (Z : Tree) (p u w : ℕ) → Ordered Z p u w → Distinct Z → size Z ≤ n → (i j : ℕ) → leaves Z i ≡ true
      → leaves Z j ≡ true → i ≢ j → above i ≤ most_sum → above j ≤ most_sum → Meets Z i j ⊎ Meets Z j i
  meets (leaf x) p u w h d l i j ti tj e si sj = absurd (e (leaf_eq i x ti ∙ sym (leaf_eq j x tj)))
  meets (node A B) p u w h d l i j ti tj e si sj =
      elim (or_cases (leaves A i) (leaves B i) (rw leaves_node at ti)) [
        | inl ai ↦ elim (or_cases (leaves A j) (leaves B j) (rw leaves_node at tj)) [
          | inl aj ↦
              within (λ x y ax ay. path_sum_left n A B x y ax ay) ai aj
              (meets A p (u + P (size B)) w h.0 d.0 (omega (arith, size_node A B)) i j ai aj e si sj)
          | inr bj ↦ inl (crossing A B p u w h d (omega (arith, size_node A B)) i j ai bj si sj)
        ]
        | inr bi ↦ elim (or_cases (leaves A j) (leaves B j) (rw leaves_node at tj)) [
          | inl aj ↦ inr (crossing A B p u w h d (omega (arith, size_node A B)) j i aj bi sj si)
          | inr bj ↦
              within (λ x y bx by. path_sum_right n A B x y (apart_sym A B d.2 x bx) bx by) bi bj
              (meets B (p + size A) (u + P (size A)) (depth n A B u) h.1 d.1 (omega (arith, size_node A B)) i j
              bi bj e si sj)
        ]
      ]
    where
      within :
          {X : Tree}
          → ((x y : ℕ) → leaves X x ≡ true → leaves X y ≡ true → path_sum n (node A B) x y ≡ path_sum n X x y)
          → leaves X i ≡ true → leaves X j ≡ true → Meets X i j ⊎ Meets X j i
          → Meets (node A B) i j ⊎ Meets (node A B) j i
      within same xi xj (inl m) =
          inl (record { in_order = m.in_order; sum = λ t q. rw (same i j xi xj) (m.sum t q) })
      within same xi xj (inr m) =
          inr (record { in_order = m.in_order; sum = λ t q. rw (same j i xj xi) (m.sum t q) })
