-- The cells around a node, with the new leaf n on the edge above it or on that above one of its children. Both make of
-- the node a subtree of one size, so that cells between leaves elsewhere agree; inner sums in the two subtrees differ
-- at the leaves of the other child alone, and so do the cells from there to the leaves elsewhere.
use mathlib.Core.Path.{◌≡◌, sym, ◌∙◌}
use mathlib.Core.Logic.{inl, inr, ◌≢◌}
use mathlib.Core.Bool.{true, false, ◌&&◌, ◌||◌}
use Prim.Native.Nat.{ℕ, suc, ◌+◌, ◌-◌, ◌<◌}
use native.Mathlib.Omega.{arith}
use borrow.Author.Tests.{not-true}
use Rattle.base.specs.Numbers.{between}
use Rattle.base.proofs.Bools.{bool?, never, or_left, or_right, and_is}
use Rattle.pair_counts.specs.Pairs.{P}
use Rattle.pair_counts.proofs.Pairs.{P_one, P_suc}
use Rattle.trees.specs.Trees.{Tree, leaf, node, LeafSet, leaves, size}
use Rattle.trees.specs.Quartets.{quartets}
use Rattle.trees.proofs.Trees.{leaves_node, size_leaf, size_node, Apart, apart_sym, Distinct}
use Rattle.trees.proofs.Quartets.{quartets_ij}
use Rattle.trees.proofs.BranchedPairs.{inner_sum, inner_sum_left}
use Rattle.trees.proofs.PathSums.{path_sum, path_sum_left}
use Rattle.grafted_cells.specs.inner.Moves.{beyond}
use Rattle.grafted_cells.proofs.Places.{Side, beside, Place, elsewhere, leaves_beside, own_in, brother_in}
use Rattle.grafted_cells.proofs.Places.{size_beside, distinct_beside, elsewhere_is, size_placed, distinct_placed}
use Rattle.grafted_cells.proofs.PlaceSums.{inner_sum_beside, inner_sum_brother, path_sum_beside}
use Rattle.grafted_cells.proofs.PlaceSums.{path_sum_brother, path_sum_across}
use Rattle.grafted_cells.proofs.PlacedCells.{Stands, cells_here, cells_out, cells_elsewhere}

-- i is in one of two sets and j in the other
between_is : (E F : LeafSet) (i j : ℕ) → E i ≡ true → F j ≡ true → between E F i j ≡ true
unfolding between
between_is E F i j p q = or_left _ _ (and_is _ _ p q)

between_turned : (E F : LeafSet) (i j : ℕ) → E j ≡ true → F i ≡ true → between E F i j ≡ true
unfolding between
between_turned E F i j p q = or_right (E i && F j) _ (and_is _ _ p q)

-- where a leaf stands: in A, in B, or in neither
data Part (A B : Tree) (k : ℕ) : Type 0 where
  in_a : leaves A k ≡ true → Part A B k
  in_b : leaves B k ≡ true → Part A B k
  in_neither : beyond A B k ≡ true → Part A B k

part : (A B : Tree) (k : ℕ) → Part A B k
unfolding beyond
part A B k = elim (bool? (leaves A k)) [
  | inl a ↦ in_a a
  | inr a ↦ elim (bool? (leaves B k)) [ inl b ↦ in_b b | inr b ↦ in_neither (rw (a, b)) ]
]

-- leaf n put on above a subtree: the leaves stay, and nothing is added to their inner sums
more_in : (n : ℕ) (Z : Tree) (i : ℕ) → leaves Z i ≡ true → leaves (node Z (leaf n)) i ≡ true
more_in n Z i q = leaves_node i Z (leaf n) ∙ or_left _ _ q

size_more : (n : ℕ) (Z : Tree) → size (node Z (leaf n)) ≡ suc (size Z)
size_more n Z = omega (arith, size_node Z (leaf n), size_leaf n)

inner_sum_more :
    (n : ℕ) (Z : Tree) (i : ℕ) → Apart Z (leaf n) → leaves Z i ≡ true → inner_sum (node Z (leaf n)) i ≡ inner_sum Z i
inner_sum_more n Z i r q = inner_sum_left Z (leaf n) i q (r i q) ∙ rw (size_leaf n, P_one) (omega arith)

-- A node has the child A on the side s and the child B on the other. Leaf n is on the edge above the node, or above A.
module _ (n : ℕ) (s : Side) (A B : Tree) where
  abbrev Z : Tree
  Z = beside s B A

  abbrev A' : Tree
  A' = node A (leaf n)

  abbrev on_node : Tree
  on_node = node (beside s B A) (leaf n)

  abbrev on_child : Tree
  on_child = beside s B (node A (leaf n))

  same_size : size on_child ≡ size on_node
  same_size = omega (arith, size_more n Z, size_more n A, size_beside s B A, size_beside s B A')

  -- The node stands at a place of T, X has the leaf on the edge above it, and Y has it on that above A.
  module _ {T X Y : Tree} {o : Place} (old : Stands n T o Z) (upper : Stands (n + 1) X o on_node)
      (lower : Stands (n + 1) Y o on_child) where
    apart : Apart A B
    apart = (distinct_beside s B A (distinct_placed o Z old.distinct)).2

    apart_new : Apart Z (leaf n)
    apart_new = (distinct_placed o on_node upper.distinct).2

    parts : Distinct A' × Distinct B × Apart A' B
    parts = distinct_beside s B A' (distinct_placed o on_child lower.distinct)

    not_a : (i : ℕ) → leaves B i ≡ true → leaves A' i ≡ false
    not_a = apart_sym A' B parts.2

    away : (k : ℕ) → k < n → beyond A B k ≡ true → elsewhere o k ≡ true
    unfolding beyond
    away k l h = elsewhere_is o Z k (old.all k l) (leaves_beside s B A k ∙ not-true (leaves A k || leaves B k) h)

    -- between leaves of the node: the leaf above it is on no path
    upper_here :
        (i j : ℕ) → leaves Z i ≡ true → leaves Z j ≡ true → i ≢ j → quartets (n + 1) X i j ≡ path_sum (n + 1) Z i j
    upper_here i j p q d =
        cells_here upper i j (more_in n Z i p) (more_in n Z j q) d ∙ path_sum_left (n + 1) Z (leaf n) i j p q

    -- from the node to a leaf elsewhere
    upper_out :
        (i k : ℕ) → leaves Z i ≡ true → elsewhere o k ≡ true → quartets (n + 1) X i k ≡ quartets n T i k
    upper_out i k p u =
        omega (
          arith,
          cells_out old upper i i k (omega (arith, size_more n Z)) p (more_in n Z i p) u,
          inner_sum_more n Z i apart_new p,
        )

    lower_out :
        (i k : ℕ) → leaves Z i ≡ true → leaves on_child i ≡ true → elsewhere o k ≡ true
        → quartets (n + 1) Y i k + inner_sum Z i ≡ quartets n T i k + inner_sum on_child i
    lower_out i k p q u = cells_out old lower i i k (omega (arith, same_size, size_more n Z)) p q u

    -- Between A and B: a path has one leaf more outside the node where the leaf is above it.
    pub cells_inside :
        (i j : ℕ) → leaves A i ≡ true → leaves B j ≡ true
        → (quartets (n + 1) X i j ≡ quartets n T i j + (n - (size A + size B)))
        × (quartets (n + 1) Y i j ≡ quartets n T i j)
    cells_inside i j a b = (upper_cell, lower_cell)
      where
        in_i : leaves Z i ≡ true
        in_i = own_in s B A i a

        in_j : leaves Z j ≡ true
        in_j = brother_in s B A j b

        d : i ≢ j
        d e = never b (rw e at (apart i a))

        old_cell : quartets n T i j ≡ P (n - (size A + size B)) + (inner_sum A i + inner_sum B j)
        old_cell = cells_here old i j in_i in_j d ∙ path_sum_across n s B A i j apart a b

        one_more : n + 1 - (size A + size B) ≡ suc (n - (size A + size B))
        one_more = omega (arith, size_beside s B A, size_placed o Z, old.many)

        upper_cell : quartets (n + 1) X i j ≡ quartets n T i j + (n - (size A + size B))
        upper_cell =
            upper_here i j in_i in_j d
            ∙ path_sum_across (n + 1) s B A i j apart a b
            ∙ rw (one_more, P_suc (n - (size A + size B))) (omega (arith, old_cell))

        as_many : n + 1 - (size A' + size B) ≡ n - (size A + size B)
        as_many = omega (arith, size_more n A)

        lower_cell : quartets (n + 1) Y i j ≡ quartets n T i j
        lower_cell =
            let a' = more_in n A i a in
            cells_here lower i j (own_in s B A' i a') (brother_in s B A' j b) d
            ∙ path_sum_across (n + 1) s B A' i j parts.2 a' b
            ∙ rw (as_many, inner_sum_more n A i parts.0.2 a) (sym old_cell)

    -- From B to the leaves beyond: the branch A is one leaf larger where the leaf is above it.
    pub cells_outside :
        (i j : ℕ) → leaves B i ≡ true → j < n → beyond A B j ≡ true
        → (quartets (n + 1) X i j ≡ quartets n T i j) × (quartets (n + 1) Y i j ≡ quartets n T i j + size A)
    cells_outside i j b l h =
        let in_i = brother_in s B A i b in
        let larger : P (size A') ≡ P (size A) + size A = rw (size_more n A) (P_suc (size A)) in (
          upper_out i j in_i (away j l h),
          omega (
            arith,
            lower_out i j in_i (brother_in s B A' i b) (away j l h),
            inner_sum_brother s B A i (apart_sym A B apart i b) b,
            inner_sum_brother s B A' i (not_a i b) b,
          ),
        )

    -- All other cells agree.
    same_a :
        (i j : ℕ) → leaves A i ≡ true → leaves A j ≡ true → i ≢ j → quartets (n + 1) Y i j ≡ quartets (n + 1) X i j
    same_a i j p q d =
        let p' = more_in n A i p in
        let q' = more_in n A j q in
        cells_here lower i j (own_in s B A' i p') (own_in s B A' j q') d
        ∙ path_sum_beside (n + 1) s B A' i j (apart i p) p' q'
        ∙ path_sum_left (n + 1) A (leaf n) i j p q
        ∙ sym (upper_here i j (own_in s B A i p) (own_in s B A j q) d
        ∙ path_sum_beside (n + 1) s B A i j (apart i p) p q)

    same_b :
        (i j : ℕ) → leaves B i ≡ true → leaves B j ≡ true → i ≢ j → quartets (n + 1) Y i j ≡ quartets (n + 1) X i j
    same_b i j p q d =
        cells_here lower i j (brother_in s B A' i p) (brother_in s B A' j q) d
        ∙ path_sum_brother (n + 1) s B A' i j (not_a i p) p q
        ∙ sym (upper_here i j (brother_in s B A i p) (brother_in s B A j q) d
        ∙ path_sum_brother (n + 1) s B A i j (apart_sym A B apart i p) p q)

    same_out :
        (i k : ℕ) → leaves A i ≡ true → elsewhere o k ≡ true → quartets (n + 1) Y i k ≡ quartets (n + 1) X i k
    same_out i k p u =
        let p' = more_in n A i p in
        omega (
          arith,
          lower_out i k (own_in s B A i p) (own_in s B A' i p') u,
          upper_out i k (own_in s B A i p) u,
          inner_sum_beside s B A i p (apart i p),
          inner_sum_beside s B A' i p' (apart i p),
          inner_sum_more n A i parts.0.2 p,
        )

    same_by_parts :
        {i j : ℕ} → Part A B i → Part A B j → i < n → j < n → i ≢ j → between (leaves A) (leaves B) i j ≡ false
        → between (leaves B) (beyond A B) i j ≡ false → quartets (n + 1) Y i j ≡ quartets (n + 1) X i j
    same_by_parts {i} {j} (in_a p) (in_a q) li lj d ab bo = same_a i j p q d
    same_by_parts {i} {j} (in_a p) (in_b q) li lj d ab bo =
        absurd (never (between_is (leaves A) (leaves B) i j p q) ab)
    same_by_parts {i} {j} (in_a p) (in_neither q) li lj d ab bo = same_out i j p (away j lj q)
    same_by_parts {i} {j} (in_b p) (in_a q) li lj d ab bo =
        absurd (never (between_turned (leaves A) (leaves B) i j q p) ab)
    same_by_parts {i} {j} (in_b p) (in_b q) li lj d ab bo = same_b i j p q d
    same_by_parts {i} {j} (in_b p) (in_neither q) li lj d ab bo =
        absurd (never (between_is (leaves B) (beyond A B) i j p q) bo)
    same_by_parts {i} {j} (in_neither p) (in_a q) li lj d ab bo =
        quartets_ij (n + 1) Y i j ∙ same_out j i q (away i li p) ∙ quartets_ij (n + 1) X j i
    same_by_parts {i} {j} (in_neither p) (in_b q) li lj d ab bo =
        absurd (never (between_turned (leaves B) (beyond A B) i j q p) bo)
    same_by_parts {i} {j} (in_neither p) (in_neither q) li lj d ab bo =
        cells_elsewhere lower upper same_size i j (away i li p) (away j lj q) d

    pub cells_same :
        (i j : ℕ) → i < n → j < n → i ≢ j → between (leaves A) (leaves B) i j ≡ false
        → between (leaves B) (beyond A B) i j ≡ false → quartets (n + 1) Y i j ≡ quartets (n + 1) X i j
    cells_same i j = same_by_parts (part A B i) (part A B j)
