-- Leaves taken away: each leaf that stays stands as often as before, no other stands, and four that stay are paired as
-- before. The idea: a node that gives way had nothing on one side that stays, so its edge is that of the child that
-- stands in its place.
use mathlib.Core.Path.{◌≡◌, refl, ◌∙◌}
use mathlib.Core.Logic.{inl, inr}
use mathlib.Core.Bool.{Bool, true, false, ◌&&◌, ◌||◌, or-false, or_comm}
use Prim.Native.Nat.{ℕ}
use native.Mathlib.Omega.{arith}
use borrow.Author.Tests.{eqb-true}
use lib.Dec.{ltb, eqb}
use Rattle.base.specs.Numbers.{indicator}
use Rattle.base.proofs.Bools.{bool?, never, is_false, or_left, or_right, or_neither, or_absorb, and_both}
use Rattle.base.proofs.Counts.{indicator_none, indicator_add}
use Rattle.trees.specs.Trees.{Tree, leaf, node, LeafSet, leaves, occurrences}
use Rattle.trees.specs.Quartets.{separates, paired}
use Rattle.trees.proofs.Trees.{leaves_node, leaf_has, occurs_leaves}
use Rattle.trees.proofs.Subtrees.{sub_of, the_edge}
use Rattle.trees.proofs.Quartets.{separates_at, separates_ext, paired_node, paired_root}
use Rattle.spanned_trees.specs.Spans.{meets, kept}

-- Pairing beside a subtree that has none of the four leaves.
separates_none : (e : LeafSet) (i j p q : ℕ) → e i ≡ false → e p ≡ false → separates e i j p q ≡ false
unfolding separates
separates_none e i j p q a b = rw (a, b)

paired_none : (T : Tree) (i j p q : ℕ) → leaves T i ≡ false → leaves T p ≡ false → paired T i j p q ≡ false
unfolding paired
paired_none T i j p q a b = is_false _ (λ t.
    let x = the_edge (λ e. separates e i j p q) T t in
    let none : (k : ℕ) → leaves T k ≡ false → leaves x.0 k ≡ false =
    λ k f. is_false _ (λ h. never (sub_of T x.0 x.1 k h) f) in
    never x.2 (separates_none (leaves x.0) i j p q (none i a) (none p b)))

beside :
    (A B : Tree) (i j p q : ℕ) → leaves B i ≡ false → leaves B j ≡ false → leaves B p ≡ false → leaves B q ≡ false
    → paired (node A B) i j p q ≡ paired A i j p q
beside A B i j p q a b c d =
    rw (paired_node A B i j p q, paired_none B i j p q a c, or-false (paired A i j p q), same)
    (or_comm (separates (leaves A) i j p q) (paired A i j p q) ∙ or_absorb _ _ (paired_root A i j p q))
  where
    at : (k : ℕ) → leaves B k ≡ false → leaves (node A B) k ≡ leaves A k
    at k h = rw (leaves_node k A B, h) (or-false (leaves A k))

    same : separates (leaves (node A B)) i j p q ≡ separates (leaves A) i j p q
    same = separates_at (leaves (node A B)) (leaves A) (at i a) (at j b) (at p c) (at q d)

paired_swap : (A B : Tree) (i j p q : ℕ) → paired (node A B) i j p q ≡ paired (node B A) i j p q
paired_swap A B i j p q =
    rw (
      paired_node A B i j p q,
      paired_node B A i j p q,
      or_comm (paired A i j p q) (paired B i j p q),
      separates_ext (leaves (node A B)) (leaves (node B A)) i j p q (λ k.
          rw (leaves_node k A B, leaves_node k B A) (or_comm (leaves A k) (leaves B k))),
    )

module _ (v : LeafSet) where
  pub meets_leaf : (i : ℕ) → meets v (leaf i) ≡ v i
  unfolding meets
  meets_leaf i = refl

  pub meets_node : (A B : Tree) → meets v (node A B) ≡ (meets v A || meets v B)
  unfolding meets
  meets_node A B = refl

  -- where nothing stays, no leaf that stays stands
  meets_occurrences : (T : Tree) → meets v T ≡ false → (k : ℕ) → indicator (v k) (occurrences k T) ≡ 0
  unfolding occurrences
  meets_occurrences (leaf i) h k = elim (bool? (eqb k i)) [
    | inl t ↦ rw (eqb-true k i t, ← meets_leaf i, h)
    | inr f ↦ rw f (indicator_none (v k))
  ]
  meets_occurrences (node A B) h k =
      let r = or_neither (meets v A) (meets v B) (rw meets_node at h) in
      rw (
        indicator_add (v k) (occurrences k A) (occurrences k B),
        meets_occurrences A r.0 k,
        meets_occurrences B r.1 k,
      )

  -- the leaves of one set and of another, by how often they stand
  among : (b : Bool) (x : ℕ) → ltb 0 (indicator b x) ≡ (b && ltb 0 x)
  among true x = refl
  among false x = refl

  pub meets_none : (T : Tree) → meets v T ≡ false → (k : ℕ) → v k ≡ true → leaves T k ≡ false
  meets_none T h k t = rw (occurs_leaves T k, rw t at (meets_occurrences T h k))

  pub meets_some : (T : Tree) (k : ℕ) → v k ≡ true → leaves T k ≡ true → meets v T ≡ true
  meets_some T k t h = elim (bool? (meets v T)) [ inl m ↦ m | inr m ↦ absurd (never h (meets_none T m k t)) ]

  -- A node, by what stays of its children.
  pub kept_leaf : (i : ℕ) → kept v (leaf i) ≡ leaf i
  unfolding kept
  kept_leaf i = refl

  pub kept_both : (A B : Tree) → meets v A ≡ true → meets v B ≡ true → kept v (node A B) ≡ node (kept v A) (kept v B)
  unfolding kept
  kept_both A B a b = rw (a, b)

  pub kept_first : (A B : Tree) → meets v A ≡ true → meets v B ≡ false → kept v (node A B) ≡ kept v A
  unfolding kept
  kept_first A B a b = rw (a, b)

  pub kept_second : (A B : Tree) → meets v A ≡ false → kept v (node A B) ≡ kept v B
  unfolding kept
  kept_second A B a = rw a

  -- which children of a node have leaves that stay, where some leaf of it stays
  pub data Staying (A B : Tree) : Type 0 where
    both : meets v A ≡ true → meets v B ≡ true → Staying A B
    first : meets v A ≡ true → meets v B ≡ false → Staying A B
    second : meets v A ≡ false → meets v B ≡ true → Staying A B

  pub staying : (A B : Tree) → meets v (node A B) ≡ true → Staying A B
  staying A B h = elim (bool? (meets v A)) [
    | inl a ↦ elim (bool? (meets v B)) [ inl b ↦ both a b | inr b ↦ first a b ]
    | inr a ↦ second a (rw (meets_node, a) at h)
  ]

  -- each leaf that stays stands as often as before, and no other stands
  pub kept_occurrences :
      (T : Tree) → meets v T ≡ true → (k : ℕ) → occurrences k (kept v T) ≡ indicator (v k) (occurrences k T)
  unfolding occurrences
  kept_occurrences (leaf i) h k = rw (kept_leaf i) (elim (bool? (eqb k i)) [
    | inl t ↦ rw (t, eqb-true k i t, ← meets_leaf i, h)
    | inr f ↦ rw (f, indicator_none (v k))
  ])
  kept_occurrences (node A B) h k =
      rw (indicator_add (v k) (occurrences k A) (occurrences k B)) (elim (staying A B h) [
        | both a b ↦ rw (kept_both A B a b, kept_occurrences A a k, kept_occurrences B b k)
        | first a b ↦ rw (kept_first A B a b) (omega (arith, kept_occurrences A a k, meets_occurrences B b k))
        | second a b ↦ rw (kept_second A B a) (omega (arith, kept_occurrences B b k, meets_occurrences A a k))
      ])

  pub kept_leaves : (T : Tree) → meets v T ≡ true → (k : ℕ) → leaves (kept v T) k ≡ (v k && leaves T k)
  kept_leaves T h k =
      rw (occurs_leaves (kept v T) k, occurs_leaves T k, kept_occurrences T h k) (among (v k) (occurrences k T))

  -- the leaves of what stays are leaves that stay
  pub kept_stays : (T : Tree) → meets v T ≡ true → (k : ℕ) → leaves (kept v T) k ≡ true → v k ≡ true
  kept_stays T h k q = (and_both (v k) (leaves T k) (rw (kept_leaves T h k) at q)).0

  -- what stays depends on the leaves of the tree alone
  module _ (w : LeafSet) where
    abbrev Agree : Tree → Type 0
    Agree T = (k : ℕ) → leaves T k ≡ true → v k ≡ w k

    agree_first : (A B : Tree) → Agree (node A B) → Agree A
    agree_first A B e k h = e k (rw leaves_node (or_left _ _ h))

    agree_second : (A B : Tree) → Agree (node A B) → Agree B
    agree_second A B e k h = e k (rw leaves_node (or_right (leaves A k) _ h))

    meets_same : (T : Tree) → Agree T → meets v T ≡ meets w T
    unfolding meets
    meets_same (leaf i) e = e i (leaf_has i)
    meets_same (node A B) e = rw (meets_same A (agree_first A B e), meets_same B (agree_second A B e))

    pub kept_same : (T : Tree) → Agree T → kept v T ≡ kept w T
    unfolding kept
    kept_same (leaf i) e = refl
    kept_same (node A B) e =
        let a = agree_first A B e in
        let b = agree_second A B e in
        rw (meets_same A a, meets_same B b, kept_same A a, kept_same B b)

  -- Four leaves that stay are paired as before.
  module _ (i j p q : ℕ) (vi : v i ≡ true) (vj : v j ≡ true) (vp : v p ≡ true) (vq : v q ≡ true) where
    beside_none : (A B : Tree) → meets v B ≡ false → paired (node A B) i j p q ≡ paired A i j p q
    beside_none A B h =
        beside A B i j p q (meets_none B h i vi) (meets_none B h j vj) (meets_none B h p vp) (meets_none B h q vq)

    -- the edge above separates them as before
    kept_separates :
        (T : Tree) → meets v T ≡ true → separates (leaves (kept v T)) i j p q ≡ separates (leaves T) i j p q
    kept_separates T h = separates_at _ _ (at i vi) (at j vj) (at p vp) (at q vq)
      where
        at : (k : ℕ) → v k ≡ true → leaves (kept v T) k ≡ leaves T k
        at k t = rw (kept_leaves T h k, t)

    pub kept_paired : (T : Tree) → meets v T ≡ true → paired (kept v T) i j p q ≡ paired T i j p q
    kept_paired (leaf x) h = rw (kept_leaf x)
    kept_paired (node A B) h = elim (staying A B h) [
      | both a b ↦
          let edge = rw (kept_both A B a b) at (kept_separates (node A B) h) in
          rw (
            kept_both A B a b,
            paired_node (kept v A) (kept v B) i j p q,
            paired_node A B i j p q,
            kept_paired A a,
            kept_paired B b,
            edge,
          )
      | first a b ↦ rw (kept_first A B a b, beside_none A B b) (kept_paired A a)
      | second a b ↦ rw (kept_second A B a, paired_swap A B i j p q, beside_none B A a) (kept_paired B b)
    ]
