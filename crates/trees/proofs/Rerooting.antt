-- Rerooting keeps the leaves, the edges, and so the pairings and the counts; and up to order it depends on the tree
-- alone, not on the order of children. The idea: it is made of turns, each of which moves the edge at which the tree is
-- held to the next one, and what a turn keeps, rerooting keeps.
use mathlib.Core.Path.{◌≡◌, refl, sym, ◌∙◌}
use mathlib.Core.Logic.{◌⊎◌, inl, inr, ◌≢◌}
use mathlib.Core.Bool.{true, false, ◌||◌, or_comm}
use Prim.Native.Nat.{ℕ, ◌<◌}
use native.Mathlib.Omega.{arith}
use native.Mathlib.Decide.{ℕ_discrete}
use borrow.Author.Tests.{ltb-true, lt-ltb, ne_eqb}
use lib.Dec.{ltb}
use Rattle.base.proofs.Bools.{bool?, never, bool_iff, or_left, or_none, or_cases}
use Rattle.trees.specs.Trees.{Tree, leaf, node, leaves, occurrences, IsTree, least, join, ordered}
use Rattle.trees.specs.Rerooting.{IsHeld, reroot_along, rerooted}
use Rattle.trees.specs.Quartets.{separates, paired, quartets}
use Rattle.trees.proofs.Trees.{leaves_node, leaves_join, leaf_eq, least_in, least_le, Apart, apart_sym}
use Rattle.trees.proofs.Trees.{join_in_order, join_comm, join_either, apart_join, Distinct, Within}
use Rattle.trees.proofs.Trees.{ordered_leaves, ordered_apart, ordered_in_order, ordered_is, once_leaves}
use Rattle.trees.proofs.Trees.{leaves_once, tree_on, root_within, root_distinct, root_all}
use Rattle.trees.proofs.Subtrees.{In, in_whole, Part, part_in, in_part, swap, Same, same_refl, same_trans}
use Rattle.trees.proofs.Quartets.{separates_in, paired_by, quartets_ext}

-- a tree held at an edge: the statement that proofs use for `IsHeld`
pub record Held (n : ℕ) (R : Tree) : Type 0 where
  pub distinct : Distinct R
  pub within : Within n R
  pub all : (k : ℕ) → k < n → leaves R k ≡ true

pub held_on : (n : ℕ) (R : Tree) → IsHeld n R → Held n R
held_on n R h =
    let r = once_leaves R (λ k. ltb k n) h in
    record {
      distinct = r.0;
      within = λ k p. ltb-true k n (sym (r.1 k) ∙ p);
      all = λ k l. r.1 k ∙ lt-ltb k n l;
    }

pub on_held : (n : ℕ) (R : Tree) → Held n R → IsHeld n R
on_held n R w = leaves_once R (λ k. ltb k n) w.distinct (λ k.
    bool_iff _ _ (λ t. lt-ltb k n (w.within k t)) (λ t. w.all k (ltb-true k n t)))

-- a tree as it is drawn from leaf 0, held at the edge of leaf 0; rerooted it is itself
pub tree_held : (n : ℕ) (T : Tree) → 0 < n → IsTree n T → IsHeld n (node (leaf 0) T)
tree_held n T z h = on_held n (node (leaf 0) T) (record {
  distinct = root_distinct n T (tree_on n T h);
  within = root_within n T (tree_on n T h) z;
  all = root_all n T (tree_on n T h);
})

held_tree : (n : ℕ) (T : Tree) → 0 < n → IsHeld n (node (leaf 0) T) → IsTree n T
unfolding occurrences
held_tree n T z h k = elim (ℕ_discrete k 0) [
  | yes e ↦ rw e (omega (arith, rw (lt-ltb 0 n z) at (h 0)))
  | no d ↦ rw (lt-ltb 0 k (omega arith)) (omega (arith, rw (ne_eqb k 0 d) at (h k)))
]

pub rerooted_again : (T : Tree) → rerooted (node (leaf 0) T) ≡ T
unfolding rerooted reroot_along leaves
rerooted_again T = refl

-- what lay above comes first
rerooted_example :
    rerooted (node (node (leaf 2) (node (leaf 0) (leaf 1))) (leaf 3)) ≡ node (node (leaf 3) (leaf 2)) (leaf 1)
unfolding rerooted reroot_along leaves
rerooted_example = refl

-- What three turns keep, rerooting keeps: the two children of the top swapped; those of its first child; and the edge
-- at which the tree is held moved to the next one.
module _ (Q : Tree → Type 0) (flip : (A B : Tree) → Q (node A B) → Q (node B A))
    (mirror : (A A' B : Tree) → Q (node (node A A') B) → Q (node (node A' A) B))
    (turn : (A A' B : Tree) → Q (node (node A A') B) → Q (node A (node B A'))) where
  along : (A B : Tree) → leaves A 0 ≡ true → Q (node A B) → Q (node (leaf 0) (reroot_along A B))
  unfolding reroot_along
  along (leaf i) B z q = rw (leaf_eq 0 i z) q
  along (node A A') B z q = elim (bool? (leaves A 0)) [
    | inl t ↦ rw t (along A (node B A') t (turn A A' B q))
    | inr f ↦ rw f (along A' (node B A) (rw (leaves_node, f) at z) (turn A' A B (mirror A A' B q)))
  ]

  keeps : (A B : Tree) → leaves (node A B) 0 ≡ true → Q (node A B) → Q (node (leaf 0) (rerooted (node A B)))
  unfolding rerooted
  keeps A B z q = elim (bool? (leaves A 0)) [
    | inl t ↦ rw t (along A B t q)
    | inr f ↦ rw f (along B A (rw (leaves_node, f) at z) (flip A B q))
  ]

module _ (n : ℕ) where
  -- the two children of the top are the two sides of one edge
  pub held_same : (A B : Tree) → Held n (node A B) → Same n A B
  held_same A B w = inr (λ k l. elim (bool? (leaves A k)) [
    | inl a ↦ rw (a, w.distinct.2 k a)
    | inr a ↦ rw (a, rw (leaves_node, a) at (w.all k l))
  ])

  -- each edge of R is one of R'
  abbrev Sides : Tree → Tree → Type 0
  Sides R R' = (X : Tree) → Part X R → (Y : Tree) × Part Y R' × Same n X Y

  -- R' is on n leaves, and has the edges of R and no other
  abbrev Like : Tree → Tree → Type 0
  Like R R' = IsHeld n R' × Sides R R' × Sides R' R

  like_then : (R R' R'' : Tree) → Like R R' → Like R' R'' → Like R R''
  like_then R R' R'' p q = (q.0, then R R' R'' p.1 q.1, then R'' R' R q.2 p.2)
    where
      then : (R R' R'' : Tree) → Sides R R' → Sides R' R'' → Sides R R''
      then R R' R'' p q X h =
          let r = p X h in
          let t = q r.0 r.1 in
          (t.0, t.1, same_trans n X r.0 t.0 r.2 t.2)

  like_flip : (A B : Tree) → IsHeld n (node A B) → Like (node A B) (node B A)
  unfolding occurrences
  like_flip A B h = (λ k. omega (arith, h k), λ X p. (X, swap p, same_refl n X), λ X p. (X, swap p, same_refl n X))

  mirror_sides : (A A' B : Tree) → Sides (node (node A A') B) (node (node A' A) B)
  mirror_sides A A' B X h = elim h [
    | inl a ↦ elim a [
      | inl e ↦ (
        node A' A,
        inl (inl refl),
        rw e (inl (λ k l.
            rw (leaves_node k A A', leaves_node k A' A) (or_comm (leaves A k) (leaves A' k)))),
      )
      | inr x ↦ (X, inl (inr (swap x)), same_refl n X)
    ]
    | inr b ↦ (X, inr b, same_refl n X)
  ]

  like_mirror : (A A' B : Tree) → IsHeld n (node (node A A') B) → Like (node (node A A') B) (node (node A' A) B)
  unfolding occurrences
  like_mirror A A' B h = (λ k. omega (arith, h k), mirror_sides A A' B, mirror_sides A' A B)

  turn_sides : (A A' B : Tree) → IsHeld n (node (node A A') B) → Sides (node (node A A') B) (node A (node B A'))
  turn_sides A A' B g X h = elim h [
    | inl a ↦ elim a [
      | inl e ↦ (B, inr (inr (inl (in_whole B))), rw e (held_same (node A A') B (held_on n _ g)))
      | inr x ↦ elim x [ inl x' ↦ (X, inl x', same_refl n X) | inr y ↦ (X, inr (inr (inr y)), same_refl n X) ]
    ]
    | inr b ↦ (X, inr (inr (inl b)), same_refl n X)
  ]

  -- a turn back is a turn between two flips
  like_turn : (A A' B : Tree) → IsHeld n (node (node A A') B) → Like (node (node A A') B) (node A (node B A'))
  unfolding occurrences
  like_turn A A' B h = (
    λ k. omega (arith, h k),
    turn_sides A A' B h,
    λ X p. (let r = turn_sides B A' A (λ k. omega (arith, h k)) X (swap p) in (r.0, swap r.1, r.2)),
  )

  -- A tree held at an edge.
  module _ (R : Tree) (many : 1 < n) (h : IsHeld n R) where
    w : Held n R
    w = held_on n R h

    like : Like R (node (leaf 0) (rerooted R))
    like = go R h
      where
        go : (R : Tree) → IsHeld n R → Like R (node (leaf 0) (rerooted R))
        go (leaf x) g =
            let v = held_on n (leaf x) g in
            absurd (omega (arith, leaf_eq 0 x (v.all 0 (omega arith)), leaf_eq 1 x (v.all 1 many)))
        go (node A B) g =
            keeps (Like (node A B)) (λ C D q. like_then (node A B) (node C D) (node D C) q (like_flip C D q.0))
            (λ C C' D q. like_then (node A B) (node (node C C') D) (node (node C' C) D) q (like_mirror C C' D q.0))
            (λ C C' D q. like_then (node A B) (node (node C C') D) (node C (node D C')) q (like_turn C C' D q.0)) A B
            ((held_on n (node A B) g).all 0 (omega arith))
            (g, λ X p. (X, p, same_refl n X), λ X p. (X, p, same_refl n X))

    -- rerooted, it is a tree on the same leaves
    pub rerooted_tree : IsTree n (rerooted R)
    rerooted_tree = held_tree n (rerooted R) (omega arith) like.0

    -- and has the same edges: each part is a side of one, and each edge has a part for a side
    pub rerooted_side : (X : Tree) → Part X R → (Y : Tree) × In Y (rerooted R) × Same n X Y
    rerooted_side X p =
        let T = rerooted R in
        let r = like.1 X p in
        elim r.1 [
          | inl e ↦
              let top = held_same (leaf 0) T (held_on n (node (leaf 0) T) like.0) in
              (T, in_whole T, same_trans n X r.0 T r.2 (rw e top))
          | inr y ↦ (r.0, y, r.2)
        ]

    pub rerooted_part : (Y : Tree) → In Y (rerooted R) → (X : Tree) × Part X R × Same n Y X
    rerooted_part Y y = like.2 Y (inr y)

    -- so the pairings stay, and the counts
    pub rerooted_paired :
        (i j p q : ℕ) → i < n → j < n → p < n → q < n → paired (rerooted R) i j p q ≡ paired R i j p q
    rerooted_paired i j p q li lj lp lq =
        bool_iff _ _ (paired_by n (rerooted R) R i j p q li lj lp lq down)
        (paired_by n R (rerooted R) i j p q li lj lp lq up)
      where
        down : (Y : Tree) → In Y (rerooted R) → separates (leaves Y) i j p q ≡ true → (X : Tree) × In X R × Same n Y X
        down Y y t = let r = rerooted_part Y y in (r.0, part_in R r.0 r.1, r.2)

        up : (X : Tree) → In X R → separates (leaves X) i j p q ≡ true → (Y : Tree) × In Y (rerooted R) × Same n X Y
        up X x t = elim (in_part R X x) [
          | inl e ↦
              let top : separates (leaves R) i j p q ≡ false =
              separates_in (leaves R) i j p q (w.all i li) (w.all j lj) ∙ rw (w.all p lp) in
              absurd (never (rw e at t) top)
          | inr g ↦ rerooted_side X g
        ]

    pub rerooted_quartets : (i j : ℕ) → i < n → j < n → quartets n (rerooted R) i j ≡ quartets n R i j
    rerooted_quartets i j li lj =
        quartets_ext n (rerooted R) R i j (λ p q lp lq. rerooted_paired i j p q li lj lp lq)

-- Rerooting and standard order. A has leaf 0, and B has not.
abbrev ZeroIn : Tree → Tree → Type 0
ZeroIn A B = (leaves A 0 ≡ true) × (leaves B 0 ≡ false)

zero_in : (A B : Tree) → Apart A B → leaves (node A B) 0 ≡ true → ZeroIn A B ⊎ ZeroIn B A
zero_in A B r z = elim (or_cases (leaves A 0) (leaves B 0) (rw leaves_node at z)) [
  | inl a ↦ inl (a, r 0 a)
  | inr b ↦ inr (b, apart_sym A B r 0 b)
]

pub join_zero : (A B : Tree) → leaves A 0 ≡ true → leaves B 0 ≡ false → join A B ≡ node A B
join_zero A B p q = join_in_order A B (omega (arith, least_le A 0 p, not_zero))
  where
    not_zero : least B ≢ 0
    not_zero e = never (least_in B) (rw (← e) at q)

ordered_zero : (A B : Tree) → Apart A B → ZeroIn A B → ordered (node A B) ≡ node (ordered A) (ordered B)
unfolding ordered
ordered_zero A B r z =
    join_zero (ordered A) (ordered B) (ordered_leaves A 0 ∙ z.0) (ordered_leaves B 0 ∙ z.1)

node_comm : (A B : Tree) → Apart A B → ordered (node A B) ≡ ordered (node B A)
unfolding ordered
node_comm A B r = join_comm (ordered A) (ordered B) (ordered_apart A B r)

ordered_join : (A B : Tree) → Apart A B → ordered (join A B) ≡ ordered (node A B)
ordered_join A B r = elim (join_either A B) [ inl e ↦ rw e | inr e ↦ rw e (node_comm B A (apart_sym A B r)) ]

-- the order of children in the tree that is walked does not matter, and neither does that in what lies above
ordered_along :
    (A B B' : Tree) → Distinct A → leaves A 0 ≡ true → ordered B ≡ ordered B'
    → ordered (reroot_along A B) ≡ ordered (reroot_along (ordered A) B')
unfolding reroot_along
ordered_along (leaf i) B B' p z e = unfold ordered in e
ordered_along (node A A') B B' p z e = elim (zero_in A A' p.2 z) [
  | inl q ↦
      rw (ordered_zero A A' p.2 q, ordered_leaves A 0, q.0)
      (ordered_along A (node B A') (node B' (ordered A')) p.0 q.0 (above A' p.1))
  | inr q ↦
      let r = apart_sym A A' p.2 in
      rw (node_comm A A' p.2, ordered_zero A' A r q, ordered_leaves A' 0, q.0, q.1)
      (ordered_along A' (node B A) (node B' (ordered A)) p.1 q.0 (above A p.0))
]
  where
    above : (X : Tree) → Distinct X → ordered (node B X) ≡ ordered (node B' (ordered X))
    above X d = unfold ordered in rw (e, ordered_is (ordered X) (ordered_in_order X d))

along_same :
    (A B B' : Tree) → Distinct A → leaves A 0 ≡ true → ordered B ≡ ordered B'
    → ordered (reroot_along A B) ≡ ordered (reroot_along A B')
along_same A B B' p z e = ordered_along A B B' p z e ∙ sym (ordered_along A B' B' p z refl)

-- of any tree with distinct leaves that has leaf 0
pub ordered_rerooted :
    (R : Tree) → Distinct R → leaves R 0 ≡ true → ordered (rerooted R) ≡ ordered (rerooted (ordered R))
unfolding rerooted
ordered_rerooted (leaf i) p z = unfold ordered in refl
ordered_rerooted (node A B) p z = elim (zero_in A B p.2 z) [
  | inl q ↦
      rw (ordered_zero A B p.2 q, ordered_leaves A 0, q.0)
      (ordered_along A B (ordered B) p.0 q.0 (again B p.1))
  | inr q ↦
      let r = apart_sym A B p.2 in
      rw (node_comm A B p.2, ordered_zero B A r q, ordered_leaves B 0, q.0, q.1)
      (ordered_along B A (ordered A) p.1 q.0 (again A p.0))
]
  where
    again : (X : Tree) → Distinct X → ordered X ≡ ordered (ordered X)
    again X d = sym (ordered_is (ordered X) (ordered_in_order X d))

-- Three subtrees around a node: whichever two are joined first, the rerooted tree is the same.
three_first :
    (A B D : Tree) → leaves A 0 ≡ true → leaves B 0 ≡ false → leaves D 0 ≡ false
    → rerooted (join (join A B) D) ≡ reroot_along A (node D B)
unfolding rerooted reroot_along leaves
three_first A B D a b d = rw (join_zero A B a b, join_zero (node A B) D (or_left _ _ a) d, a)

three_last :
    (A B D : Tree) → leaves A 0 ≡ false → leaves B 0 ≡ false → leaves D 0 ≡ true → Apart A D → Apart B D
    → rerooted (join (join A B) D) ≡ reroot_along D (join A B)
unfolding rerooted
three_last A B D a b d ad bd =
    let none = leaves_join 0 A B ∙ or_none _ _ a b in
    rw (join_comm (join A B) D (apart_join A B D ad bd), join_zero D (join A B) d none, d)

three_middle :
    (A B D : Tree) → Distinct B → Apart A B → Apart A D → Apart B D → leaves B 0 ≡ true
    → ordered (rerooted (join (join A B) D)) ≡ ordered (rerooted (join (join A D) B))
three_middle A B D p ab ad bd b =
    let a = apart_sym A B ab 0 b in
    let d = bd 0 b in
    rw (join_comm A B ab, three_first B A D b a d, three_last A D B a d b ab (apart_sym B D bd))
    (along_same B (node D A) (join A D) p b (node_comm D A (apart_sym A D ad) ∙ sym (ordered_join A D ad)))

pub rerooted_three :
    (A B D : Tree) → Distinct A → Distinct B → Distinct D → Apart A B → Apart A D → Apart B D
    → ((leaves A 0 || leaves B 0) || leaves D 0) ≡ true
    → ordered (rerooted (join (join A B) D)) ≡ ordered (rerooted (join (join A D) B))
rerooted_three A B D pa pb pd ab ad bd z = elim (or_cases (leaves A 0 || leaves B 0) (leaves D 0) z) [
  | inl z' ↦ elim (or_cases (leaves A 0) (leaves B 0) z') [
    | inl a ↦
        rw (three_first A B D a (ab 0 a) (ad 0 a), three_first A D B a (ad 0 a) (ab 0 a))
        (along_same A (node D B) (node B D) pa a (node_comm D B (apart_sym B D bd)))
    | inr b ↦ three_middle A B D pb ab ad bd b
  ]
  | inr d ↦ sym (three_middle A D B pd ad ab (apart_sym B D bd) d)
]
