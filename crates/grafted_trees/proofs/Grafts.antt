-- Grafting: the new tree is a tree on one leaf more, four old leaves are paired as before, it is in standard order
-- already, and different edges give different trees. The idea: of the old leaves, the new tree has the old subtrees.
use mathlib.Core.Path.{◌≡◌, refl, sym, ◌∙◌}
use mathlib.Core.Logic.{inl, inr, ◌≢◌}
use mathlib.Core.Bool.{Bool, true, false, or_comm, or-false}
use Prim.Native.Nat.{ℕ, ◌+◌, ◌-◌, ◌≤◌, ◌<◌}
use native.Mathlib.Omega.{arith}
use native.Mathlib.Decide.{dec_lt, ℕ_discrete}
use borrow.Author.Tests.{lt-ltb, le-ltb, ne_eqb, eqb-true}
use lib.Dec.{eqb}
use Rattle.base.specs.Numbers.{indicator}
use Rattle.base.proofs.Bools.{bool?, never, is_false, or_neither, or_absorb, eqb_same}
use Rattle.base.proofs.Counts.{indicator_none, indicator_add, no_indicator}
use Rattle.limits.specs.Limits.{most_leaves}
use Rattle.trees.specs.Trees.{Tree, leaf, node, leaves, size, occurrences, IsTree, least, ordered}
use Rattle.trees.specs.Listings.{number_in, standard}
use Rattle.trees.specs.Quartets.{separates, paired, pairing}
use Rattle.trees.proofs.Trees.{leaves_leaf, leaves_node, leaf_has, size_node, least_in, occurrences_node, InOrder}
use Rattle.trees.proofs.Trees.{Within, within_left, within_right, ordered_is, tree_on, Drawn, ordered_drawn}
use Rattle.trees.proofs.Trees.{ordered_tree}
use Rattle.trees.proofs.Listings.{standard_ordered}
use Rattle.trees.proofs.Quartets.{paired_leaf, paired_node, paired_root, ordered_paired}
use Rattle.grafted_trees.specs.Grafts.{names_edge, put_on, with_leaf, grafted}
use Rattle.grafted_trees.specs.inner.EdgeNumbers.{edges_at}
use Rattle.grafted_trees.proofs.EdgeNumbers.{edge_once, edge_none}

-- The new leaf stands once for each edge of that number, and every other leaf as before.
put_on_occurrences :
    (b : Bool) (x : ℕ) (T : Tree) (k : ℕ)
    → occurrences k (put_on b x T) ≡ indicator (eqb k x) (indicator b 1) + occurrences k T
unfolding put_on occurrences
put_on_occurrences true x T k = omega arith
put_on_occurrences false x T k = rw indicator_none (omega arith)

with_leaf_occurrences :
    (x e : ℕ) (T : Tree) (r k : ℕ)
    → occurrences k (with_leaf x e T r) ≡ indicator (eqb k x) (edges_at e T r) + occurrences k T
unfolding with_leaf edges_at
with_leaf_occurrences x e (leaf i) r k = put_on_occurrences (eqb e i) x (leaf i) k
with_leaf_occurrences x e (node A B) r k =
    let r' = r + size A - 1 in
    let here = eqb e (number_in (node A B) r) in
    let A' = with_leaf x e A r in
    let B' = with_leaf x e B r' in
    rw (
      indicator_add (eqb k x) (indicator here 1) (edges_at e A r + edges_at e B r'),
      indicator_add (eqb k x) (edges_at e A r) (edges_at e B r'),
    )
    (omega (
      arith,
      put_on_occurrences here x (node A' B') k,
      occurrences_node k A' B',
      occurrences_node k A B,
      with_leaf_occurrences x e A r k,
      with_leaf_occurrences x e B r' k,
    ))

-- and a leaf more for each
put_on_size : (b : Bool) (x : ℕ) (T : Tree) → size (put_on b x T) ≡ size T + indicator b 1
unfolding put_on size
put_on_size true x T = refl
put_on_size false x T = omega arith

pub with_leaf_size : (x e : ℕ) (T : Tree) (r : ℕ) → size (with_leaf x e T r) ≡ size T + edges_at e T r
unfolding with_leaf edges_at
with_leaf_size x e (leaf i) r = put_on_size (eqb e i) x (leaf i)
with_leaf_size x e (node A B) r =
    let r' = r + size A - 1 in
    let A' = with_leaf x e A r in
    let B' = with_leaf x e B r' in
    omega (
      arith,
      put_on_size (eqb e (number_in (node A B) r)) x (node A' B'),
      size_node A' B',
      size_node A B,
      with_leaf_size x e A r,
      with_leaf_size x e B r',
    )

-- where no edge has the number, nothing changes
pub with_leaf_none : (x e : ℕ) (T : Tree) (r : ℕ) → edges_at e T r ≡ 0 → with_leaf x e T r ≡ T
unfolding with_leaf edges_at put_on
with_leaf_none x e (leaf i) r h = rw (no_indicator (eqb e i) h)
with_leaf_none x e (node A B) r h =
    let not_here = no_indicator (eqb e (number_in (node A B) r)) (omega arith) in
    rw (not_here, with_leaf_none x e A r (omega arith), with_leaf_none x e B (r + size A - 1) (omega arith))

-- a subtree has its own edge; on it, the leaf stands beside the subtree, if no other edge has that number
pub own_edge : (A : Tree) (r : ℕ) → 1 ≤ edges_at (number_in A r) A r
unfolding edges_at number_in
own_edge (leaf i) r = rw (eqb_same i) (omega arith)
own_edge (node A B) r = rw (eqb_same (r + (size A + size B) - 2)) (omega arith)

pub put_above :
    (x : ℕ) (A : Tree) (r : ℕ) → edges_at (number_in A r) A r ≡ 1
    → with_leaf x (number_in A r) A r ≡ node A (leaf x)
unfolding edges_at number_in with_leaf put_on
put_above x (leaf i) r h = rw (eqb_same i)
put_above x (node A B) r h =
    let e = r + (size A + size B) - 2 in
    let none = rw (eqb_same e) at h in
    rw (
      eqb_same e,
      with_leaf_none x e A r (omega (arith, none)),
      with_leaf_none x e B (r + size A - 1) (omega (arith, none)),
    )

-- equal nodes have equal children, and no node is a leaf
node_first : (A B C D : Tree) → node A B ≡ node C D → A ≡ C
node_first A B C D h = cc

node_second : (A B C D : Tree) → node A B ≡ node C D → B ≡ D
node_second A B C D h = cc

leaf_not_node : (i : ℕ) (A B : Tree) → node A B ≡ leaf i → ⊥
leaf_not_node i A B h = let z : ◌≡◌ {A = ℕ} 0 1 = cc in omega arith

-- Leaf x put on a subtree: what other leaves see of it.
module _ (x : ℕ) where
  put_on_leaves : (b : Bool) (T : Tree) (k : ℕ) → k ≢ x → leaves (put_on b x T) k ≡ leaves T k
  unfolding put_on
  put_on_leaves true T k d = rw (leaves_node, leaves_leaf, ne_eqb k x d) (or-false _)
  put_on_leaves false T k d = refl

  pub with_leaf_leaves :
      (e : ℕ) (T : Tree) (r k : ℕ) → k ≢ x → leaves (with_leaf x e T r) k ≡ leaves T k
  unfolding with_leaf
  with_leaf_leaves e (leaf i) r k d = put_on_leaves (eqb e i) (leaf i) k d
  with_leaf_leaves e (node A B) r k d =
      let r' = r + size A - 1 in
      put_on_leaves (eqb e (number_in (node A B) r)) (node (with_leaf x e A r) (with_leaf x e B r')) k d
      ∙ rw (leaves_node, with_leaf_leaves e A r k d, with_leaf_leaves e B r' k d, leaves_node)

  -- Four other leaves are paired as before.
  module _ (i j p q : ℕ) (di : i ≢ x) (dj : j ≢ x) (dp : p ≢ x) (dq : q ≢ x) where
    -- an edge separates them as another does that has the same of them on a side
    separates_others :
        (X Y : Tree) → ((k : ℕ) → k ≢ x → leaves X k ≡ leaves Y k)
        → separates (leaves X) i j p q ≡ separates (leaves Y) i j p q
    unfolding separates
    separates_others X Y h = rw (h i di, h j dj, h p dp, h q dq)

    put_on_paired : (b : Bool) (T : Tree) → paired (put_on b x T) i j p q ≡ paired T i j p q
    unfolding put_on
    put_on_paired true T =
        rw (
          paired_node T (leaf x) i j p q,
          separates_others (node T (leaf x)) T (put_on_leaves true T),
          paired_leaf x i j p q,
          alone,
          or-false (paired T i j p q),
          or_comm (separates (leaves T) i j p q) (paired T i j p q),
        )
        (or_absorb (paired T i j p q) (separates (leaves T) i j p q) (paired_root T i j p q))
      where
        alone : separates (leaves (leaf x)) i j p q ≡ false
        alone = unfold separates leaves in rw (ne_eqb i x di, ne_eqb p x dp)
    put_on_paired false T = refl

    pub with_leaf_paired : (e : ℕ) (T : Tree) (r : ℕ) → paired (with_leaf x e T r) i j p q ≡ paired T i j p q
    unfolding with_leaf
    with_leaf_paired e (leaf k) r = put_on_paired (eqb e k) (leaf k)
    with_leaf_paired e (node A B) r =
        let r' = r + size A - 1 in
        let A' = with_leaf x e A r in
        let B' = with_leaf x e B r' in
        put_on_paired (eqb e (number_in (node A B) r)) (node A' B')
        ∙ rw (
          paired_node A' B' i j p q,
          separates_others (node A' B') (node A B)
              (λ k d. rw (leaves_node, with_leaf_leaves e A r k d, with_leaf_leaves e B r' k d, leaves_node)),
          with_leaf_paired e A r,
          with_leaf_paired e B r',
          paired_node A B i j p q,
        )

  -- Different numbers put it on different edges: the new leaf alone is no subtree that had leaves.
  not_alone : (e : ℕ) (B : Tree) (r : ℕ) → leaves B x ≡ false → with_leaf x e B r ≡ leaf x → ⊥
  not_alone e B r h eq =
      let old : least B ≢ x = λ d. never (least_in B) (rw d h) in
      let there = with_leaf_leaves e B r (least B) old ∙ least_in B in
      never (rw eq at there) (rw leaves_leaf (ne_eqb (least B) x old))

  some_edge : (b : Bool) → 1 ≤ indicator b 1 → b ≡ true
  some_edge true h = refl
  some_edge false h = absurd (omega arith)

  pub with_leaf_once :
      (e e' : ℕ) (T : Tree) (r : ℕ) → leaves T x ≡ false → 1 ≤ edges_at e T r
      → with_leaf x e T r ≡ with_leaf x e' T r → e ≡ e'
  unfolding with_leaf edges_at put_on
  with_leaf_once e e' (leaf i) r h m eq = elim (bool? (eqb e' i)) [
    | inl t ↦ eqb-true e i here ∙ sym (eqb-true e' i t)
    | inr f ↦ absurd (leaf_not_node i (leaf i) (leaf x) (rw (here, f) at eq))
  ]
    where
      here : eqb e i ≡ true
      here = some_edge (eqb e i) m
  with_leaf_once e e' (node A B) r h m eq = elim (bool? (eqb e N)) [
    | inl t ↦ elim (bool? (eqb e' N)) [
      | inl t' ↦ eqb-true e N t ∙ sym (eqb-true e' N t')
      | inr f' ↦ absurd (not_alone e' B r' o.1 (sym (node_second _ _ _ _ (rw (t, f') at eq))))
    ]
    | inr f ↦ elim (bool? (eqb e' N)) [
      | inl t' ↦ absurd (not_alone e B r' o.1 (node_second _ _ _ _ (rw (f, t') at eq)))
      | inr f' ↦ elim (dec_lt 0 (edges_at e A r)) [
        | yes l ↦ with_leaf_once e e' A r o.0 l (node_first _ _ _ _ (rw (f, f') at eq))
        | no g ↦
            with_leaf_once e e' B r' o.1 (omega (arith, (rw f at m))) (node_second _ _ _ _ (rw (f, f') at eq))
      ]
    ]
  ]
    where
      N : ℕ
      N = number_in (node A B) r

      r' : ℕ
      r' = r + size A - 1

      o : (leaves A x ≡ false) × (leaves B x ≡ false)
      o = or_neither (leaves A x) (leaves B x) (rw leaves_node at h)

-- The new leaf has the greatest number, so a tree in standard order stays in standard order.
put_on_in_order :
    (b : Bool) (x : ℕ) (T : Tree) → InOrder T → least T < x
    → InOrder (put_on b x T) × (least (put_on b x T) ≡ least T)
unfolding put_on least
put_on_in_order true x T a l = ((a, tt, l), rw (lt-ltb (least T) x l))
put_on_in_order false x T a l = (a, refl)

pub with_leaf_in_order :
    (x e : ℕ) (T : Tree) (r : ℕ) → InOrder T → Within x T
    → InOrder (with_leaf x e T r) × (least (with_leaf x e T r) ≡ least T)
unfolding with_leaf least
with_leaf_in_order x e (leaf i) r a w = put_on_in_order (eqb e i) x (leaf i) tt (w i (leaf_has i))
with_leaf_in_order x e (node A B) r a w =
    let r' = r + size A - 1 in
    let p = with_leaf_in_order x e A r a.0 (within_left x A B w) in
    let q = with_leaf_in_order x e B r' a.1 (within_right x A B w) in
    let A' = with_leaf x e A r in
    let B' = with_leaf x e B r' in
    let same : least (node A' B') ≡ least (node A B) = rw (p.1, q.1) in
    let less : least (node A' B') < x = rw same (w (least (node A B)) (least_in (node A B))) in
    let first : least A' < least B' = rw (p.1, q.1) a.2 in
    let r'' = put_on_in_order (eqb e (number_in (node A B) r)) x (node A' B') (p.0, q.0, first) less in
    (r''.0, r''.1 ∙ same)

-- A tree on n leaves, and leaf n put on it.
module _ (n : ℕ) (T : Tree) (big : 3 ≤ n) (h : IsTree n T) where
  drawn : Drawn n (ordered T)
  drawn = ordered_drawn n T (tree_on n T h)

  -- leaf n is new
  pub new_leaf : leaves (ordered T) n ≡ false
  new_leaf = is_false (leaves (ordered T) n) (λ t. omega (arith, drawn.only n t))

  -- the grafted tree is a tree on one leaf more
  pub grafted_tree : (e : ℕ) → names_edge n e ≡ true → IsTree (n + 1) (grafted n T e)
  unfolding grafted
  grafted_tree e s k =
      with_leaf_occurrences n e (ordered T) n k
      ∙ rw (edge_once n T big h e s, ordered_tree n T h k)
      (elim (ℕ_discrete k n) [
        | yes d ↦ rw (d, eqb_same n, lt-ltb 0 n (omega arith), le-ltb n n (omega arith), lt-ltb n (n + 1) (omega arith))
        | no d ↦ rw (ne_eqb k n d) (elim (dec_lt k n) [
          | yes l ↦ rw (lt-ltb k n l, lt-ltb k (n + 1) (omega arith)) (omega arith)
          | no g ↦ rw (le-ltb k n (omega arith), le-ltb k (n + 1) (omega arith)) (omega arith)
        ])
      ])

  -- where the number names no edge, nothing is grafted
  pub grafted_none : (e : ℕ) → names_edge n e ≡ false → grafted n T e ≡ ordered T
  unfolding grafted
  grafted_none e s = with_leaf_none n e (ordered T) n (edge_none n T big h e s)

  -- it is in standard order already
  pub grafted_ordered : (e : ℕ) → ordered (grafted n T e) ≡ grafted n T e
  unfolding grafted
  grafted_ordered e =
      let in_order = with_leaf_in_order n e (ordered T) n drawn.in_order (λ k p. (drawn.only k p).1) in
      ordered_is (with_leaf n e (ordered T) n) in_order.0

  -- different edges give different trees
  pub grafted_once : (e e' : ℕ) → names_edge n e ≡ true → grafted n T e ≡ grafted n T e' → e ≡ e'
  unfolding grafted
  grafted_once e e' s eq =
      with_leaf_once n e e' (ordered T) n new_leaf (omega (arith, edge_once n T big h e s)) eq

  -- and different standard listings
  pub grafted_listing_once :
      (e e' : ℕ) → n + 1 ≤ most_leaves → names_edge n e ≡ true → names_edge n e' ≡ true
      → standard (n + 1) (grafted n T e) ≡ standard (n + 1) (grafted n T e') → e ≡ e'
  grafted_listing_once e e' room s s' eq =
      let same = standard_ordered (n + 1) (omega arith, room) (grafted n T e) (grafted n T e') (grafted_tree e s)
      (grafted_tree e' s') eq in
      grafted_once e e' s (sym (grafted_ordered e) ∙ same ∙ grafted_ordered e')

-- four old leaves are paired as before
pub grafted_paired :
    (n : ℕ) (T : Tree) (e i j p q : ℕ) → i < n → j < n → p < n → q < n
    → paired (grafted n T e) i j p q ≡ paired T i j p q
unfolding grafted
grafted_paired n T e i j p q li lj lp lq =
    with_leaf_paired n i j p q (omega arith) (omega arith) (omega arith) (omega arith) e (ordered T) n
    ∙ ordered_paired T i j p q

pub grafted_pairing :
    (n : ℕ) (T : Tree) (e a b c d : ℕ) → a < n → b < n → c < n → d < n
    → pairing (grafted n T e) a b c d ≡ pairing T a b c d
unfolding pairing
grafted_pairing n T e a b c d la lb lc ld =
    rw (grafted_paired n T e a b c d la lb lc ld, grafted_paired n T e a c b d la lc lb ld)
