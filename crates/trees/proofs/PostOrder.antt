-- Post-order in plain words: the nodes of a subtree, each after the nodes of its first child and then of its second.
-- The rows of `post_order` are those of these nodes, one after the other: a row names the two children of its node, a
-- leaf by its own number, and a node by the first node's number plus its place among the nodes.
use mathlib.Core.Path.{◌≡◌, refl, sym, subst, ◌∙◌}
use mathlib.Core.Logic.{inl, inr, ◌≢◌}
use mathlib.Core.Bool.{true, false}
use mathlib.Core.List.{List, [], ◌∷◌, ◌++◌}
use Prim.Native.Nat.{ℕ, ◌+◌, ◌-◌, ◌≤◌, ◌<◌}
use native.Mathlib.Omega.{arith}
use native.Mathlib.Decide.{dec_lt}
use borrow.Author.Tests.{ne_eqb}
use lib.ListN.{length, get_or, length-append, get_or-append}
use lib.Seq.{get_or-append-add, get_or_at}
use Rattle.base.proofs.Bools.{never, is_false, or_left, or_right, eqb_same}
use Rattle.trees.specs.Trees.{Tree, leaf, node, leaves, size, least, ordered}
use Rattle.trees.specs.Listings.{with_rows, number_in, post_order, standard}
use Rattle.trees.proofs.Trees.{leaves_node, size_pos, least_in, Distinct}
use Rattle.trees.proofs.Subtrees.{In, sub_of}
use Rattle.trees.proofs.Blocks.{r', r'', with_rows_node, Planted, number_lt, planted_left, planted_right, read}

-- the nodes in post-order
unfoldable pub nodes : Tree → List Tree
nodes (leaf i) = []
nodes (node A B) = nodes A ++ (nodes B ++ (node A B ∷ []))

-- the number of a subtree, where the nodes N are numbered from n on
pub data NumberOf (n : ℕ) (N : List Tree) : Tree → ℕ → Type 0 where
  own_number : {i : ℕ} → NumberOf n N (leaf i) i
  n_and_place : {A B : Tree} (k : ℕ) → k < length N → get_or N k (leaf 0) ≡ node A B → NumberOf n N (node A B) (n + k)

-- rows, one for each of some nodes: the numbers of its two children
pub data RowsOf (n : ℕ) (N : List Tree) : List Tree → List ℕ → Type 0 where
  no_rows : RowsOf n N [] []
  row_of :
      {A B : Tree} {a b : ℕ} {M : List Tree} {l : List ℕ} → NumberOf n N A a → NumberOf n N B b → RowsOf n N M l
      → RowsOf n N (node A B ∷ M) (a ∷ b ∷ l)

rows_append :
    {n : ℕ} {N M M' : List Tree} {l l' : List ℕ} → RowsOf n N M l → RowsOf n N M' l' → RowsOf n N (M ++ M') (l ++ l')
rows_append no_rows h = h
rows_append (row_of a b g) h = row_of a b (rows_append g h)

pub nodes_many : (T : Tree) → length (nodes T) ≡ size T - 1
unfolding nodes size
nodes_many (leaf i) = refl
nodes_many (node A B) =
    rw (length-append, length-append, nodes_many A, nodes_many B) (omega (arith, size_pos A, size_pos B))

-- the list M stands in the list N, from place q on
record Part (N : List Tree) (q : ℕ) (M : List Tree) : Type 0 where
  ends : q + length M ≤ length N
  at : (k : ℕ) → k < length M → get_or N (q + k) (leaf 0) ≡ get_or M k (leaf 0)

part_first : {N : List Tree} {q : ℕ} (M M' : List Tree) → Part N q (M ++ M') → Part N q M
part_first {N} {q} M M' w = record {
  ends = omega (arith, w.ends, length-append M M');
  at = λ k l.
      w.at k (rw (length-append M M') (omega arith)) ∙ get_or-append M M' (leaf 0) k l;
}

part_second : {N : List Tree} {q : ℕ} (M M' : List Tree) → Part N q (M ++ M') → Part N (q + length M) M'
part_second {N} {q} M M' w = record {
  ends = omega (arith, w.ends, length-append M M');
  at = λ k l.
      let here : q + length M + k ≡ q + (length M + k) = omega arith in
      rw here
      (w.at (length M + k) (rw (length-append M M') (omega arith)) ∙ get_or-append-add M M' k (leaf 0));
}

number_of : (T : Tree) (n r q : ℕ) (N : List Tree) → r ≡ n + q → Part N q (nodes T) → NumberOf n N T (number_in T r)
unfolding nodes number_in
number_of (leaf i) n r q N e w = own_number
number_of (node A B) n r q N e w =
    let last = part_second (nodes B) _ (part_second (nodes A) _ w) in
    let k = q + length (nodes A) + length (nodes B) in
    let sizes : r + (size A + size B) - 2 ≡ n + (k + 0) =
    omega (arith, nodes_many A, nodes_many B, size_pos A, size_pos B) in
    rw sizes (n_and_place (k + 0) (omega (arith, last.ends)) (last.at 0 (omega arith)))

rows_of :
    (T : Tree) (n r q : ℕ) (N : List Tree) → r ≡ n + q → Part N q (nodes T) → RowsOf n N (nodes T) (post_order T r)
unfolding nodes post_order
rows_of (leaf i) n r q N e w = no_rows
rows_of (node A B) n r q N e w =
    let r' = r + size A - 1 in
    let q' = q + length (nodes A) in
    let e' : r' ≡ n + q' = omega (arith, nodes_many A, size_pos A) in
    let wa = part_first (nodes A) _ w in
    let wb = part_first (nodes B) _ (part_second (nodes A) _ w) in
    rows_append (rows_of A n r q N e wa) (rows_append (rows_of B n r' q' N e' wb)
    (row_of (number_of A n r q N e wa) (number_of B n r' q' N e' wb) no_rows))

whole : (N : List Tree) → Part N 0 N
whole N = record {
  ends = omega arith;
  at = λ k l. (let z : 0 + k ≡ k = omega arith in rw z);
}

-- The law: the post-order of a subtree, its first node numbered n, is the rows of its nodes in post-order.
pub post_order_rows : (T : Tree) (n : ℕ) → RowsOf n (nodes T) (nodes T) (post_order T n)
post_order_rows T n =
    let z : n ≡ n + 0 = omega arith in
    rows_of T n n 0 (nodes T) z (whole (nodes T))

-- so the standard listing is the rows of the ordered tree's nodes in post-order
pub standard_in_post_order : (T : Tree) (n : ℕ) → RowsOf n (nodes (ordered T)) (nodes (ordered T)) (standard n T)
unfolding standard
standard_in_post_order T n = post_order_rows (ordered T) n

-- The nodes of a node: those of its first child, those of its second, itself.
module _ (A B : Tree) where
  abbrev a : ℕ
  a = length (nodes A)

  abbrev b : ℕ
  b = length (nodes B)

  -- the node at place k
  abbrev here : ℕ → Tree
  here k = get_or (nodes (node A B)) k (leaf 0)

  in_first : (k : ℕ) → k < a → here k ≡ get_or (nodes A) k (leaf 0)
  unfolding nodes
  in_first k l = get_or-append (nodes A) _ (leaf 0) k l

  in_second : (k : ℕ) → k < b → here (a + k) ≡ get_or (nodes B) k (leaf 0)
  unfolding nodes
  in_second k l =
      get_or-append-add (nodes A) _ k (leaf 0) ∙ get_or-append (nodes B) (node A B ∷ []) (leaf 0) k l

  itself : here (a + b) ≡ node A B
  unfolding nodes
  itself = get_or-append-add (nodes A) _ b (leaf 0) ∙ get_or_at (nodes B) (node A B) [] (leaf 0) b refl

  one_more : length (nodes (node A B)) ≡ a + b + 1
  unfolding nodes
  one_more = rw (length-append, length-append) (omega arith)

  -- a place among them
  data Place : ℕ → Type 0 where
    first : (k : ℕ) → k < a → Place k
    second : (k : ℕ) → k < b → Place (a + k)
    last : Place (a + b)

  place : (k : ℕ) → k < length (nodes (node A B)) → Place k
  place k l = elim (dec_lt k a) [
    | yes h ↦ first k h
    | no h ↦ elim (dec_lt (k - a) b) [
      | yes g ↦ (let e : k ≡ a + (k - a) = omega arith in rw e (second (k - a) g))
      | no g ↦ (let e : k ≡ a + b = omega (arith, one_more) in rw e last)
    ]
  ]

-- each is a subtree
pub nodes_in : (T : Tree) (k : ℕ) → k < length (nodes T) → In (get_or (nodes T) k (leaf 0)) T
nodes_in (leaf i) k l = absurd (unfold nodes in omega arith)
nodes_in (node A B) k l = elim (place A B k l) as (λ i _. In (here A B i) (node A B)) [
  | first j h ↦ subst (λ X. In X (node A B)) (sym (in_first A B j h)) (inr (inl (nodes_in A j h)))
  | second j h ↦ subst (λ X. In X (node A B)) (sym (in_second A B j h)) (inr (inr (nodes_in B j h)))
  | last ↦ rw (itself A B) (inl refl)
]

-- and no leaf
pub nodes_are :
    (T : Tree) (k : ℕ) → k < length (nodes T) → (A : Tree) × (B : Tree) × (get_or (nodes T) k (leaf 0) ≡ node A B)
nodes_are (leaf i) k l = absurd (unfold nodes in omega arith)
nodes_are (node A B) k l = elim (place A B k l) as (λ i _. (C : Tree) × (D : Tree) × (here A B i ≡ node C D)) [
  | first j h ↦ rw (in_first A B j h) (nodes_are A j h)
  | second j h ↦ rw (in_second A B j h) (nodes_are B j h)
  | last ↦ (A, B, itself A B)
]

-- the last is the subtree itself
pub nodes_last : (T : Tree) (k : ℕ) → k + 1 ≡ length (nodes T) → get_or (nodes T) k (leaf 0) ≡ T
nodes_last (leaf i) k h = absurd (unfold nodes in omega arith)
nodes_last (node A B) k h = let e : k ≡ a A B + b A B = omega (arith, one_more A B) in rw e (itself A B)

-- and each subtree that is no leaf is one of them
pub nodes_have :
    (T A B : Tree) → In (node A B) T → (k : ℕ) × (k < length (nodes T)) × (get_or (nodes T) k (leaf 0) ≡ node A B)
nodes_have (leaf i) A B h = absurd (let z : ◌≡◌ {A = ℕ} 0 1 = cc in omega arith)
nodes_have (node C D) A B h =
    let many = one_more C D in
    elim h [
      | inl e ↦ (a C D + b C D, omega (arith, many), itself C D ∙ sym e)
      | inr g ↦ elim g [
        | inl c ↦ (let r = nodes_have C A B c in (r.0, omega (arith, many, r.1), in_first C D r.0 r.1 ∙ r.2))
        | inr d ↦ (
            let r = nodes_have D A B d in
            (a C D + r.0, omega (arith, many, r.1), in_second C D r.0 r.1 ∙ r.2)
            )
      ]
    ]

-- a later node has a leaf that an earlier one has not
abbrev HasMore : Tree → Type 0
HasMore T =
    (i j : ℕ) → i < j → j < length (nodes T)
    → (x : ℕ) × (leaves (get_or (nodes T) j (leaf 0)) x ≡ true) × (leaves (get_or (nodes T) i (leaf 0)) x ≡ false)

module _ (A B : Tree) (d : Distinct (node A B)) (more_a : HasMore A) (more_b : HasMore B) where
  -- a leaf of B is in no node of A, and the other way round
  not_in_a : (i x : ℕ) → i < a A B → leaves B x ≡ true → leaves (here A B i) x ≡ false
  not_in_a i x h q =
      rw (in_first A B i h)
      (is_false _ (λ t. never q (d.2 x (sub_of A (get_or (nodes A) i (leaf 0)) (nodes_in A i h) x t))))

  not_in_b : (i x : ℕ) → i < b A B → leaves A x ≡ true → leaves (here A B (a A B + i)) x ≡ false
  not_in_b i x h q =
      rw (in_second A B i h)
      (is_false _ (λ t. never (sub_of B (get_or (nodes B) i (leaf 0)) (nodes_in B i h) x t) (d.2 x q)))

  has_a : (x : ℕ) → leaves A x ≡ true → leaves (here A B (a A B + b A B)) x ≡ true
  has_a x q = rw (itself A B, leaves_node) (or_left _ _ q)

  has_b : (x : ℕ) → leaves B x ≡ true → leaves (here A B (a A B + b A B)) x ≡ true
  has_b x q = rw (itself A B, leaves_node) (or_right (leaves A x) _ q)

  more_places :
      {i j : ℕ} → Place A B i → Place A B j → i < j
      → (x : ℕ) × (leaves (here A B j) x ≡ true) × (leaves (here A B i) x ≡ false)
  more_places (first i h) (first j g) l = rw (in_first A B i h, in_first A B j g) (more_a i j l g)
  more_places (first i h) (second j g) l =
      let Y = get_or (nodes B) j (leaf 0) in
      let x = least Y in
      let q = sub_of B Y (nodes_in B j g) x (least_in Y) in
      (x, rw (in_second A B j g) (least_in Y), not_in_a i x h q)
  more_places (first i h) last l = (least B, has_b (least B) (least_in B), not_in_a i (least B) h (least_in B))
  more_places (second i h) (first j g) l = absurd (omega arith)
  more_places (second i h) (second j g) l = rw (in_second A B i h, in_second A B j g) (more_b i j (omega arith) g)
  more_places (second i h) last l = (least A, has_a (least A) (least_in A), not_in_b i (least A) h (least_in A))
  more_places last (first j g) l = absurd (omega arith)
  more_places last (second j g) l = absurd (omega arith)
  more_places last last l = absurd (omega arith)

pub nodes_more : (T : Tree) → Distinct T → HasMore T
nodes_more (leaf k) d i j l h = absurd (unfold nodes in omega arith)
nodes_more (node A B) d i j l h =
    more_places A B d (nodes_more A d.0) (nodes_more B d.1) (place A B i (omega arith)) (place A B j h) l

-- The rows read back: under the number r + k stands the node at place k.
pub nodes_read :
    (T : Tree) (f : ℕ → Tree) (r : ℕ) → Planted f r T → (k : ℕ) → k < length (nodes T)
    → with_rows f r (post_order T r) (r + k) ≡ get_or (nodes T) k (leaf 0)
nodes_read (leaf x) f r h k l = absurd (unfold nodes in omega arith)
nodes_read (node A B) f r h k l = elim (place A B k l) as (λ i _. post_order_row i ≡ here A B i) [
  | first j g ↦
      let early : r + j ≢ r'' A B r = omega (arith, many_a, many_b, size_pos A, size_pos B) in
      let low : r + j < r' A B r = omega (arith, many_a, size_pos A) in
      rw (with_rows_node A B r f (r + j), ne_eqb (r + j) (r'' A B r) early, rb.1 (r + j) low, in_first A B j g)
      (nodes_read A f r la j g)
  | second j g ↦
      let early : r + (a A B + j) ≢ r'' A B r = omega (arith, many_a, many_b, size_pos A, size_pos B) in
      let there : r + (a A B + j) ≡ r' A B r + j = omega (arith, many_a, size_pos A) in
      rw (
        with_rows_node A B r f (r + (a A B + j)),
        ne_eqb (r + (a A B + j)) (r'' A B r) early,
        there,
        in_second A B j g,
      )
      (nodes_read B after_a (r' A B r) lb j g)
  | last ↦
      let there : r + (a A B + b A B) ≡ r'' A B r = omega (arith, many_a, many_b, size_pos A, size_pos B) in
      rw (
        with_rows_node A B r f (r + (a A B + b A B)),
        there,
        eqb_same (r'' A B r),
        rb.0,
        rb.1 (number_in A r) (number_lt A r f la),
        ra.0,
      )
      (sym (itself A B))
]
  where
    post_order_row : ℕ → Tree
    post_order_row i = with_rows f r (post_order (node A B) r) (r + i)

    many_a : length (nodes A) ≡ size A - 1
    many_a = nodes_many A

    many_b : length (nodes B) ≡ size B - 1
    many_b = nodes_many B

    la : Planted f r A
    la = planted_left A B f r h

    after_a : ℕ → Tree
    after_a = with_rows f r (post_order A r)

    ra : (after_a (number_in A r) ≡ A) × ((k : ℕ) → k < r → after_a k ≡ f k)
    ra = read A f r la

    lb : Planted after_a (r' A B r) B
    lb = planted_right A B f r h ra.1

    rb :
        (with_rows after_a (r' A B r) (post_order B (r' A B r)) (number_in B (r' A B r)) ≡ B)
        × ((k : ℕ) → k < r' A B r → with_rows after_a (r' A B r) (post_order B (r' A B r)) k ≡ after_a k)
    rb = read B after_a (r' A B r) lb
