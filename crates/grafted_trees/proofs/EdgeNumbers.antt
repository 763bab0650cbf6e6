-- Each number 1 to 2n − 3 names one edge of a tree on n leaves. The idea: a subtree of a leaves whose first node is
-- number r has its leaves' numbers, and the numbers from r on to r + a − 2, each once.
use mathlib.Core.Path.{◌≡◌, refl, ◌∙◌}
use mathlib.Core.Logic.{◌≢◌}
use mathlib.Core.Bool.{true, false}
use Prim.Native.Nat.{ℕ, ◌+◌, ◌-◌, ◌*◌, ◌≤◌, ◌<◌}
use native.Mathlib.Omega.{arith}
use native.Mathlib.Decide.{dec_lt, ℕ_discrete}
use borrow.Author.Tests.{lt-ltb, le-ltb, ne_eqb, leb-true, le-leb}
use lib.Dec.{leb}
use Rattle.base.proofs.Bools.{never, and_both, and_is, eqb_same}
use Rattle.trees.specs.Trees.{Tree, leaf, node, size, occurrences, IsTree, ordered}
use Rattle.trees.specs.Listings.{number_in}
use Rattle.trees.proofs.Trees.{size_leaf, size_node, size_pos, occurrences_node, ordered_tree, ordered_size}
use Rattle.trees.proofs.Blocks.{number_node}
use Rattle.grafted_trees.specs.Grafts.{names_edge}
use Rattle.grafted_trees.specs.inner.EdgeNumbers.{edges_at}

-- the test as a statement
pub edge_range : (n e : ℕ) → names_edge n e ≡ true → (1 ≤ e) × (e ≤ 2 * n - 3)
unfolding names_edge
edge_range n e h =
    let both = and_both (leb 1 e) (leb e (2 * n - 3)) h in
    (leb-true 1 e both.0, leb-true e (2 * n - 3) both.1)

pub range_edge : (n e : ℕ) → 1 ≤ e → e ≤ 2 * n - 3 → names_edge n e ≡ true
unfolding names_edge
range_edge n e low high = and_is _ _ (le-leb 1 e low) (le-leb e (2 * n - 3) high)

-- a node's own number is e, or it is not
own_edge :
    (e : ℕ) (A B : Tree) (r : ℕ) → e ≡ number_in (node A B) r
    → edges_at e (node A B) r ≡ 1 + (edges_at e A r + edges_at e B (r + size A - 1))
unfolding edges_at
own_edge e A B r h = rw (← h, eqb_same e)

no_edge :
    (e : ℕ) (A B : Tree) (r : ℕ) → e ≢ number_in (node A B) r
    → edges_at e (node A B) r ≡ edges_at e A r + edges_at e B (r + size A - 1)
unfolding edges_at
no_edge e A B r h = rw (ne_eqb e (number_in (node A B) r) h) (omega arith)

-- numbers outside the block: only a leaf's
edges_low : (e : ℕ) (T : Tree) (r : ℕ) → e < r → edges_at e T r ≡ occurrences e T
edges_low e (leaf i) r l = unfold edges_at occurrences in refl
edges_low e (node A B) r l =
    let r' = r + size A - 1 in
    omega (
      arith,
      no_edge e A B r (omega (arith, number_node A B r, size_pos A, size_pos B)),
      edges_low e A r l,
      edges_low e B r' (omega (arith, size_pos A)),
      occurrences_node e A B,
    )

edges_high : (e : ℕ) (T : Tree) (r : ℕ) → r + size T ≤ e + 1 → edges_at e T r ≡ occurrences e T
edges_high e (leaf i) r l = unfold edges_at occurrences in refl
edges_high e (node A B) r l =
    let r' = r + size A - 1 in
    let whole = size_node A B in
    omega (
      arith,
      no_edge e A B r (omega (arith, number_node A B r, size_pos A, size_pos B)),
      edges_high e A r (omega (arith, size_pos B)),
      edges_high e B r' (omega (arith, size_pos A)),
      occurrences_node e A B,
    )

-- a number of the block: one node's
edges_in : (e : ℕ) (T : Tree) (r : ℕ) → r ≤ e → e + 1 < r + size T → edges_at e T r ≡ occurrences e T + 1
edges_in e (leaf i) r l m = absurd (omega (arith, size_leaf i))
edges_in e (node A B) r l m = elim (ℕ_discrete e (number_in (node A B) r)) [
  | yes h ↦
      omega (
        arith,
        own_edge e A B r h,
        edges_high e A r (omega (arith, own, size_pos A, size_pos B)),
        edges_high e B r' (omega (arith, own, size_pos A, size_pos B)),
        occurrences_node e A B,
      )
  | no h ↦ elim (dec_lt e r') [
    | yes low ↦
        omega (
          arith,
          no_edge e A B r h,
          edges_in e A r l (omega (arith, size_pos A)),
          edges_low e B r' low,
          occurrences_node e A B,
        )
    | no high ↦
        omega (
          arith,
          no_edge e A B r h,
          edges_high e A r (omega (arith, size_pos A)),
          edges_in e B r' (omega arith) (omega (arith, own, size_node A B, size_pos A, size_pos B)),
          occurrences_node e A B,
        )
  ]
]
  where
    r' : ℕ
    r' = r + size A - 1

    own : number_in (node A B) r ≡ r + (size A + size B) - 2
    own = number_node A B r

-- A tree on n leaves.
module _ (n : ℕ) (T : Tree) (big : 3 ≤ n) (h : IsTree n T) where
  many : size (ordered T) + 1 ≡ n
  many = ordered_size n T (omega arith) h

  -- each number 1 to 2n − 3 names exactly one edge
  pub edge_once : (e : ℕ) → names_edge n e ≡ true → edges_at e (ordered T) n ≡ 1
  edge_once e s =
      let range = edge_range n e s in
      let as_leaf = ordered_tree n T h e in
      elim (dec_lt e n) [
        | yes l ↦ edges_low e (ordered T) n l ∙ as_leaf ∙ rw (lt-ltb 0 e range.0, lt-ltb e n l)
        | no g ↦
            let inner = edges_in e (ordered T) n (omega arith) (omega (arith, many, range.1)) in
            let no_leaf : occurrences e (ordered T) ≡ 0 =
            as_leaf ∙ rw (lt-ltb 0 e range.0, le-ltb e n (omega arith)) in
            omega arith
      ]

  -- and no other number names one
  pub edge_none : (e : ℕ) → names_edge n e ≡ false → edges_at e (ordered T) n ≡ 0
  edge_none e s = elim (ℕ_discrete e 0) [
    | yes z ↦ edges_low e (ordered T) n (omega arith) ∙ ordered_tree n T h e ∙ rw z
    | no d ↦
        let past : 2 * n - 3 < e = elim (dec_lt (2 * n - 3) e) [
          | yes l ↦ l
          | no g ↦ absurd (never (range_edge n e (omega arith) (omega arith)) s)
        ] in
        edges_high e (ordered T) n (omega (arith, many))
        ∙ ordered_tree n T h e
        ∙ rw (lt-ltb 0 e (omega arith), le-ltb e n (omega arith))
  ]
