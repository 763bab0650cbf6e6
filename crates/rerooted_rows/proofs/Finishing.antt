-- All is joined: the rows so far and those that the chain makes are a listing that keeps the rules, and it stands for
-- what was joined, rerooted at leaf 0. The idea: each row joins what is made so far to the next number of the chain, so
-- that beside leaf 0 the last node alone is left.
use mathlib.Core.Path.{◌≡◌, refl, sym, ◌∙◌}
use mathlib.Core.Logic.{inl, inr, ◌≢◌}
use mathlib.Core.Bool.{Bool, true, false, not, ◌&&◌}
use mathlib.Core.List.{List, [], ◌∷◌, ◌++◌, append-nil, append_assoc}
use Prim.Native.Nat.{ℕ, suc, ◌+◌, ◌-◌, ◌*◌, ◌≤◌, ◌<◌}
use native.Mathlib.Omega.{arith}
use native.Mathlib.Decide.{ℕ_discrete}
use borrow.Author.Tests.{eqb-true, ltb-true, ne_eqb}
use lib.Dec.{ltb, eqb}
use lib.ListN.{length}
use Rattle.base.specs.Numbers.{indicator, count_below}
use Rattle.base.proofs.Bools.{bool?, never, bool_iff, and_both, eqb_same}
use Rattle.base.proofs.Counts.{count_drop, count_ext, count_one}
use Rattle.trees.specs.Trees.{Tree, leaf, node}
use Rattle.trees.specs.Listings.{KeepsRules, subtree_at, tree_of}
use Rattle.trees.specs.Rerooting.{rerooted}
use Rattle.trees.specs.inner.Forests.{unused, uses}
use Rattle.trees.proofs.Trees.{leaf_has}
use Rattle.trees.proofs.Forests.{last_alone}
use Rattle.trees.proofs.Rules.{of_lawful}
use Rattle.trees.proofs.SubtreesByRow.{rows_old}
use Rattle.trees.proofs.AddedRows.{subtree_at_new, subtree_at_old}
use Rattle.rerooted_rows.specs.inner.Joining.{copies, chain_rows, grown, Hangs, Stands, unseen, Accounted}
use Rattle.rerooted_rows.proofs.Joining.{copies_here, copies_more, counted_true, Agree, hangs_rerooted}
use Rattle.rerooted_rows.proofs.Joining.{zero_stands, forest, zero_is_leaf, held_live, held_below, row_added}

-- numbers that stand in a list once, if a test passes them, are no more than those that pass
copies_count :
    (l : List ℕ) (r : ℕ) (live : ℕ → Bool) → ((x : ℕ) → copies x l ≤ indicator (live x) 1)
    → ((x : ℕ) → live x ≡ true → x < r) → length l ≤ count_below r live
unfolding copies
copies_count [] r live h below = omega arith
copies_count (y ∷ l) r live h below =
    let rest = copies_count l r (λ x. live x && not (eqb x y)) left (λ x t. below x (and_both (live x) _ t).0) in
    omega (arith, rest, count_drop r live y (below y here) here)
  where
    here : live y ≡ true
    here = counted_true (live y) (omega (arith, h y, copies_here y l))

    left : (x : ℕ) → copies x l ≤ indicator (live x && not (eqb x y)) 1
    left x = elim (ℕ_discrete x y) [
      | yes e ↦ rw (e, eqb_same y, here) (omega (arith, rw (eqb_same y, here) at (h y)))
      | no d ↦ rw (ne_eqb x y d) (same (live x) (rw (ne_eqb x y d) at (h x)))
    ]
      where
        same : (t : Bool) → 0 + copies x l ≤ indicator t 1 → copies x l ≤ indicator (t && true) 1
        same true h = omega arith
        same false h = omega arith

-- a chain has fewer numbers than there are leaves, whatever the rows
pub chain_short :
    {n m : ℕ} {rows chain others : List ℕ} {seen : ℕ → Bool} → 0 < n → Accounted n m rows chain others seen
    → length chain + m + 1 ≤ n
chain_short {n} {m} {rows} {chain} {others} {seen} z W =
    let w = forest z W in
    omega (arith, copies_count chain (n + m) (uses (unused n) n rows) each w.below, w.number)
  where
    each : (x : ℕ) → copies x chain ≤ indicator (uses (unused n) n rows x) 1
    each x = elim (ℕ_discrete x 0) [
      | yes e ↦ rw (e, W.no_zero) (omega arith)
      | no d ↦ omega (arith, rw (ne_eqb x 0 d) at (W.each_once x))
    ]

-- what a chain makes depends on the subtrees under its numbers alone
grown_keep :
    (f g : ℕ → Tree) (above : Tree) (chain : List ℕ) → Agree f g chain → grown g above chain ≡ grown f above chain
unfolding grown
grown_keep f g above [] a = refl
grown_keep f g above (c ∷ chain) a =
    rw (a c (copies_here c chain)) (grown_keep f g (node above (f c)) chain (λ x h. a x (copies_more x c chain h)))

-- All leaves have come.
module _ (n : ℕ) (big : 3 ≤ n) (seen : ℕ → Bool) (all : (k : ℕ) → k < n → seen k ≡ true) where
  pub none_unseen : (k : ℕ) → unseen n seen k ≡ false
  unfolding unseen
  none_unseen k = elim (bool? (ltb k n)) [
    | inl t ↦ rw (t, all k (ltb-true k n t))
    | inr f ↦ rw f
  ]

  -- the number that is left is the last node's
  module _ (m above : ℕ) (rows : List ℕ) (W : Accounted n m rows [] (above ∷ 0 ∷ []) seen) (d : above ≢ 0) where
    abbrev live : ℕ → Bool
    live = uses (unused n) n rows

    z : 0 < n
    z = omega arith

    above_live : uses (unused n) n rows above ≡ true
    above_live = held_live z W above d (omega (arith, copies_here above (0 ∷ [])))

    -- leaf 0 stands in no row
    zero_used : uses (unused n) n rows 0 ≡ true → ⊥
    zero_used h = omega (arith, ((forest z W).only 0 0 h (rw (rows_old leaf n rows 0 z) (leaf_has 0))).0)

    only_above : (k : ℕ) → k < n + m → uses (unused n) n rows k ≡ eqb k above
    unfolding copies
    only_above k l = bool_iff (live k) (eqb k above) there (λ t. rw (eqb-true k above t) above_live)
      where
        there : uses (unused n) n rows k ≡ true → eqb k above ≡ true
        there t = elim (ℕ_discrete k above) [
          | yes e ↦ rw e (eqb_same above)
          | no e ↦ absurd (elim (ℕ_discrete k 0) [
            | yes q ↦ zero_used (rw q at t)
            | no q ↦ omega (arith, rw (t, ne_eqb k above e, ne_eqb k 0 q, none_unseen k) at (W.each_once k))
          ])
        ]

    rows_all : m + 2 ≡ n
    rows_all =
        let w = forest z W in
        omega (
          arith,
          w.number,
          count_ext (n + m) live (λ k. eqb k above) only_above,
          count_one (n + m) above (w.below above above_live),
        )

    above_last : above ≡ 2 * n - 3
    above_last = last_alone n rows big (omega (arith, W.long, rows_all)) W.kept above above_live

    kept_rules : KeepsRules n rows
    kept_rules = record { numbers = omega (arith, W.long, rows_all); rules = of_lawful n z rows W.kept }

  -- one number of the chain more is held apart
  taken :
      (m c : ℕ) (rows chain others : List ℕ) → Accounted n m rows (c ∷ chain) others seen
      → (c ≢ 0) × Accounted n m rows chain (c ∷ others) seen
  unfolding copies
  taken m c rows chain others W = (
    λ e. omega (arith, rw e at W.no_zero),
    record {
      long = W.long;
      kept = W.kept;
      each_once = λ x. omega (arith, W.each_once x);
      no_zero = omega (arith, W.no_zero);
      fresh = λ f. absurd (never (all 0 (omega arith)) f);
    },
  )

  -- what the chain makes
  finished :
      (chain : List ℕ) (m above : ℕ) (rows : List ℕ) → Accounted n m rows chain (above ∷ 0 ∷ []) seen → above ≢ 0
      → KeepsRules n (rows ++ chain_rows (n + m) above chain)
      × (tree_of n (rows ++ chain_rows (n + m) above chain) ≡ grown (subtree_at n rows) (subtree_at n rows above) chain)
  unfolding chain_rows grown tree_of
  finished [] m above rows W d =
      rw append-nil (kept_rules m above rows W d, rw (above_last m above rows W d))
  finished (c ∷ chain) m above rows W d =
      let r = taken m c rows chain (above ∷ 0 ∷ []) W in
      let z : 0 < n = omega arith in
      let rows' = rows ++ (above ∷ c ∷ []) in
      let W' = row_added z (0 ∷ []) above c d r.0 r.1 in
      let ih = finished chain (m + 1) (n + m) rows' W' (λ e. omega arith) in
      let next : n + (m + 1) ≡ suc (n + m) = omega arith in
      let on = rw (next, append_assoc) at ih in
      let agree : Agree (subtree_at n rows) (subtree_at n rows') chain = λ x h.
      subtree_at_old n m rows W.long above c x
      (held_below z r.1 x (omega arith)) in (
        on.0,
        on.1 ∙ rw (
          grown_keep (subtree_at n rows) (subtree_at n rows') (subtree_at n rows' (n + m)) chain agree,
          subtree_at_new n m rows W.long above c,
        ),
      )

  -- What is left stands under 0, and has a node: the chain's latest number, and the others.
  module _ (m : ℕ) (rows chain : List ℕ) (W : Accounted n m rows chain (0 ∷ []) seen) (A B : Tree)
      (st : Stands (subtree_at n rows) chain 0 (node A B)) where
    hangs : Hangs (subtree_at n rows) chain (node A B)
    hangs = (zero_stands (subtree_at n rows) chain (node A B) (zero_is_leaf (omega arith) W) st).1

    pub chain_split : (c : ℕ) × (older : List ℕ) × (chain ≡ c ∷ older)
    chain_split = (hangs.0, hangs.1, hangs.2)

    -- the whole listing
    pub rerooted_listing :
        (c : ℕ) (older : List ℕ) → chain ≡ c ∷ older
        → KeepsRules n (rows ++ chain_rows (n + m) c older)
        × (tree_of n (rows ++ chain_rows (n + m) c older) ≡ rerooted (node A B))
    rerooted_listing c older e =
        let a = taken m c rows older (0 ∷ []) (rw e at W) in
        let r = finished older m c rows a.1 a.0 in
        let h = hangs in
        let ec : h.0 ≡ c = same_head (sym h.2 ∙ e) in
        let eo : h.1 ≡ older = same_tail (sym h.2 ∙ e) in
        (r.0, r.1 ∙ sym (hangs_rerooted (subtree_at n rows) A B chain h ∙ rw (ec, eo)))
      where
        same_head : {x y : ℕ} {l k : List ℕ} → x ∷ l ≡ y ∷ k → x ≡ y
        same_head e = cc

        same_tail : {x y : ℕ} {l k : List ℕ} → x ∷ l ≡ y ∷ k → l ≡ k
        same_tail e = cc
