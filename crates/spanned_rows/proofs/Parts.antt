-- What stays of the subtrees of a listing, joined row by row: a row of the listing joins two free subtrees, and what
-- stays of them is joined in the same way. At first the leaves are free, and at the end the tree and leaf 0.
use mathlib.Core.Path.{◌≡◌, refl, sym, ◌∙◌}
use mathlib.Core.Logic.{◌⊎◌, inl, inr, ◌≢◌}
use mathlib.Core.Bool.{Bool, true, false, not, cond, ◌&&◌, ◌||◌, and-true, and-false}
use mathlib.Core.List.{List, [], ◌∷◌, ◌++◌}
use Prim.Native.Nat.{ℕ, suc, ◌+◌, ◌-◌, ◌*◌, ◌≤◌, ◌<◌}
use native.Mathlib.Omega.{arith}
use native.Mathlib.Decide.{ℕ_discrete}
use borrow.Author.Tests.{ltb-true, eqb-true, ne_eqb, lt-ltb}
use lib.Dec.{ltb, eqb}
use lib.ListN.{length, length-append}
use Rattle.base.specs.Numbers.{indicator}
use Rattle.base.proofs.Bools.{bool?, never, is_false, or_left, or_right, or_cases, and_both}
use Rattle.limits.specs.Limits.{most_leaves, IsLeafCount}
use Rattle.trees.specs.Trees.{Tree, leaf, node, LeafSet}
use Rattle.trees.specs.Listings.{KeepsRules, with_rows, subtree_at, tree_of}
use Rattle.trees.specs.Renumbering.{renumbered}
use Rattle.trees.specs.inner.Forests.{unused, use_row, uses, lawful}
use Rattle.trees.proofs.Trees.{leaf_has, leaves_leaf}
use Rattle.trees.proofs.Forests.{Forest, forest_start, lawful_forest, live_old, last_alone, unused_is}
use Rattle.trees.proofs.Rules.{to_lawful, listing_tree}
use Rattle.trees.proofs.SubtreesByRow.{subtree_at_leaf}
use Rattle.trees.proofs.AddedRows.{row_kept, after_row, node_unused, subtree_at_new, subtree_at_old}
use Rattle.spanned_trees.specs.Spans.{meets, rank}
use Rattle.spanned_trees.proofs.Kept.{meets_leaf, meets_node, kept_leaf, kept_both, kept_first, kept_second}
use Rattle.spanned_trees.proofs.Spans.{some_stay}
use Rattle.rerooted_rows.specs.inner.Joining.{copies, joined_number, joined_chain, joined_rows, joined_count}
use Rattle.rerooted_rows.specs.inner.Joining.{Stands, unseen, Accounted}
use Rattle.rerooted_rows.proofs.Joining.{held_below, accounted_like, Joint, joint}
use Rattle.rerooted_rows.proofs.Finishing.{chain_short, none_unseen}
use Rattle.spanned_rows.specs.inner.Marks.{nothing, leaf_number}
use Rattle.spanned_rows.specs.inner.Parts.{part, all_come}
use Rattle.spanned_rows.proofs.Gathering.{gather, but, but_in, but_same, but_other, gather_ext, gather_none}
use Rattle.spanned_rows.proofs.Gathering.{copies_cond, gather_but, gather_in, gather_ranks}

-- leaf 0, or a number that the rows p have not used
unfoldable pub free : ℕ → List ℕ → ℕ → Bool
free n p x = eqb x 0 || uses (unused n) n p x

-- and something stays of it
unfoldable pub holds : LeafSet → ℕ → List ℕ → ℕ → Bool
holds v n p x = free n p x && meets v (subtree_at n p x)

-- After the rows p of a listing of n leaves, r of them: `made` rows of a listing of m leaves are written, and the
-- chain; f has the number of what stays of each free subtree.
pub record Underway (n m : ℕ) (v : LeafSet) (p : List ℕ) (r : ℕ) (f : ℕ → ℕ) (made : ℕ) (rows chain : List ℕ) :
    Type 0 where
  pub long : length p ≡ 2 * r
  pub kept : lawful (unused n) n p ≡ true
  pub accounted : Accounted m made rows chain (gather (n + r) (holds v n p) f) all_come
  pub stands : (x : ℕ) → holds v n p x ≡ true → Stands (subtree_at m rows) chain (f x) (part v (subtree_at n p x))
  pub gone : (x : ℕ) → free n p x ≡ true → meets v (subtree_at n p x) ≡ false → f x ≡ nothing

-- What stays of two subtrees, whose numbers are x and y, is joined in lists: where nothing stays of one, it is the
-- other.
pub record Added (m x y made : ℕ) (rows chain : List ℕ) (number made' : ℕ) (rows' chain' : List ℕ) : Type 0 where
  pub first_gone : x ≡ nothing → (number ≡ y) × (made' ≡ made) × (rows' ≡ rows) × (chain' ≡ chain)
  pub second_gone :
      x ≢ nothing → y ≡ nothing → (number ≡ x) × (made' ≡ made) × (rows' ≡ rows) × (chain' ≡ chain)
  pub both :
      x ≢ nothing → y ≢ nothing
      → (number ≡ joined_number m made x y) × (made' ≡ joined_count x y made) × (rows' ≡ joined_rows x y rows)
      × (chain' ≡ joined_chain x y chain)

holds_free : (v : LeafSet) (n : ℕ) (p : List ℕ) (x : ℕ) → holds v n p x ≡ true → free n p x ≡ true
unfolding holds
holds_free v n p x h = (and_both (free n p x) (meets v (subtree_at n p x)) h).0

pub used_free : (n : ℕ) (p : List ℕ) (x : ℕ) → uses (unused n) n p x ≡ true → free n p x ≡ true
unfolding free
used_free n p x l = or_right (eqb x 0) _ l

-- what stays of a node's children stays of the node
part_both :
    (v : LeafSet) (A B : Tree) → meets v A ≡ true → meets v B ≡ true → part v (node A B) ≡ node (part v A) (part v B)
unfolding renumbered
part_both v A B a b = rw (kept_both v A B a b)

module _ {n m : ℕ} {v : LeafSet} {p : List ℕ} {r : ℕ} {f : ℕ → ℕ} {made : ℕ} {rows chain : List ℕ} (z : 0 < n)
    (few : m ≤ most_leaves) (zm : 0 < m) (U : Underway n m v p r f made rows chain) where
  forest : Forest n (n + r) (with_rows leaf n p) (uses (unused n) n p)
  forest = lawful_forest (forest_start n z) r p U.long U.kept

  pub free_below : (x : ℕ) → free n p x ≡ true → x < n + r
  unfolding free
  free_below x h = elim (or_cases (eqb x 0) (uses (unused n) n p x) h) [
    | inl e ↦ omega (arith, eqb-true x 0 e)
    | inr l ↦ forest.below x l
  ]

  holds_is : (x : ℕ) → free n p x ≡ true → holds v n p x ≡ meets v (subtree_at n p x)
  unfolding holds
  holds_is x h = rw h

  -- where something stays, there is a number
  pub number_there : (x : ℕ) → holds v n p x ≡ true → f x ≢ nothing
  number_there x h e =
      let low = free_below x (holds_free v n p x h) in
      let here = gather_in (n + r) (holds v n p) f x low h in
      omega (arith, held_below zm U.accounted (f x) (omega arith), chain_short zm U.accounted)

  -- Two free subtrees are joined.
  module _ (a b : ℕ) (la : free n p a ≡ true) (lb : free n p b ≡ true) (d : a ≢ b) where
    abbrev A : Tree
    A = subtree_at n p a

    abbrev B : Tree
    B = subtree_at n p b

    -- the numbers of the others
    abbrev others : List ℕ
    others = gather (n + r) (but b (but a (holds v n p))) f

    apart :
        (x : ℕ) → copies x (gather (n + r) (holds v n p) f)
        ≡ indicator (meets v (subtree_at n p a)) (indicator (eqb x (f a)) 1)
        + (indicator (meets v (subtree_at n p b)) (indicator (eqb x (f b)) 1)
        + copies x (gather (n + r) (but b (but a (holds v n p))) f))
    apart x =
        let h = holds v n p in
        gather_but (n + r) h f a x (free_below a la)
        ∙ rw (
          gather_but (n + r) (but a h) f b x (free_below b lb),
          but_other a h b (λ e. d (sym e)),
          holds_is a la,
          holds_is b lb,
        )

    -- what they leave
    pub record Pair (number made' : ℕ) (rows' chain' : List ℕ) : Type 0 where
      pub accounted :
          Accounted m made' rows' chain'
          (cond (meets v (node (subtree_at n p a) (subtree_at n p b)))
          (number ∷ gather (n + r) (but b (but a (holds v n p))) f)
          (gather (n + r) (but b (but a (holds v n p))) f)) all_come
      pub stands :
          meets v (node (subtree_at n p a) (subtree_at n p b)) ≡ true
          → Stands (subtree_at m rows') chain' number (part v (node (subtree_at n p a) (subtree_at n p b)))
      pub gone : meets v (node (subtree_at n p a) (subtree_at n p b)) ≡ false → number ≡ nothing
      pub rest :
          (y : ℕ) (T : Tree) → 0 < copies y (gather (n + r) (but b (but a (holds v n p))) f)
          → Stands (subtree_at m rows) chain y T → Stands (subtree_at m rows') chain' y T

    none_first : meets v (subtree_at n p a) ≡ false → Pair (f b) made rows chain
    none_first na = record {
      accounted = rw (meets_node v A B, na) (accounted_like zm U.accounted _ (λ x.
          rw (apart x, na, copies_cond x (f b) (meets v B) others) (omega arith)));
      stands = λ t.
          let tb : meets v B ≡ true = rw (meets_node, na) at t in
          rw (kept_second v A B na) (U.stands b (holds_is b lb ∙ tb));
      gone = λ t. U.gone b lb (rw (meets_node, na) at t);
      rest = λ y T h s. s;
    }

    none_second : meets v (subtree_at n p a) ≡ true → meets v (subtree_at n p b) ≡ false → Pair (f a) made rows chain
    none_second ya nb = record {
      accounted = rw (meets_node v A B, ya) (accounted_like zm U.accounted _ (λ x.
          rw (apart x, ya, nb) (copies_cond x (f a) true others ∙ omega arith)));
      stands = λ t. rw (kept_first v A B ya nb) (U.stands a (holds_is a la ∙ ya));
      gone = λ t. absurd (never refl (rw (meets_node, ya) at t));
      rest = λ y T h s. s;
    }

    both_held :
        meets v (subtree_at n p a) ≡ true → meets v (subtree_at n p b) ≡ true
        → Accounted m made rows chain (f b ∷ f a ∷ gather (n + r) (but b (but a (holds v n p))) f) all_come
    both_held ya yb =
        accounted_like zm U.accounted (f b ∷ f a ∷ others) (λ x.
        rw (apart x, ya, yb) (unfold copies in omega arith))

    -- where both have numbers, something stays of both
    pub both_numbered :
        f a ≢ nothing → f b ≢ nothing
        → Accounted m made rows chain (f b ∷ f a ∷ gather (n + r) (but b (but a (holds v n p))) f) all_come
    both_numbered da db = both_held (there a la da) (there b lb db)
      where
        there : (x : ℕ) → free n p x ≡ true → f x ≢ nothing → meets v (subtree_at n p x) ≡ true
        there x l e = elim (bool? (meets v (subtree_at n p x))) [ inl t ↦ t | inr t ↦ absurd (e (U.gone x l t)) ]

    both_stay :
        meets v (subtree_at n p a) ≡ true → meets v (subtree_at n p b) ≡ true
        → Pair (joined_number m made (f a) (f b)) (joined_count (f a) (f b) made) (joined_rows (f a) (f b) rows)
        (joined_chain (f a) (f b) chain)
    both_stay ya yb = record {
      accounted = rw (meets_node v A B, ya) J.accounted;
      stands = λ t. rw (part_both v A B ya yb) J.stands;
      gone = λ t. absurd (never refl (rw (meets_node, ya) at t));
      rest = J.others;
    }
      where
        J :
            Joint m made rows chain (gather (n + r) (but b (but a (holds v n p))) f) all_come
            (part v (subtree_at n p a)) (part v (subtree_at n p b)) (joined_count (f a) (f b) made)
            (joined_rows (f a) (f b) rows) (joined_chain (f a) (f b) chain) (joined_number m made (f a) (f b))
        J =
            joint zm others (part v A) (part v B) (f a) (f b) (both_held ya yb) (U.stands a (holds_is a la ∙ ya))
            (U.stands b (holds_is b lb ∙ yb))

    -- as the code joins them
    pub pair :
        {number made' : ℕ} {rows' chain' : List ℕ} → Added m (f a) (f b) made rows chain number made' rows' chain'
        → Pair number made' rows' chain'
    pair J = elim (bool? (meets v A)) [
      | inr na ↦ (let e = J.first_gone (U.gone a la na) in rw (e.0, e.1, e.2, e.3) (none_first na))
      | inl ya ↦
          let there = number_there a (holds_is a la ∙ ya) in
          elim (bool? (meets v B)) [
            | inr nb ↦
                let e = J.second_gone there (U.gone b lb nb) in
                rw (e.0, e.1, e.2, e.3) (none_second ya nb)
            | inl yb ↦
                let e = J.both there (number_there b (holds_is b lb ∙ yb)) in
                rw (e.0, e.1, e.2, e.3) (both_stay ya yb)
          ]
    ]

-- The next row of the listing.
module _ {n m : ℕ} {v : LeafSet} {p : List ℕ} {r : ℕ} {f : ℕ → ℕ} {made : ℕ} {rows chain : List ℕ} (z : 0 < n)
    (few : m ≤ most_leaves) (zm : 0 < m) (U : Underway n m v p r f made rows chain) (a b : ℕ)
    (la : uses (unused n) n p a ≡ true) (lb : uses (unused n) n p b ≡ true) (d : a ≢ b) where
  abbrev p' : List ℕ
  p' = p ++ (a ∷ b ∷ [])

  -- leaf 0 is no child
  not_zero : (x : ℕ) → uses (unused n) n p x ≡ true → x ≢ 0
  not_zero x l e =
      let w = forest z few zm U in
      omega (arith, (w.only 0 0 (rw e at l) (unfold subtree_at in rw (subtree_at_leaf n p 0 z) (leaf_has 0))).0)

  -- the free subtrees then: that of the row, and the others
  free_then :
      (x : ℕ) → free n (p ++ (a ∷ b ∷ [])) x ≡ true
      → (x ≡ n + r) ⊎ ((free n p x ≡ true) × (x ≢ a) × (x ≢ b))
  unfolding free
  free_then x h = elim (or_cases (eqb x 0) (uses (unused n) n p' x) h) [
    | inl e ↦
        let x_zero = eqb-true x 0 e in
        inr (or_left _ _ e, λ q. not_zero a la (sym q ∙ x_zero), λ q. not_zero b lb (sym q ∙ x_zero))
    | inr l ↦ elim (live_old (forest z few zm U) a b la lb d x (rw (after_row n r p U.long a b x) at l)) [
      | inl e ↦ inl e
      | inr q ↦ inr (or_right (eqb x 0) _ q.0, q.1, q.2)
    ]
  ]

  -- which of the others hold something
  holds_then :
      (x : ℕ) → x < n + r → holds v n (p ++ (a ∷ b ∷ [])) x ≡ but b (but a (holds v n p)) x
  unfolding holds free but use_row
  holds_then x low =
      rw (subtree_at_old n r p U.long a b x low, after_row n r p U.long a b x, ne_eqb x (n + r) (omega arith))
      (elim (ℕ_discrete x 0) [
        | yes e ↦
            rw (e, ne_eqb 0 a (λ q. not_zero a la (sym q)), ne_eqb 0 b (λ q. not_zero b lb (sym q)))
            (sym (and-true (meets v (subtree_at n p 0) && true) ∙ and-true (meets v (subtree_at n p 0))))
        | no g ↦
            rw (ne_eqb x 0 g)
            (shuffle (uses (unused n) n p x) (not (eqb x a)) (not (eqb x b)) (meets v (subtree_at n p x)))
      ])
    where
      shuffle : (l x y t : Bool) → (((l && x) && y) && t) ≡ (((l && t) && x) && y)
      shuffle true true true t = sym (and-true (t && true) ∙ and-true t)
      shuffle true true false t = sym (and-false (t && true))
      shuffle true false y t = sym (rw (and-false t))
      shuffle false x y t = refl

  holds_new : holds v n (p ++ (a ∷ b ∷ [])) (n + r) ≡ meets v (node (subtree_at n p a) (subtree_at n p b))
  unfolding holds free
  holds_new =
      rw (node_unused n r p U.long a b, subtree_at_new n r p U.long a b)
      (yes_or (eqb (n + r) 0) (meets v (node (subtree_at n p a) (subtree_at n p b))))
    where
      yes_or : (x y : Bool) → ((x || true) && y) ≡ y
      yes_or true y = refl
      yes_or false y = refl

  -- the numbers held then
  gather_then :
      (number : ℕ) (f' : ℕ → ℕ) → f' (n + r) ≡ number → ((x : ℕ) → x < n + r → f' x ≡ f x)
      → gather (n + (r + 1)) (holds v n (p ++ (a ∷ b ∷ []))) f'
      ≡ cond (meets v (node (subtree_at n p a) (subtree_at n p b)))
      (number ∷ gather (n + r) (but b (but a (holds v n p))) f)
      (gather (n + r) (but b (but a (holds v n p))) f)
  unfolding gather
  gather_then number f' here old =
      let next : n + (r + 1) ≡ suc (n + r) = omega arith in
      rw (
        next,
        holds_new,
        here,
        gather_ext (n + r) (holds v n p') (but b (but a (holds v n p))) f' f holds_then (λ x l t. old x l),
      )

  pub next_underway :
      {number made' : ℕ} {rows' chain' : List ℕ} (f' : ℕ → ℕ) → f' (n + r) ≡ number
      → ((x : ℕ) → x < n + r → f' x ≡ f x) → Added m (f a) (f b) made rows chain number made' rows' chain'
      → Underway n m v (p ++ (a ∷ b ∷ [])) (r + 1) f' made' rows' chain'
  next_underway {number} {made'} {rows'} {chain'} f' here old J = record {
    long = rw (length-append, U.long) (omega arith);
    kept = row_kept n r p U.long a b U.kept la lb d;
    accounted = rw (gather_then number f' here old) P.accounted;
    stands = λ x h. elim (free_then x (holds_free v n p' x h)) [
      | inl e ↦
          rw (e, here, subtree_at_new n r p U.long a b)
          (P.stands (sym holds_new ∙ rw e at h))
      | inr q ↦
          let low = free_below z few zm U x q.0 in
          let was = sym (holds_then x low) ∙ h in
          let held = sym (others_hold x q.1 q.2) ∙ was in
          rw (old x low, subtree_at_old n r p U.long a b x low)
          (P.rest (f x) _ (gather_in (n + r) (but b (but a (holds v n p))) f x low was) (U.stands x held))
    ];
    gone = λ x h t. elim (free_then x h) [
      | inl e ↦
          rw (e, here) (P.gone (rw (e, subtree_at_new n r p U.long a b) at t))
      | inr q ↦
          let low = free_below z few zm U x q.0 in
          old x low ∙ U.gone x q.0 (rw (subtree_at_old n r p U.long a b x low) at t)
    ];
  }
    where
      P : Pair z few zm U a b (used_free n p a la) (used_free n p b lb) d number made' rows' chain'
      P = pair z few zm U a b (used_free n p a la) (used_free n p b lb) d J

      others_hold : (x : ℕ) → x ≢ a → x ≢ b → but b (but a (holds v n p)) x ≡ holds v n p x
      others_hold x da db = but_other b (but a (holds v n p)) x db ∙ but_other a (holds v n p) x da

-- At first: the leaves.
module _ (n : ℕ) (v : LeafSet) (f : ℕ → ℕ) (z : 0 < n) (some : 0 < rank v n)
    (each : (k : ℕ) → k < n → f k ≡ leaf_number v k) where
  free_leaf : (k : ℕ) → k < n → free n [] k ≡ true
  unfolding free uses
  free_leaf k l = elim (ℕ_discrete k 0) [
    | yes e ↦ rw e
    | no d ↦ or_right (eqb k 0) _ (unused_is n k (omega arith) l)
  ]

  leaf_free : (k : ℕ) → free n [] k ≡ true → k < n
  unfolding free uses unused
  leaf_free k h = elim (or_cases (eqb k 0) (ltb 0 k && ltb k n) h) [
    | inl e ↦ omega (arith, eqb-true k 0 e)
    | inr l ↦ ltb-true k n (and_both (ltb 0 k) (ltb k n) l).1
  ]

  leaf_is : (k : ℕ) → subtree_at n [] k ≡ leaf k
  unfolding subtree_at with_rows
  leaf_is k = refl

  holds_leaf : (k : ℕ) → k < n → holds v n [] k ≡ v k
  unfolding holds
  holds_leaf k l = rw (free_leaf k l, leaf_is k, meets_leaf v k)

  ranked : (k : ℕ) → k < n → v k ≡ true → f k ≡ rank v k
  unfolding leaf_number
  ranked k l t = each k l ∙ rw t

  gone_leaf : (k : ℕ) → k < n → v k ≡ false → f k ≡ nothing
  unfolding leaf_number
  gone_leaf k l t = each k l ∙ rw t

  stands_leaf : (k : ℕ) → Stands (subtree_at (rank v n) []) [] k (leaf k)
  stands_leaf k = elim (ℕ_discrete k 0) [
    | yes e ↦ rw e (inr (leaf_has 0, refl, (refl, refl)))
    | no d ↦ inl (rw (leaves_leaf 0 k) (ne_eqb 0 k (λ e. d (sym e))), unfold subtree_at with_rows in refl)
  ]

  none_come : (x : ℕ) → unseen (rank v n) all_come x ≡ false
  unfolding unseen
  none_come x = and-false (ltb x (rank v n))

  each_once :
      (x : ℕ) → copies x (gather (n + 0) (holds v n []) f) + copies x []
      + indicator (unseen (rank v n) all_come x) 1
      ≡ indicator (eqb x 0 || uses (unused (rank v n)) (rank v n) [] x) 1
  unfolding uses unused copies
  each_once x =
      let whole : n + 0 ≡ n = omega arith in
      let ranks = gather_ext n (holds v n []) v f (rank v) holds_leaf (λ j l t.
      ranked j l (sym (holds_leaf j l) ∙ t)) in
      rw (whole, ranks, gather_ranks v n x, none_come x) (elim (ℕ_discrete x 0) [
        | yes e ↦ rw (e, lt-ltb 0 (rank v n) some)
        | no d ↦ rw (ne_eqb x 0 d, lt-ltb 0 x (omega arith)) (omega arith)
      ])

  pub first_underway : Underway n (rank v n) v [] 0 f 0 [] []
  unfolding lawful
  first_underway = record {
    long = refl;
    kept = refl;
    accounted = record {
      long = refl;
      kept = refl;
      each_once = each_once;
      no_zero = unfold copies in refl;
      fresh = λ e. refl;
    };
    stands = λ k h.
        let low = leaf_free k (holds_free v n [] k h) in
        let stays : v k ≡ true = sym (holds_leaf k low) ∙ h in
        rw (ranked k low stays, leaf_is k, kept_leaf v k) (unfold renumbered in stands_leaf (rank v k));
    gone = λ k h t. gone_leaf k (leaf_free k h) (rw (leaf_is k, meets_leaf v k) at t);
  }

-- At the end: the tree and leaf 0.
module _ (n : ℕ) (count : IsLeafCount n) (l : List ℕ) (keeps : KeepsRules n l) (v : LeafSet)
    (c : IsLeafCount (rank v n)) where
  abbrev top : ℕ
  top = 2 * n - 3

  z : 0 < n
  z = omega (arith, count.0)

  zm : 0 < rank v n
  zm = omega (arith, c.0)

  lawful_rows : lawful (unused n) n l ≡ true
  lawful_rows = to_lawful n (n - 2) z l keeps.numbers keeps.rules

  -- the tree is free, and but leaf 0 nothing else
  top_free : uses (unused n) n l (2 * n - 3) ≡ true
  top_free =
      let w = lawful_forest (forest_start n z) (n - 2) l keeps.numbers lawful_rows in
      let k = w.holds 1 (omega arith) (omega (arith, count.0)) in
      rw (last_alone n l count.0 keeps.numbers lawful_rows k.0 k.1) at k.1

  nothing_else : (f : ℕ → ℕ) → gather (n + (n - 2)) (but (2 * n - 3) (but 0 (holds v n l))) f ≡ []
  unfolding holds free
  nothing_else f =
      gather_none (n + (n - 2)) (but top (but 0 (holds v n l))) f (λ j low. elim (ℕ_discrete j 0) [
        | yes e ↦ rw e (is_false _ (λ t. never (but_in top (but 0 (holds v n l)) 0 t) (but_same 0 (holds v n l))))
        | no d ↦ elim (ℕ_discrete j top) [
          | yes e ↦ rw e (but_same top (but 0 (holds v n l)))
          | no g ↦ is_false _ (λ t.
              let h = but_in 0 (holds v n l) j (but_in top (but 0 (holds v n l)) j t) in
              let o = holds_free v n l j h in
              g (last_alone n l count.0 keeps.numbers lawful_rows j (rw (ne_eqb j 0 d) at o)))
        ]
      ])

  pub free_zero : free n l 0 ≡ true
  unfolding free
  free_zero = refl

  pub free_top : free n l (2 * n - 3) ≡ true
  free_top = used_free n l top top_free

  pub zero_top : 0 ≢ 2 * n - 3
  zero_top e = omega (arith, count.0)

  module _ {f : ℕ → ℕ} {made : ℕ} {rows chain : List ℕ} (U : Underway n (rank v n) v l (n - 2) f made rows chain)
      {number made' : ℕ} {rows' chain' : List ℕ}
      (J : Added (rank v n) (f 0) (f (2 * n - 3)) made rows chain number made' rows' chain') where
    P : Pair z c.1 zm U 0 top free_zero free_top zero_top number made' rows' chain'
    P = pair z c.1 zm U 0 top free_zero free_top zero_top J

    -- something stays of the whole
    whole_stays : meets v (node (subtree_at n l 0) (subtree_at n l (2 * n - 3))) ≡ true
    unfolding tree_of
    whole_stays =
        rw (subtree_at_leaf n l 0 z)
        (some_stay n v (tree_of n l) (listing_tree n count l keeps) (omega (arith, c.0)))

    alone : Accounted (rank v n) made' rows' chain' (number ∷ []) all_come
    alone = rw (whole_stays, nothing_else f) at P.accounted

    -- its number is leaf 0's
    number_zero : number ≡ 0
    unfolding copies
    number_zero = elim (ℕ_discrete 0 number) [
      | yes e ↦ sym e
      | no e ↦
          let none = none_unseen (rank v n) c.0 all_come (λ k q. refl) 0 in
          absurd (omega (arith, rw (ne_eqb 0 number e, none) at (alone.each_once 0), alone.no_zero))
    ]

    pub whole_accounted : Accounted (rank v n) made' rows' chain' (0 ∷ []) all_come
    whole_accounted = rw number_zero at alone

    pub whole_stands : Stands (subtree_at (rank v n) rows') chain' 0 (part v (node (leaf 0) (tree_of n l)))
    unfolding tree_of
    whole_stands = rw (number_zero, subtree_at_leaf n l 0 z) at (P.stands whole_stays)
