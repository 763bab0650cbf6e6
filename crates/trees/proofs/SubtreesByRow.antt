-- Row by row: the node of row k of a listing that keeps the rules joins what stands under its two children, numbers
-- that come before it. A row changes nothing under the numbers before it, so what was read under a number stays.
-- Under each number stand distinct leaves below n, and what stands under the node of a row is a subtree of the tree.
-- No number is leaf 0, and none is named twice.
use mathlib.Core.Path.{◌≡◌, refl, sym, ◌∙◌}
use mathlib.Core.Logic.{inl, inr, ◌≢◌}
use mathlib.Core.Bool.{Bool, true, false}
use mathlib.Core.List.{List, [], ◌∷◌}
use mathlib.Core.Option.{none}
use Prim.Native.Nat.{ℕ, zero, suc, ◌+◌, ◌-◌, ◌*◌, ◌/◌, ◌<◌}
use native.Mathlib.Nat.{zero-add, add-zero}
use native.Mathlib.Omega.{arith}
use native.Mathlib.Decide.{dec_lt, ℕ_discrete}
use lib.Dec.{eqb}
use lib.ListN.{length, get_or}
use Rattle.base.specs.Lists.{any_in}
use Rattle.base.proofs.Bools.{never, or_neither, eqb_same}
use Rattle.limits.specs.Limits.{IsLeafCount}
use Rattle.trees.specs.Trees.{Tree, leaf, node}
use Rattle.trees.specs.Listings.{child, rules_refusal_from, rules_refusal, KeepsRules, with_rows, subtree_at}
use Rattle.trees.specs.Listings.{tree_of}
use Rattle.trees.proofs.Trees.{leaf_eq, Distinct, Within}
use Rattle.trees.proofs.Subtrees.{In, in_whole}
use Rattle.trees.specs.inner.Forests.{use_row, uses, lawful}
use Rattle.trees.proofs.Forests.{LawfulRow, row_lawful, Forest, with_one_row, row_old, row_new, forest_row}
use Rattle.trees.proofs.Forests.{live_r, live_keep, forest_start, last_alone}
use Rattle.trees.proofs.Rules.{child_in, place_keeps, place_kept, to_lawful}

-- rows change nothing under the numbers before them
pub rows_old : (f : ℕ → Tree) (r : ℕ) (l : List ℕ) (k : ℕ) → k < r → with_rows f r l k ≡ f k
unfolding with_rows with_one_row
rows_old f r [] k h = refl
rows_old f r (a ∷ []) k h = refl
rows_old f r (a ∷ b ∷ l) k h = rows_old (with_one_row f r a b) (suc r) l k (omega arith) ∙ row_old f r a b k h

-- the node of row j joins what stands under its children, where these come before it
rows_node :
    (f : ℕ → Tree) (r : ℕ) (l : List ℕ) (j : ℕ) → 2 * j + 1 < length l → get_or l (2 * j) 0 < r + j
    → get_or l (2 * j + 1) 0 < r + j
    → with_rows f r l (r + j) ≡ node (with_rows f r l (get_or l (2 * j) 0)) (with_rows f r l (get_or l (2 * j + 1) 0))
unfolding with_rows with_one_row
rows_node f r [] j h p q = absurd (omega arith)
rows_node f r (a ∷ []) j h p q = absurd (omega arith)
rows_node f r (a ∷ b ∷ l) zero h p q =
    rw (add-zero r, still r (omega arith), still a (omega arith), still b (omega arith), row_new f r a b)
    (rw (row_old f r a b a (omega arith), row_old f r a b b (omega arith)))
  where
    still : (k : ℕ) → k < suc r → with_rows (with_one_row f r a b) (suc r) l k ≡ with_one_row f r a b k
    still = rows_old (with_one_row f r a b) (suc r) l
rows_node f r (a ∷ b ∷ l) (suc j) h p q =
    let up : r + suc j ≡ suc r + j = omega arith in
    let first : 2 * suc j ≡ suc (suc (2 * j)) = omega arith in
    let second : 2 * suc j + 1 ≡ suc (suc (2 * j + 1)) = omega arith in
    rw (up, second, first)
    (rows_node (with_one_row f r a b) (suc r) l j (omega arith) (rw (up, first) at p) (rw (up, second) at q))

-- a leaf's number has that leaf under it
pub subtree_at_leaf : (n : ℕ) (l : List ℕ) (k : ℕ) → k < n → subtree_at n l k ≡ leaf k
unfolding subtree_at
subtree_at_leaf n l k h = rows_old leaf n l k h

-- what the rules say of each place
kept_at :
    (n : ℕ) (before : List ℕ) (i p : ℕ) (l : List ℕ) → rules_refusal_from n before i p l ≡ none → (q : ℕ)
    → q < length l → child n ((i + q) / 2) (get_or l q 0) ≡ true
kept_at n before i p [] h q lq = absurd (omega arith)
kept_at n before i p (c ∷ l) h zero lq = rw (add-zero i) (place_kept n before i p c l h).0
kept_at n before i p (c ∷ l) h (suc q) lq =
    let here = place_kept n before i p c l h in
    let rest = sym (place_keeps n before i p c l here.0 here.1) ∙ h in
    let up : i + suc q ≡ suc i + q = omega arith in
    rw up (kept_at n (c ∷ before) (suc i) (suc p) l rest q (omega arith))

-- A listing that keeps the rules.
module _ (n : ℕ) (l : List ℕ) (c : IsLeafCount n) (w : KeepsRules n l) where
  -- a child comes before its node
  pub child_before : (p : ℕ) → p < length l → get_or l p 0 < n + p / 2
  unfolding rules_refusal
  child_before p h =
      (child_in n (p / 2) (get_or l p 0) (omega (arith, c.0)) (rw zero-add at (kept_at n [] 0 0 l w.rules p h))).1

  -- the node of row k
  pub subtree_at_row :
      (k : ℕ) → k < n - 2
      → subtree_at n l (n + k) ≡ node (subtree_at n l (get_or l (2 * k) 0)) (subtree_at n l (get_or l (2 * k + 1) 0))
  unfolding subtree_at
  subtree_at_row k h =
      let first = child_before (2 * k) (omega (arith, w.numbers)) in
      let second = child_before (2 * k + 1) (omega (arith, w.numbers)) in
      rows_node leaf n l k (omega (arith, w.numbers)) (omega arith) (omega arith)

after_row :
    {n r : ℕ} {f : ℕ → Tree} {live : ℕ → Bool} {a b : ℕ} {l : List ℕ} → Forest n r f live → LawfulRow live r a b l
    → Forest n (suc r) (with_one_row f r a b) (use_row live r a b)
after_row {a = a} {b} w p = forest_row w a b p.first p.second p.differ

-- a subtree of an item not yet used is a subtree of an item that is left after the rows
part_left :
    {n r : ℕ} {f : ℕ → Tree} {live : ℕ → Bool} → Forest n r f live → (l : List ℕ) → lawful live r l ≡ true
    → (X : Tree) (k : ℕ) → live k ≡ true → In X (f k) → (t : ℕ) × (uses live r l t ≡ true) × In X (with_rows f r l t)
unfolding with_rows uses with_one_row
part_left w [] h X k p i = (k, p, i)
part_left w (a ∷ []) h X k p i = (k, p, i)
part_left {r = r} {f} {live} w (a ∷ b ∷ l) h X k p i =
    let row = row_lawful live r a b l h in
    let left = part_left {r = suc r} (after_row w row) l row.rest X in
    let made = live_r w a b row.first row.second row.differ in
    elim (ℕ_discrete k a) [
      | yes e ↦ left r made (rw (row_new f r a b) (inr (inl (rw e at i))))
      | no other_a ↦ elim (ℕ_discrete k b) [
        | yes e ↦ left r made (rw (row_new f r a b) (inr (inr (rw e at i))))
        | no other_b ↦
            left k (live_keep w a b row.first row.second row.differ k p other_a other_b)
            (rw (row_old f r a b k (w.below k p)) i)
      ]
    ]

-- what each row makes: distinct leaves below n, and a subtree of an item that is left
rows_distinct_below :
    {n r : ℕ} {f : ℕ → Tree} {live : ℕ → Bool} → Forest n r f live → (l : List ℕ) (m t : ℕ) → length l ≡ 2 * m → t < m
    → lawful live r l ≡ true
    → Distinct (with_rows f r l (r + t)) × Within n (with_rows f r l (r + t))
    × ((k : ℕ) × (uses live r l k ≡ true) × In (with_rows f r l (r + t)) (with_rows f r l k))
unfolding with_rows uses with_one_row
rows_distinct_below w [] m t e h g = absurd (omega arith)
rows_distinct_below w (a ∷ []) m t e h g = absurd (omega arith)
rows_distinct_below {r = r} {f} {live} w (a ∷ b ∷ l) m zero e h g =
    let row = row_lawful live r a b l g in
    let after = after_row w row in
    let made = live_r w a b row.first row.second row.differ in
    rw (add-zero r, rows_old (with_one_row f r a b) (suc r) l r (omega arith)) (
      after.distinct r made,
      λ x q. (after.only r x made q).1,
      part_left after l row.rest (with_one_row f r a b r) r made (in_whole (with_one_row f r a b r)),
    )
rows_distinct_below {r = r} {live = live} w (a ∷ b ∷ l) m (suc t) e h g =
    let p = row_lawful live r a b l g in
    let next : r + suc t ≡ suc r + t = omega arith in
    rw next (rows_distinct_below {r = suc r} (after_row w p) l (m - 1) t (omega arith) (omega arith) p.rest)

-- under each number stand distinct leaves below n
pub distinct_below :
    (n : ℕ) (l : List ℕ) (c : ℕ) → IsLeafCount n → KeepsRules n l → c < 2 * n - 2
    → Distinct (subtree_at n l c) × Within n (subtree_at n l c)
unfolding subtree_at
distinct_below n l c count keeps high = elim (dec_lt c n) [
  | yes low ↦ rw (subtree_at_leaf n l c low) (tt, λ k h. omega (arith, leaf_eq k c h))
  | no low ↦
      let here : n + (c - n) ≡ c = omega arith in
      let rows = to_lawful n (n - 2) (omega arith) l keeps.numbers keeps.rules in
      let made = rows_distinct_below (forest_start n (omega arith)) l (n - 2) (c - n) keeps.numbers
      (omega arith) rows in
      (rw here at made.0, rw here at made.1)
]

-- what stands under the node of a row is a subtree of the tree
pub subtree_at_in :
    (n : ℕ) (l : List ℕ) (k : ℕ) → IsLeafCount n → KeepsRules n l → k < n - 2
    → In (subtree_at n l (n + k)) (tree_of n l)
unfolding subtree_at tree_of
subtree_at_in n l k count keeps h =
    let rows = to_lawful n (n - 2) (omega arith) l keeps.numbers keeps.rules in
    let made = (rows_distinct_below (forest_start n (omega arith)) l (n - 2) k keeps.numbers h rows).2 in
    rw (last_alone n l count.0 keeps.numbers rows made.0 made.1) at made.2

-- what is named nowhere in a list is not its first number, and is named nowhere in the rest
any_more : (x c : ℕ) (l : List ℕ) → any_in (eqb x) (c ∷ l) ≡ false → (eqb x c ≡ false) × (any_in (eqb x) l ≡ false)
unfolding any_in
any_more x c l h = or_neither (eqb x c) (any_in (eqb x) l) h

-- What the rules say of the child at a place: it is no leaf 0, and differs from those named before.
module _ (n : ℕ) where
  rest_keeps :
      (before : List ℕ) (p c : ℕ) (l : List ℕ) → rules_refusal_from n before p p (c ∷ l) ≡ none
      → rules_refusal_from n (c ∷ before) (suc p) (suc p) l ≡ none
  rest_keeps before p c l h =
      let r = place_kept n before p p c l h in
      sym (place_keeps n before p p c l r.0 r.1) ∙ h

  new_at :
      0 < n → (before : List ℕ) (p : ℕ) (l : List ℕ) → rules_refusal_from n before p p l ≡ none → (q : ℕ)
      → q < length l → (0 < get_or l q 0) × (any_in (eqb (get_or l q 0)) before ≡ false)
  new_at z before p [] h q lq = absurd (omega arith)
  new_at z before p (c ∷ l) h zero lq =
      let r = place_kept n before p p c l h in
      ((child_in n (p / 2) c z r.0).0, r.1)
  new_at z before p (c ∷ l) h (suc q) lq =
      let r = new_at z (c ∷ before) (suc p) l (rest_keeps before p c l h) q (omega arith) in
      (r.0, (any_more (get_or l q 0) c before r.1).1)

  differ_at :
      0 < n → (before : List ℕ) (p : ℕ) (l : List ℕ) → rules_refusal_from n before p p l ≡ none → (q r : ℕ) → q < r
      → r < length l → get_or l q 0 ≢ get_or l r 0
  differ_at z before p [] h q r lq lr e = omega arith
  differ_at z before p (c ∷ l) h q zero lq lr e = omega arith
  differ_at z before p (c ∷ l) h zero (suc r) lq lr e =
      let named = (new_at z (c ∷ before) (suc p) l (rest_keeps before p c l h) r (omega arith)).1 in
      never (eqb_same c) (rw (sym e) at (any_more (get_or l r 0) c before named).0)
  differ_at z before p (c ∷ l) h (suc q) (suc r) lq lr e =
      differ_at z (c ∷ before) (suc p) l (rest_keeps before p c l h) q r (omega arith) (omega arith) e

  module _ (l : List ℕ) (z : 0 < n) (keeps : KeepsRules n l) where
    pub child_positive : (q : ℕ) → q < length l → 0 < get_or l q 0
    unfolding rules_refusal
    child_positive q h = (new_at z [] 0 l keeps.rules q h).0

    pub named_once : (q r : ℕ) → q < length l → r < length l → q ≢ r → get_or l q 0 ≢ get_or l r 0
    unfolding rules_refusal
    named_once q r lq lr d e = elim (dec_lt q r) [
      | yes less ↦ differ_at z [] 0 l keeps.rules q r less lr e
      | no g ↦ differ_at z [] 0 l keeps.rules r q (omega arith) lq (sym e)
    ]
