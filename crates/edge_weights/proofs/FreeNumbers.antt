-- The free numbers before a row of a listing that keeps the rules: both children of the row are among them, and after
-- it the node is free in their place, until only the tree's node is left, and leaf 0. No row names a number twice, or
-- one made later.
use mathlib.Core.Path.{◌≡◌, sym}
use mathlib.Core.Logic.{◌⊎◌, inl, inr, ◌≢◌}
use mathlib.Core.Bool.{Bool, true}
use mathlib.Core.List.{List, [], ◌∷◌}
use Prim.Native.Nat.{ℕ, suc, ◌+◌, ◌-◌, ◌*◌, ◌≤◌, ◌<◌}
use native.Mathlib.Omega.{arith}
use native.Mathlib.Decide.{dec_lt, ℕ_discrete}
use borrow.Author.Tests.{eq-eqb, ne_eqb}
use lib.Dec.{eqb}
use lib.ListN.{length, get_or}
use Rattle.base.proofs.Bools.{or_left, or_right}
use Rattle.limits.specs.Limits.{IsLeafCount}
use Rattle.trees.specs.Listings.{KeepsRules}
use Rattle.trees.specs.inner.Forests.{unused, use_row, uses, lawful}
use Rattle.trees.proofs.Forests.{unused_is, last_alone}
use Rattle.trees.proofs.Rules.{to_lawful}
use Rattle.trees.proofs.SubtreesByRow.{child_before, child_positive, named_once}
use Rattle.edge_weights.specs.inner.Rows.{Free}

-- what is free after row k is its node, or was free before it and is no child of it
pub free_before :
    {n : ℕ} {l : List ℕ} {k e : ℕ} → Free n l (k + 1) e
    → (e ≡ n + k) ⊎ (Free n l k e × (e ≢ get_or l (2 * k) 0) × (e ≢ get_or l (2 * k + 1) 0))
free_before {n} {l} {k} {e} f = elim (ℕ_discrete e (n + k)) [
  | yes same ↦ inl same
  | no other ↦ inr (
    record { made = omega (arith, f.made); unnamed = λ q early. f.unnamed q (omega arith) },
    λ same. f.unnamed (2 * k) (omega arith) (omega arith),
    λ same. f.unnamed (2 * k + 1) (omega arith) (omega arith),
  )
]

-- what no row names is not used up: an item that was there, and the node of a row
unnamed_left :
    (live : ℕ → Bool) (r m : ℕ) (l : List ℕ) → length l ≡ 2 * m → (e : ℕ)
    → (live e ≡ true) ⊎ ((r ≤ e) × (e < r + m)) → ((q : ℕ) → q < 2 * m → get_or l q 0 ≢ e) → uses live r l e ≡ true
unfolding uses
unnamed_left live r m [] long e (inl there) h = there
unnamed_left live r m [] long e (inr made) h = absurd (omega arith)
unnamed_left live r m (a ∷ []) long e there h = absurd (omega arith)
unnamed_left live r m (a ∷ b ∷ l) long e there h =
    unnamed_left (use_row live r a b) (suc r) (m - 1) l (omega arith) e (after there) (λ q early.
    h (suc (suc q)) (omega arith))
  where
    after :
        (live e ≡ true) ⊎ ((r ≤ e) × (e < r + m))
        → (use_row live r a b e ≡ true) ⊎ ((suc r ≤ e) × (e < suc r + (m - 1)))
    after (inl old) = unfold use_row in
        let not_a = ne_eqb e a (λ same. h 0 (omega arith) (sym same)) in
        let not_b = ne_eqb e b (λ same. h 1 (omega arith) (sym same)) in
        inl (or_right (eqb e r) _ (rw (old, not_a, not_b)))
    after (inr made) = unfold use_row in
        elim (ℕ_discrete e r) [
          | yes same ↦ inl (or_left _ _ (eq-eqb e r same))
          | no other ↦ inr (omega arith, omega arith)
        ]

-- A listing that keeps the rules.
module _ (n : ℕ) (l : List ℕ) (count : IsLeafCount n) (keeps : KeepsRules n l) where
  -- the number at a place is below the last, and no other place names it
  pub child_range : (q : ℕ) → q < 2 * (n - 2) → (0 < get_or l q 0) × (get_or l q 0 < 2 * n - 3)
  child_range q h =
      let long = keeps.numbers in (
        child_positive n l (omega (arith, count)) keeps q (omega arith),
        omega (arith, child_before n l count keeps q (omega arith), count),
      )

  pub children_differ : (q r : ℕ) → q < 2 * (n - 2) → r < 2 * (n - 2) → q ≢ r → get_or l q 0 ≢ get_or l r 0
  children_differ q r hq hr d =
      let long = keeps.numbers in
      named_once n l (omega (arith, count)) keeps q r (omega arith) (omega arith) d

  -- a child of row k, at one of its two places
  child_free : (k p : ℕ) → k < n - 2 → 2 * k ≤ p → p < 2 * k + 2 → Free n l k (get_or l p 0)
  child_free k p row low high =
      let long = keeps.numbers in
      record {
        made = omega (arith, child_before n l count keeps p (omega arith));
        unnamed = λ q early. children_differ q p (omega arith) (omega arith) (omega arith);
      }

  module _ (k : ℕ) (row : k < n - 2) where
    pub first_free : Free n l k (get_or l (2 * k) 0)
    first_free = child_free k (2 * k) row (omega arith) (omega arith)

    pub second_free : Free n l k (get_or l (2 * k + 1) 0)
    second_free = child_free k (2 * k + 1) row (omega arith) (omega arith)

    -- its node, after it
    pub node_free : Free n l (k + 1) (n + k)
    node_free = record {
      made = omega arith;
      unnamed = λ q early same.
          let long = keeps.numbers in
          omega (arith, child_before n l count keeps q (omega arith));
    }

  -- after the last row the tree's node is free, and no other number but leaf 0
  pub last_free : Free n l (n - 2) (2 * n - 3)
  last_free =
      let rows : n - 3 + 1 ≡ n - 2 = omega (arith, count) in
      let last : n + (n - 3) ≡ 2 * n - 3 = omega (arith, count) in
      rw (rows, last) at (node_free (n - 3) (omega (arith, count)))

  pub only_last_free : (e : ℕ) → 0 < e → Free n l (n - 2) e → e ≡ 2 * n - 3
  only_last_free e positive f =
      last_alone n l count.0 keeps.numbers lawful_rows e
      (unnamed_left (unused n) n (n - 2) l keeps.numbers e (elim (dec_lt e n) [
        | yes low ↦ inl (unused_is n e positive low)
        | no high ↦ inr (omega arith, f.made)
      ]) f.unnamed)
    where
      lawful_rows : lawful (unused n) n l ≡ true
      lawful_rows = to_lawful n (n - 2) (omega (arith, count)) l keeps.numbers keeps.rules
