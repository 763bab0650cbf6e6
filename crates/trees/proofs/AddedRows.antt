-- A row added after lawful rows, of two numbers that these have not used: the rows stay lawful, its node is not used,
-- and under the numbers before it stands what stood there. A row added in an array; and lawful rows read one by one.
use mathlib.Core.Path.{◌≡◌, refl, ap, sym, ◌∙◌}
use mathlib.Core.Logic.{◌≢◌}
use mathlib.Core.Bool.{true}
use mathlib.Core.List.{List, [], ◌∷◌, ◌++◌}
use Prim.Native.Nat.{ℕ, suc, ◌+◌, ◌*◌, ◌<◌}
use native.Mathlib.Numerals.{add-one}
use native.Mathlib.Omega.{arith}
use borrow.Author.Tests.{ne_eqb}
use lib.Dec.{eqb}
use lib.ListN.{length, get_or, set, take, drop, length-set, take-append-drop}
use lib.Seq.{take-suc, drop-cons, take-suc-set, append_snoc, length-take-le}
use Rattle.base.proofs.Bools.{or_left, or_right, eqb_same}
use Rattle.trees.specs.Trees.{leaf, node}
use Rattle.trees.specs.Listings.{with_rows, subtree_at}
use Rattle.trees.specs.inner.Forests.{unused, use_row, uses, lawful}
use Rattle.trees.proofs.Forests.{lawful_row, LawfulRow, row_lawful}
use Rattle.trees.proofs.SubtreesByRow.{rows_old}
use Rattle.trees.proofs.Blocks.{with_rows_append, uses_append, lawful_append, lawful_parts}

module _ (n r : ℕ) (l : List ℕ) (long : length l ≡ 2 * r) (a b : ℕ) where
  abbrev row : List ℕ
  row = a ∷ b ∷ []

  pub row_kept :
      lawful (unused n) n l ≡ true → uses (unused n) n l a ≡ true → uses (unused n) n l b ≡ true → a ≢ b
      → lawful (unused n) n (l ++ row) ≡ true
  row_kept h la lb d =
      lawful_append (unused n) n r l row long h
      (lawful_row (uses (unused n) n l) (n + r) a b [] la lb d (unfold lawful in refl))

  pub after_row : (v : ℕ) → uses (unused n) n (l ++ row) v ≡ use_row (uses (unused n) n l) (n + r) a b v
  unfolding uses
  after_row v = rw (uses_append (unused n) n r l row long)

  pub node_unused : uses (unused n) n (l ++ row) (n + r) ≡ true
  unfolding use_row
  node_unused = rw (after_row (n + r)) (or_left _ _ (eqb_same (n + r)))

  pub still_unused :
      (v : ℕ) → uses (unused n) n l v ≡ true → v ≢ a → v ≢ b → uses (unused n) n (l ++ row) v ≡ true
  unfolding use_row
  still_unused v h x y = rw (after_row v, h, ne_eqb v a x, ne_eqb v b y) (or_right (eqb v (n + r)) _ refl)

  pub subtree_at_new : subtree_at n (l ++ row) (n + r) ≡ node (subtree_at n l a) (subtree_at n l b)
  unfolding subtree_at with_rows
  subtree_at_new = rw (with_rows_append leaf n r l row long, eqb_same (n + r))

  pub subtree_at_old : (v : ℕ) → v < n + r → subtree_at n (l ++ row) v ≡ subtree_at n l v
  unfolding subtree_at
  subtree_at_old v h = rw (with_rows_append leaf n r l row long) (rows_old _ (n + r) row v h)

-- a row stored in an array, behind m others
pub row_stored :
    (rows : List ℕ) (m a b : ℕ) → 2 * m + 1 < length rows
    → take (2 * (m + 1)) (set (set rows (2 * m) a) (2 * m + 1) b) ≡ take (2 * m) rows ++ (a ∷ b ∷ [])
row_stored rows m a b h =
    let next : 2 * (m + 1) ≡ suc (suc (2 * m)) = omega arith in
    let inside : suc (2 * m) < length (set rows (2 * m) a) = omega (arith, length-set rows (2 * m) a) in
    rw (next, add-one (2 * m))
    (take-suc-set (set rows (2 * m) a) (suc (2 * m)) b inside
    ∙ rw (take-suc-set rows (2 * m) a (omega arith)) (append_snoc (take (2 * m) rows) a (b ∷ [])))

-- Lawful rows read one by one: the first r are lawful, and the next joins two numbers that they have not used.
module _ (n : ℕ) (l : List ℕ) (r : ℕ) (inside : 2 * r + 1 < length l) where
  pub next_row : take (2 * (r + 1)) l ≡ take (2 * r) l ++ (get_or l (2 * r) 0 ∷ get_or l (2 * r + 1) 0 ∷ [])
  next_row =
      let next : 2 * (r + 1) ≡ suc (suc (2 * r)) = omega arith in
      let place : 2 * r + 1 ≡ suc (2 * r) = omega arith in
      rw (next, place, take-suc l (suc (2 * r)) 0 (omega arith), take-suc l (2 * r) 0 (omega arith))
      (append_snoc (take (2 * r) l) (get_or l (2 * r) 0) (get_or l (suc (2 * r)) 0 ∷ []))

  pub rows_read :
      lawful (unused n) n l ≡ true
      → (lawful (unused n) n (take (2 * r) l) ≡ true)
      × LawfulRow (uses (unused n) n (take (2 * r) l)) (n + r) (get_or l (2 * r) 0) (get_or l (2 * r + 1) 0)
      (drop (suc (suc (2 * r))) l)
  rows_read h =
      let place : 2 * r + 1 ≡ suc (2 * r) = omega arith in
      let whole : l ≡ take (2 * r) l ++ (get_or l (2 * r) 0 ∷ get_or l (suc (2 * r)) 0 ∷ drop (suc (suc (2 * r))) l) =
      sym (take-append-drop (2 * r) l)
      ∙ rw (drop-cons l (2 * r) 0 (omega arith), drop-cons l (suc (2 * r)) 0 (omega arith)) in
      let parts = lawful_parts (unused n) n r (take (2 * r) l) _ (length-take-le (2 * r) l (omega arith))
      (sym (ap (lawful (unused n) n) whole) ∙ h) in
      (parts.0, rw place (row_lawful _ (n + r) _ _ _ parts.1))
