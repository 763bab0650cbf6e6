-- Names in a sheet: equal names, where names start, and when the name at a place is good.
use mathlib.Core.Path.{◌≡◌, refl, ap, ◌∙◌}
use mathlib.Core.Logic.{inl, inr}
use mathlib.Core.Bool.{Bool, true, false, ◌&&◌, and-false}
use mathlib.Core.List.{List, [], ◌∷◌, ◌++◌}
use Prim.Native.Nat.{ℕ, zero, suc, ◌+◌, ◌≤◌, ◌<◌}
use native.Mathlib.Numerals.{add-one}
use native.Mathlib.Omega.{arith}
use native.Mathlib.Decide.{dec_lt}
use borrow.Author.Tests.{eqb-true, leb-true, le-leb, lt-leb, le-ltb, lt-ltb}
use lib.Dec.{leb, ltb, eqb}
use lib.ListN.{length, get_or, take, drop, length-drop}
use lib.Seq.{length-take-le, take-add, drop-cons}
use Rattle.base.specs.Lists.{tab, any_in, all_in}
use Rattle.base.proofs.Bools.{bool?, is_false, and_both, and_is, eqb_same, never}
use Rattle.base.proofs.Lists.{length_tab, getD_tab, any_append}
use Rattle.sheet_rules.specs.Sheets.{longest_name, name_at, next_name, name_start, name, between, name_byte}
use Rattle.sheet_rules.specs.Sheets.{is_name}
use Rattle.sheet_rules.specs.Sheets.{same, leaf_named}
use Rattle.sheet_rules.specs.Sheets.{leaves_of, names_of}
use Rattle.sheet_rules.specs.Operations.{good_at}

-- `same` tests equality
pub same_is : (l m : List ℕ) → same l m ≡ true → l ≡ m
unfolding same
same_is [] [] h = refl
same_is [] (y ∷ m) h = absurd (never h refl)
same_is (x ∷ l) [] h = absurd (never h refl)
same_is (x ∷ l) (y ∷ m) h =
    let r = and_both (eqb x y) (same l m) h in
    let e = eqb-true x y r.0 in
    let f = same_is l m r.1 in
    rw (e, f)

pub same_self : (l : List ℕ) → same l l ≡ true
unfolding same
same_self [] = refl
same_self (x ∷ l) = and_is _ _ (eqb_same x) (same_self l)

-- names of two lengths are not equal
pub same_lengths : (l m : List ℕ) → (length l ≡ length m → ⊥) → same l m ≡ false
same_lengths l m h = is_false (same l m) (λ t. h (ap length (same_is l m t)))

-- a name that is none of those known is their number's
pub named_none :
    (known : List (List ℕ)) (x : List ℕ) → any_in (same x) known ≡ false → leaf_named known x ≡ length known
unfolding any_in leaf_named
named_none [] x h = refl
named_none (y ∷ l) x h = elim (bool? (same x y)) [
  | inl t ↦ absurd (never (rw t) h)
  | inr f ↦ rw (f, named_none l x (rw f at h))
]

start_mono : (S : List ℕ) (i j : ℕ) → i ≤ j → name_start S i ≤ name_start S j
unfolding name_start
start_mono S zero zero h = omega arith
start_mono S (suc i) zero h = absurd (omega arith)
start_mono S i (suc j) h = elim (dec_lt j i) [
  | yes l ↦ (let e : i ≡ suc j = omega arith in rw e (omega arith))
  | no g ↦ omega (arith, start_mono S i j (omega arith))
]

-- what stands where leaf i's name starts: the name, and the way to the next
module _ (S : List ℕ) (i : ℕ) {p : ℕ} (e : p ≡ name_start S i) where
  pub start_next : next_name S p ≡ name_start S (i + 1)
  unfolding name_start
  start_next = rw (e, add-one i)

  pub start_name : name_at S p ≡ name S i
  unfolding name
  start_name = rw e

-- a name ends where a later one starts, or before
pub next_before : (S : List ℕ) {p k i : ℕ} → p ≡ name_start S k → k < i → next_name S p ≤ name_start S i
next_before S {p} {k} {i} e l = omega (arith, start_next S k e, start_mono S (k + 1) i (omega arith))

-- a name that ends within the sheet has as many bytes as its length byte says
pub name_length : (S : List ℕ) (p : ℕ) → next_name S p ≤ length S → length (name_at S p) ≡ get_or S p 0
unfolding name_at
name_length S p h = length-take-le (get_or S p 0) (drop (p + 1) S) (rw (length-drop (p + 1) S) (omega arith))

-- it stands behind its length byte
pub name_stands :
    (S : List ℕ) (p : ℕ) → next_name S p ≤ length S
    → take (next_name S p) S ≡ take p S ++ (length (name_at S p) ∷ name_at S p)
name_stands S p h =
    let b = get_or S p 0 in
    let e : p + 1 + b ≡ p + suc b = omega arith in
    rw (name_length S p h, e, take-add p (suc b) S, drop-cons S p 0 (omega arith)) (unfold name_at in rw (add-one p))

-- the name at p is not good where it begins at or after the offset, or ends after it
pub good_late : (S : List ℕ) (o p : ℕ) → o ≤ p → good_at S o p ≡ false
unfolding good_at
good_late S o p h = rw (le-ltb p o h)

pub good_past : (S : List ℕ) (o p : ℕ) → o < next_name S p → good_at S o p ≡ false
unfolding good_at
good_past S o p h = rw (lt-leb (next_name S p) o h, and-false (ltb p o))

-- else it goes by its length byte and its bytes
good_within :
    (S : List ℕ) (o p : ℕ) → o ≤ length S → next_name S p ≤ o
    → good_at S o p ≡ (between 1 longest_name (get_or S p 0) && all_in name_byte (name_at S p))
unfolding good_at is_name
good_within S o p l h =
    rw (lt-ltb p o (omega arith), le-leb (next_name S p) o h, name_length S p (omega arith))

good_out :
    (S : List ℕ) (o p : ℕ) → o ≤ length S → between 1 longest_name (get_or S p 0) ≡ false → good_at S o p ≡ false
good_out S o p l e = elim (dec_lt o (next_name S p)) [
  | yes h ↦ good_past S o p h
  | no h ↦ good_within S o p l (omega arith) ∙ rw e
]

pub good_empty : (S : List ℕ) (o p : ℕ) → o ≤ length S → get_or S p 0 ≡ 0 → good_at S o p ≡ false
good_empty S o p l e = good_out S o p l (rw (lt-leb 1 (get_or S p 0) (omega arith)))

pub good_long : (S : List ℕ) (o p : ℕ) → o ≤ length S → longest_name < get_or S p 0 → good_at S o p ≡ false
good_long S o p l e =
    let b = get_or S p 0 in
    good_out S o p l (rw (lt-leb b longest_name e, and-false (leb 1 b)))

pub good_bytes :
    (S : List ℕ) (o p : ℕ) → o ≤ length S → next_name S p ≤ o → 0 < get_or S p 0 → get_or S p 0 ≤ longest_name
    → good_at S o p ≡ all_in name_byte (name_at S p)
good_bytes S o p l h e e' =
    good_within S o p l h ∙ rw (le-leb 1 (get_or S p 0) (omega arith), le-leb (get_or S p 0) longest_name e')

-- what a good name has
good_both :
    (S : List ℕ) (o p : ℕ) → good_at S o p ≡ true
    → ((ltb p o && leb (next_name S p) o) ≡ true) × (is_name (name_at S p) ≡ true)
unfolding good_at
good_both S o p h = and_both (ltb p o && leb (next_name S p) o) (is_name (name_at S p)) h

pub good_ends : (S : List ℕ) (o p : ℕ) → good_at S o p ≡ true → next_name S p ≤ o
good_ends S o p h =
    leb-true (next_name S p) o (and_both (ltb p o) (leb (next_name S p) o) (good_both S o p h).0).1

pub good_is_name : (S : List ℕ) (o p : ℕ) → good_at S o p ≡ true → is_name (name_at S p) ≡ true
good_is_name S o p h = (good_both S o p h).1

pub good_by : (S : List ℕ) (o p : ℕ) → next_name S p ≤ o → is_name (name_at S p) ≡ true → good_at S o p ≡ true
unfolding good_at
good_by S o p h e = rw (lt-ltb p o (omega arith), le-leb (next_name S p) o h) e

-- no member of a list by a rule passes
pub any_tab_none :
    {A : Type 0} (f : A → Bool) (g : ℕ → A) (n : ℕ) → ((k : ℕ) → k < n → f (g k) ≡ false) → any_in f (tab n g) ≡ false
unfolding any_in tab
any_tab_none f g zero h = refl
any_tab_none f g (suc n) h =
    let others = any_tab_none f g n (λ k l. h k (omega arith)) in
    rw (any_append f (tab n g) (g n ∷ []), others, h n (omega arith))

-- The names that are read.
pub names_many : (S : List ℕ) → length (names_of S) ≡ leaves_of S
unfolding names_of
names_many S = length_tab (leaves_of S) (name S)

pub names_at : (S : List ℕ) (i : ℕ) → i < leaves_of S → get_or (names_of S) i [] ≡ name S i
unfolding names_of
names_at S i l = getD_tab (leaves_of S) (name S) i [] l
