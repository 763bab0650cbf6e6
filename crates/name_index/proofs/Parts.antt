-- What is left of a list behind so many members, as a loop walks it from the front: a turn, so many turns at once, the
-- end.
use mathlib.Core.Path.{◌≡◌, refl, ap, sym, ◌∙◌}
use mathlib.Core.Logic.{inl, inr}
use mathlib.Core.Bool.{Bool, true, false, ◌&&◌}
use mathlib.Core.List.{List, [], ◌∷◌, ◌++◌}
use Prim.Native.Nat.{ℕ, ◌+◌, ◌≤◌, ◌<◌}
use native.Mathlib.Numerals.{add-one}
use native.Mathlib.Omega.{arith}
use borrow.Author.Tests.{eqb-true, eq-eqb}
use lib.Dec.{eqb}
use lib.ListN.{length, get_or, take, drop, length-drop, drop_of_length-le}
use lib.Seq.{length-take-le, drop-cons, drop-drop}
use Rattle.std.proofs.lemmas.List.{take-append-drop}
use Rattle.base.specs.Lists.{all_in}
use Rattle.base.proofs.Bools.{bool?, bool_iff}
use Rattle.byte_numbers.specs.Bytes.{AreBytes, number, low_first}
use Rattle.byte_numbers.proofs.Bytes.{low_part}
use Rattle.sheet_rules.specs.Sheets.{same}
use Rattle.sheet_rules.proofs.Names.{same_is, same_self}

pub rest_next :
    (S : List ℕ) (k : ℕ) → k < length S → drop k S ≡ get_or S k 0 ∷ drop (k + 1) S
rest_next S k h = rw (drop-cons S k 0 h, add-one k)

-- two tests walked so: of every byte by itself, and of two texts that may be the same
pub every_turn :
    (f : ℕ → Bool) (S : List ℕ) (k : ℕ) → k < length S
    → all_in f (drop k S) ≡ (f (get_or S k 0) && all_in f (drop (k + 1) S))
unfolding all_in
every_turn f S k h = rw (rest_next S k h)

pub every_end : (f : ℕ → Bool) (S : List ℕ) (k : ℕ) → length S ≤ k → all_in f (drop k S) ≡ true
unfolding all_in
every_end f S k h = rw (drop_of_length-le S h)

pub same_turn :
    (S T : List ℕ) (k : ℕ) → k < length S → k < length T
    → same (drop k S) (drop k T) ≡ (eqb (get_or S k 0) (get_or T k 0) && same (drop (k + 1) S) (drop (k + 1) T))
unfolding same
same_turn S T k h h' = rw (rest_next S k h, rest_next T k h')

pub same_end : (S T : List ℕ) (k : ℕ) → length S ≤ k → length T ≤ k → same (drop k S) (drop k T) ≡ true
unfolding same
same_end S T k h h' = rw (drop_of_length-le S h, drop_of_length-le T h')

-- so many at once
same_append :
    (x x' y y' : List ℕ) → length x ≡ length x' → same (x ++ y) (x' ++ y') ≡ (same x x' && same y y')
unfolding same
same_append [] [] y y' h = refl
same_append [] (c ∷ x') y y' h = absurd (omega arith)
same_append (b ∷ x) [] y y' h = absurd (omega arith)
same_append (b ∷ x) (c ∷ x') y y' h = elim (bool? (eqb b c)) [
  | inl t ↦ rw t (same_append x x' y y' (omega arith))
  | inr t ↦ rw t
]

rest_part : (S : List ℕ) (k j : ℕ) → drop k S ≡ take j (drop k S) ++ drop (k + j) S
rest_part S k j = sym (take-append-drop j (drop k S)) ∙ rw (drop-drop j k S)

part_long : (S : List ℕ) (k j : ℕ) → k + j ≤ length S → length (take j (drop k S)) ≡ j
part_long S k j h = length-take-le j (drop k S) (rw (length-drop k S) (omega arith))

pub same_part :
    (S T : List ℕ) (k j : ℕ) → k + j ≤ length S → k + j ≤ length T
    → same (drop k S) (drop k T)
    ≡ (same (take j (drop k S)) (take j (drop k T)) && same (drop (k + j) S) (drop (k + j) T))
same_part S T k j h h' =
    ap (λ x. same x (drop k T)) (rest_part S k j)
    ∙ ap (λ y. same (take j (drop k S) ++ drop (k + j) S) y) (rest_part T k j)
    ∙ same_append _ _ _ _ (part_long S k j h ∙ sym (part_long T k j h'))

-- bytes are the same where the numbers in them are
pub same_numbers :
    (S T : List ℕ) (k j : ℕ) → AreBytes S → AreBytes T → k + j ≤ length S → k + j ≤ length T
    → eqb (number (take j (drop k S))) (number (take j (drop k T))) ≡ same (take j (drop k S)) (take j (drop k T))
same_numbers S T k j p q l l' =
    let x = take j (drop k S) in
    let y = take j (drop k T) in
    let equal : eqb (number x) (number y) ≡ true → x ≡ y = λ t.
    sym (low_part S j k p l) ∙ ap (low_first j) (eqb-true (number x) (number y) t) ∙ low_part T j k q l' in
    bool_iff (eqb (number x) (number y)) (same x y)
    (λ t. rw (equal t) (same_self y))
    (λ t. eq-eqb (number x) (number y) (ap number (same_is x y t)))

-- Of such a test let w be the answer for all, p the answer here and t that for what comes after.
pub stops : (p t : Bool) {w : Bool} → (p && t) ≡ w → p ≡ false → false ≡ w
stops p t h e = rw e at h

pub goes_on : (p t : Bool) {w : Bool} → (p && t) ≡ w → p ≡ true → t ≡ w
goes_on p t h e = rw e at h
