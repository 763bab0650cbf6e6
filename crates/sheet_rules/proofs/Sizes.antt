-- The refusals 13 and 14 as code tests them: the mark byte by byte; the sum by a difference, so that no offset makes it
-- wrap.
use mathlib.Core.Path.{◌≡◌}
use mathlib.Core.Logic.{◌≢◌}
use mathlib.Core.Bool.{true, false, ◌&&◌, and-true}
use mathlib.Core.List.{List, [], ◌∷◌}
use Prim.Native.Nat.{ℕ, suc, ◌+◌, ◌-◌, ◌≤◌, ◌<◌}
use native.Mathlib.Nat.{mul-le-mul}
use native.Mathlib.Omega.{arith}
use native.Mathlib.Decide.{dec_lt}
use borrow.Author.Tests.{leb-true, eqb-true, le-leb, lt-leb, eq-eqb, ne_eqb}
use lib.Dec.{leb, eqb}
use lib.ListN.{length, get_or, drop, drop_of_length-le}
use lib.Seq.{drop-cons, drop-drop}
use Rattle.base.proofs.Bools.{and_both, bool_iff}
use Rattle.limits.specs.Limits.{most_leaves}
use Rattle.sheet_rules.specs.Sheets.{same, cell_bytes, trailer_bytes, trailer, mark, longest_sheet}
use Rattle.sheet_rules.specs.Operations.{right_ends, right_sum}
use Rattle.sheet_rules.proofs.TrailerFigures.{trailer_long}
use Rattle.sheet_rules.proofs.Names.{same_is}

-- 13: too few bytes, too many, and else the last two, one after the other
pub ends_short : (S : List ℕ) → length S < trailer_bytes → right_ends S ≡ false
unfolding right_ends
ends_short S h = rw (lt-leb trailer_bytes (length S) h)

pub ends_long : (S : List ℕ) → trailer_bytes ≤ length S → longest_sheet < length S → right_ends S ≡ false
unfolding right_ends
ends_long S h l = rw (le-leb trailer_bytes (length S) h, lt-leb (length S) longest_sheet l)

last_two : (S : List ℕ) → 2 ≤ length S → drop (length S - 2) S ≡ get_or S (length S - 2) 0 ∷ get_or S (length S - 1) 0
    ∷ []
last_two S h =
    let next : suc (length S - 2) ≡ length S - 1 = omega arith in
    let none_left : length S ≤ suc (length S - 1) = omega arith in
    rw (
      drop-cons S (length S - 2) 0 (omega arith),
      next,
      drop-cons S (length S - 1) 0 (omega arith),
      drop_of_length-le S none_left,
    )

pub ends_mark :
    (S : List ℕ) → trailer_bytes ≤ length S → length S ≤ longest_sheet
    → right_ends S ≡ (eqb (get_or S (length S - 2) 0) 0x51 && eqb (get_or S (length S - 1) 0) 0x54)
unfolding right_ends same
ends_mark S h l =
    let e : length S - trailer_bytes + 6 ≡ length S - 2 = omega arith in
    rw (
      le-leb trailer_bytes (length S) h,
      le-leb (length S) longest_sheet l,
      trailer_long S h,
      drop-drop 6 (length S - trailer_bytes) S,
      e,
      last_two S (omega arith),
      and-true (eqb (get_or S (length S - 1) 0) 0x54),
    )

pub ends_other :
    (S : List ℕ) → trailer_bytes ≤ length S → get_or S (length S - 2) 0 ≢ 0x51 → right_ends S ≡ false
ends_other S h e = elim (dec_lt longest_sheet (length S)) [
  | yes l ↦ ends_long S h l
  | no l ↦ rw (ends_mark S h (omega arith), ne_eqb (get_or S (length S - 2) 0) 0x51 e)
]

pub mark_is : (S : List ℕ) → right_ends S ≡ true → drop 6 (trailer S) ≡ mark
unfolding right_ends
mark_is S h =
    same_is (drop 6 (trailer S)) mark
    (and_both (leb trailer_bytes (length S) && leb (length S) longest_sheet) _ h).1

pub ends_within : (S : List ℕ) → right_ends S ≡ true → length S ≤ longest_sheet
unfolding right_ends
ends_within S h =
    let low = leb trailer_bytes (length S) in
    let high = leb (length S) longest_sheet in
    leb-true (length S) longest_sheet (and_both low high (and_both (low && high) _ h).0).1

-- 14: what is left of the sheet without the cells and the trailer
pub cell_bytes_le : (n : ℕ) → n ≤ most_leaves → cell_bytes n ≤ cell_bytes most_leaves
cell_bytes_le n h = let l : n - 1 ≤ most_leaves - 1 = omega arith in mul-le-mul h l

pub sum_short : (S : List ℕ) (n o : ℕ) → length S < cell_bytes n + trailer_bytes → right_sum S n o ≡ false
unfolding right_sum
sum_short S n o h =
    let all = o + cell_bytes n + trailer_bytes in
    ne_eqb all (length S) (λ (e : all ≡ length S). omega arith)

pub sum_long :
    (S : List ℕ) (n o : ℕ) → cell_bytes n + trailer_bytes ≤ length S
    → right_sum S n o ≡ eqb o (length S - (cell_bytes n + trailer_bytes))
unfolding right_sum
sum_long S n o h =
    let all = o + cell_bytes n + trailer_bytes in
    let left = length S - (cell_bytes n + trailer_bytes) in
    bool_iff (eqb all (length S)) (eqb o left)
    (λ t. eq-eqb o left (omega (arith, eqb-true all (length S) t)))
    (λ t. eq-eqb all (length S) (omega (arith, eqb-true o left t)))

pub sum_is : (S : List ℕ) (n o : ℕ) → right_sum S n o ≡ true → o + cell_bytes n + trailer_bytes ≡ length S
unfolding right_sum
sum_is S n o h = eqb-true (o + cell_bytes n + trailer_bytes) (length S) h
