-- What export judges: refusals judged in goes; what holds where none arises; and the text's length by the sheet's
-- offset, so that the room is judged without a text.
use mathlib.Core.Path.{◌≡◌, refl, ◌∙◌}
use mathlib.Core.Bool.{true, false}
use mathlib.Core.List.{List, [], ◌∷◌}
use mathlib.Core.Option.{none, some}
use Prim.Native.Nat.{ℕ, zero, suc, ◌+◌, ◌-◌, ◌*◌, ◌≤◌, ◌<◌}
use native.Mathlib.Omega.{arith}
use lib.ListN.{length, get_or}
use Rattle.base.specs.Numbers.{sum_below}
use Rattle.limits.specs.declared.Kind.TheVariants.{Counts}
use Rattle.limits.specs.Limits.{IsLeafCount, most_leaves}
use Rattle.refusals.specs.declared.Refusal.TheVariants.{SheetEnds, SheetLength, OutputRoom}
use Rattle.refusals.specs.Refusals.{judged}
use Rattle.refusals.proofs.Answers.{refuse_passed, refuse_failed, refuse_none, judged_none, judged_stops}
use Rattle.refusals.proofs.Answers.{judged_passes, judged_alone}
use Rattle.trees.specs.Listings.{KeepsRules, rules_refusal, tree_of}
use Rattle.trees.proofs.Rules.{listing_tree}
use Rattle.checks.specs.Sizes.{input_refusal}
use Rattle.checks.proofs.Sizes.{input_right, room_stops, room_passes}
use Rattle.sheet_rules.specs.Sheets.{trailer_bytes, cell_bytes, longest_sheet}
use Rattle.sheet_rules.specs.Sheets.{leaves_of, offset_of, name_start, names_of}
use Rattle.sheet_rules.specs.Operations.{right_ends, right_sum, sheet_ends_refusal, sheet_length_refusal, names_refusal}
use Rattle.sheet_rules.proofs.Names.{start_next, start_name, name_length, names_at}
use Rattle.sheet_rules.proofs.NameRefusals.{rest_passes}
use Rattle.sheet_rules.proofs.Sizes.{sum_is, ends_within}
use Rattle.sheet_rules.proofs.Accepted.{name_ends}
use Rattle.newick_rules.proofs.ExportLength.{export_length}
use Rattle.newick_writing.specs.inner.Writing.{Judged}
use Rattle.newick_export.specs.inner.Judging.{text_of, sizes_refusal, given_refusal, NamesLeft, export_refusal}

-- The sizes: 13, 1, 2, 14.
module _ (S : List ℕ) (n o lent : ℕ) where
  pub ends_refused : right_ends S ≡ false → sizes_refusal S n o lent ≡ some SheetEnds
  unfolding sizes_refusal sheet_ends_refusal
  ends_refused h = judged_stops _ (refuse_failed SheetEnds h)

  module _ (ends : right_ends S ≡ true) where
    pub ends_passed :
        sizes_refusal S n o lent
        ≡ judged (input_refusal Counts n (2 * (n - 2)) lent ∷ sheet_length_refusal S n o ∷ [])
    unfolding sizes_refusal sheet_ends_refusal
    ends_passed = judged_passes _ (refuse_passed SheetEnds ends)

    module _ (input : input_refusal Counts n (2 * (n - 2)) lent ≡ none) where
      sum_left : sizes_refusal S n o lent ≡ sheet_length_refusal S n o
      sum_left = ends_passed ∙ judged_passes _ input ∙ judged_alone _

      pub sum_refused : right_sum S n o ≡ false → sizes_refusal S n o lent ≡ some SheetLength
      unfolding sheet_length_refusal
      sum_refused h = sum_left ∙ refuse_failed SheetLength h

      pub sum_passed : right_sum S n o ≡ true → sizes_refusal S n o lent ≡ none
      unfolding sheet_length_refusal
      sum_passed h = sum_left ∙ refuse_passed SheetLength h

-- Sizes that are right: 13, 1, 2, 14 do not arise.
pub record RightSizes (S : List ℕ) (n o lent : ℕ) : Type 0 where
  pub ends : right_ends S ≡ true
  pub count : IsLeafCount n
  pub long : lent ≡ 2 * (n - 2)
  pub sum : o + cell_bytes n + trailer_bytes ≡ length S

pub sizes_right : (S : List ℕ) (n o lent : ℕ) → sizes_refusal S n o lent ≡ none → RightSizes S n o lent
unfolding sizes_refusal sheet_ends_refusal sheet_length_refusal
sizes_right S n o lent h =
    let a = judged_none (sheet_ends_refusal S) _ h in
    let b = judged_none (input_refusal Counts n (2 * (n - 2)) lent) _ a.1 in
    let c = judged_none (sheet_length_refusal S n o) _ b.1 in
    let input = input_right Counts n (2 * (n - 2)) lent b.0 in
    record {
      ends = refuse_none _ SheetEnds a.0;
      count = input.0;
      long = input.1;
      sum = sum_is S n o (refuse_none _ SheetLength c.0);
    }

-- Nothing arises before the names: they decide, and lie within the sheet.
module _ (S : List ℕ) (n o : ℕ) (l : List ℕ) (left : NamesLeft S n o l) where
  pub names_decide : given_refusal S n o l ≡ names_refusal S n o
  unfolding given_refusal
  names_decide = judged_passes _ left.sizes ∙ judged_passes _ left.rules ∙ judged_alone (names_refusal S n o)

  pub names_within : (o ≤ length S) × (length S ≤ longest_sheet) × (n ≤ most_leaves)
  names_within =
      let s = sizes_right S n o (length l) left.sizes in
      (omega (arith, s.sum), ends_within S s.ends, s.count.1)

-- The letters of the first k names, and a length byte each, are the bytes before the next name.
letters_start :
    (S : List ℕ) (k : ℕ) → k ≤ leaves_of S → ((i : ℕ) → i < leaves_of S → name_start S (i + 1) ≤ length S)
    → sum_below k (λ i. length (get_or (names_of S) i [])) + k ≡ name_start S k
unfolding sum_below name_start
letters_start S zero l h = refl
letters_start S (suc k) l h =
    let p = name_start S k in
    let e = start_next S k refl in
    rw (names_at S k (omega arith), ← start_name S k refl, name_length S p (omega (arith, e, h k (omega arith))))
    (omega (arith, letters_start S k (omega arith) h))

-- A sheet and a listing that are right: 7, 8, 15 and 16 do not arise either.
module _ (S : List ℕ) (n o : ℕ) (l : List ℕ) (h : given_refusal S n o l ≡ none) where
  given_sizes : RightSizes S n o (length l)
  unfolding given_refusal
  given_sizes = sizes_right S n o (length l) (judged_none (sizes_refusal S n o (length l)) _ h).0

  rest : judged (rules_refusal n l ∷ names_refusal S n o ∷ []) ≡ none
  unfolding given_refusal
  rest = (judged_none (sizes_refusal S n o (length l)) _ h).1

  given_keeps : KeepsRules n l
  given_keeps = record { numbers = given_sizes.long; rules = (judged_none (rules_refusal n l) _ rest).0 }

  pub names_good : names_refusal S n o ≡ none
  names_good = (judged_none (names_refusal S n o) _ (judged_none (rules_refusal n l) _ rest).1).0

-- with the figures of the sheet's trailer
module _ (S l : List ℕ) (h : given_refusal S (leaves_of S) (offset_of S) l ≡ none) where
  names : names_refusal S (leaves_of S) (offset_of S) ≡ none
  names = names_good S (leaves_of S) (offset_of S) l h

  sizes : RightSizes S (leaves_of S) (offset_of S) (length l)
  sizes = given_sizes S (leaves_of S) (offset_of S) l h

  rules_kept : KeepsRules (leaves_of S) l
  rules_kept = given_keeps S (leaves_of S) (offset_of S) l h

  names_end : (i : ℕ) → i < leaves_of S → name_start S (i + 1) ≤ offset_of S
  names_end i b = name_ends S (leaves_of S) (offset_of S) names i b

  pub given_judged : Judged S (leaves_of S) l
  given_judged = record { count = sizes.count; leaves = refl; keeps = rules_kept }

  pub offset_within : offset_of S ≤ longest_sheet
  offset_within = omega (arith, sizes.sum, ends_within S sizes.ends)

  -- the names end at the offset
  all_end : name_start S (leaves_of S) ≡ offset_of S
  all_end =
      let n = leaves_of S in
      let count = sizes.count in
      let e : n - 1 + 1 ≡ n = omega arith in
      omega (arith, rest_passes S n (offset_of S) names, rw e at (names_end (n - 1) (omega arith)))

  -- the text has as many bytes as there are before the offset, and 2n − 4 more
  text_length : length (text_of S l) ≡ offset_of S + 2 * leaves_of S - 4
  text_length =
      let n = leaves_of S in
      let count = sizes.count in
      omega (
        arith,
        export_length n (names_of S) (tree_of n l) count.0 (listing_tree n count l rules_kept),
        letters_start S n (omega arith) (λ i b. omega (arith, names_end i b, sizes.sum)),
        all_end,
        count,
      )

  -- the order in which the two are judged is no matter here, since one of them passes
  pub room_refused : (room : ℕ) → room < offset_of S + 2 * leaves_of S - 4 → export_refusal S l room ≡ some OutputRoom
  unfolding export_refusal judged
  room_refused room b = rw (h, room_stops (length (text_of S l)) room (omega (arith, text_length))) refl

  pub room_enough : (room : ℕ) → offset_of S + 2 * leaves_of S - 4 ≤ room → export_refusal S l room ≡ none
  unfolding export_refusal judged
  room_enough room b = rw (h, room_passes (length (text_of S l)) room (omega (arith, text_length))) refl
