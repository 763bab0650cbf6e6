-- The answer of export, as code gives it: what is judged in goes is what the answer refuses in order; and where nothing
-- is refused, the text that was put is the answer's.
use Rattle.std.specs.Prelude.{Result, Ok, Err}
use mathlib.Core.Path.{◌≡◌, ap, sym, ◌∙◌}
use mathlib.Core.List.{List, [], ◌∷◌, ◌++◌}
use mathlib.Core.Option.{Option, none, some}
use Prim.Native.Nat.{ℕ, ◌-◌, ◌*◌, ◌≤◌, ◌<◌}
use native.Mathlib.Nat.{zero-add}
use native.Mathlib.Omega.{arith}
use lib.ListN.{length}
use lib.Seq.{sets-eq}
use Rattle.refusals.specs.declared.Refusal.{Refusal}
use Rattle.refusals.specs.Refusals.{judged, answered, written}
use Rattle.refusals.proofs.Answers.{judged_nest, judged_behind, judged_none, judged_alone}
use Rattle.refusals.proofs.Answers.{written_refused, written_done}
use Rattle.trees.specs.Listings.{rules_refusal, tree_of}
use Rattle.checks.specs.Sizes.{count_refusal, length_refusal, input_refusal, room_refusal}
use Rattle.checks.proofs.Sizes.{room_right}
use Rattle.sheet_rules.specs.Sheets.{leaves_of, offset_of, names_of}
use Rattle.sheet_rules.specs.Operations.{sheet_ends_refusal, sheet_length_refusal, names_refusal}
use Rattle.sheet_rules.proofs.Names.{next_before}
use Rattle.name_index.specs.inner.Indexes.{FirstNames, first_names, StartsOf}
use Rattle.newick_rules.specs.Exporting.{exported}
use Rattle.newick_rules.specs.Operations.{export_answer}
use Rattle.newick_writing.specs.inner.Writing.{Put, Placed, Ready}
use Rattle.newick_export.specs.Operations.{replied}
use Rattle.newick_export.specs.inner.Judging.{text_of, sizes_refusal, given_refusal, export_refusal}
use Rattle.newick_export.proofs.ExportRefusal.{given_judged}

-- The answer of export, by what is judged in goes.
module _ (S l : List ℕ) (room : ℕ) where
  answer_is : export_answer S l room ≡ answered (export_refusal S l room) (text_of S l)
  unfolding export_answer export_refusal given_refusal sizes_refusal input_refusal
  answer_is =
      let n = leaves_of S in
      let o = offset_of S in
      let input = count_refusal n ∷ length_refusal (2 * (n - 2)) (length l) ∷ [] in
      let room_last = room_refusal (length (text_of S l)) room ∷ [] in
      let rest = rules_refusal n l ∷ names_refusal S n o ∷ [] in
      let sizes = sheet_ends_refusal S ∷ judged input ∷ sheet_length_refusal S n o ∷ [] in
      ap (λ u. answered u (text_of S l))
      (judged_behind (sheet_ends_refusal S) _ _ (judged_nest input (sheet_length_refusal S n o ∷ (rest ++ room_last)))
      ∙ judged_nest sizes (rest ++ room_last)
      ∙ judged_nest (judged sizes ∷ rest) room_last)

-- an index has where the names start
index_placed :
    {x : FirstNames} {starts : List ℕ} → StartsOf x starts → (i : ℕ) → i < x.many → Placed x.sheet starts i
index_placed {x} s i l =
    record {
      inside = omega (arith, s.few);
      start = s.starts_are i l;
      ends = omega (arith, next_before x.sheet (s.starts_are i l) l, s.ends);
    }

-- as code replies: something is refused, or nothing is and the text was put
reply_refused :
    (o : Option Refusal) (x : List ℕ) {r : Result ℕ Refusal} {e : Refusal} → o ≡ some e → r ≡ Err e
    → r ≡ replied (answered o x)
unfolding replied answered
reply_refused o x h p = p ∙ rw h

reply_done :
    (o : Option Refusal) (x : List ℕ) {w : ℕ} → o ≡ none → w ≡ length x → Ok w ≡ replied (answered o x)
unfolding replied answered
reply_done o x h many = rw (h, many)

module _ (S l t : List ℕ) where
  pub export_refused :
      {r : Result ℕ Refusal} {e : Refusal} → export_refusal S l (length t) ≡ some e → r ≡ Err e
      → (r ≡ replied (export_answer S l (length t))) × (t ≡ written (export_answer S l (length t)) t)
  export_refused arises p =
      let o = export_refusal S l (length t) in
      rw (answer_is S l (length t)) (
        reply_refused o (text_of S l) arises p,
        sym (written_refused o _ (text_of S l) t arises),
      )

  module _ (none_arises : export_refusal S l (length t) ≡ none) where
    given_passed : given_refusal S (leaves_of S) (offset_of S) l ≡ none
    unfolding export_refusal
    given_passed = (judged_none (given_refusal S (leaves_of S) (offset_of S) l) _ none_arises).0

    text_room : length (text_of S l) ≤ length t
    unfolding export_refusal
    text_room =
        let given = given_refusal S (leaves_of S) (offset_of S) l in
        let room = room_refusal (length (text_of S l)) (length t) in
        room_right _ _ (sym (judged_alone room) ∙ (judged_none given (room ∷ []) none_arises).1)

    -- an index of all names has where they start
    pub export_ready :
        {n : ℕ} {x : FirstNames} {starts : List ℕ} → n ≡ leaves_of S → x ≡ first_names S n → StartsOf x starts
        → Ready S starts n l t
    export_ready e all s =
        rw e (record {
          judged = given_judged S l given_passed;
          places = index_placed (rw (all, e) at s);
          room = record { enough = omega (arith, text_room) };
        })

    pub export_done :
        {n w : ℕ} {t' : List ℕ} → n ≡ leaves_of S → Put (exported (names_of S) (tree_of n l)) 0 t t' w
        → (Ok w ≡ replied (export_answer S l (length t)))
        × (t' ≡ written (export_answer S l (length t)) t)
    export_done e p =
        let o = export_refusal S l (length t) in
        let put = rw e at p in
        let bytes = put.bytes ∙ (rw zero-add at (sets-eq (text_of S l) t 0 (omega (arith, text_room)))) in
        rw (answer_is S l (length t)) (
          reply_done o (text_of S l) none_arises (omega (arith, put.next)),
          bytes ∙ sym (written_done o (text_of S l) t none_arises),
        )
