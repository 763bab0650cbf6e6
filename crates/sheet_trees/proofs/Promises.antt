-- What a maker may rely on in the sheet call, sheet bytes in and listing bytes out: it is accepted exactly when the
-- sheet is, the room is enough and some tree has the sheet's table, and then gives the standard listing of the only
-- such tree; it is refused with 6 exactly when no tree has it; and every order of eligible merges ends alike. The same
-- of a table that passes the checks is in merging/proofs/Meaning.antt.
use mathlib.Core.Path.{◌≡◌, refl, ap, sym, ◌∙◌}
use mathlib.Core.Logic.{inl, inr, ◌↔◌, ◌≢◌}
use mathlib.Core.List.{List, flat_map}
use mathlib.Core.Option.{none}
use Prim.Native.Nat.{ℕ, ◌-◌, ◌*◌, ◌≤◌, ◌<◌}
use native.Mathlib.Omega.{arith}
use Rattle.limits.specs.declared.Kind.TheVariants.{Counts}
use Rattle.refusals.specs.declared.Refusal.{Refusal}
use Rattle.refusals.specs.declared.Refusal.TheVariants.{NoTree}
use Rattle.refusals.specs.Refusals.{number_of, Answer, accepted, refused, answered, written}
use Rattle.refusals.specs.Meanings.{Gives}
use Rattle.refusals.proofs.Answers.{unless_passed, unless_accepted, unless_refused, answered_accepted, accepted_same}
use Rattle.refusals.proofs.Answers.{accepted_not_refused}
use Rattle.refusals.proofs.Causes.{Arises}
use Rattle.refusals.proofs.Meanings.{unless_means, unless_fixed, with_meaning}
use Rattle.merging.specs.MergeLists.{Pair, after, Finished, subtrees, final_listing}
use Rattle.merging.specs.Meaning.{OnlyTree, HasTree, HasNoTree}
use Rattle.merging.proofs.Meaning as meaning
use Rattle.rebuild_answers.specs.Operations.{rebuild_answer}
use Rattle.byte_numbers.specs.Bytes.{low_first}
use Rattle.sheet_rules.specs.Sheets.{leaves_of, offset_of, cells_of}
use Rattle.sheet_rules.specs.Operations.{sheet_refusal, check_sheet_answer}
use Rattle.sheet_rules.proofs.Causes.{SheetCauses, sheet_arises}
use Rattle.packed_tables.specs.Packed.{table_with}
use Rattle.packed_tables.proofs.PackedIsTable.{sheet_is_table}
use Rattle.sheet_trees.specs.Operations.{sheet_tree, sheet_listing_answer, in_bytes, sheet_bytes_answer}
use Rattle.sheet_trees.specs.Meanings.{SheetTreeMeans, InBytes, SheetBytesMean}
use Rattle.sheets.proofs.Judged.{accepted_here, other_room}
use Rattle.sheet_trees.proofs.SheetTree.{rebuilt_alone}

-- an answer in bytes is accepted, or refused, as the answer is
in_bytes_accepted :
    (a : Answer (List ℕ)) (b : List ℕ) → in_bytes a ≡ accepted b
    → (l : List ℕ) × (a ≡ accepted l) × (b ≡ flat_map (low_first 2) l)
unfolding in_bytes
in_bytes_accepted (accepted l) b h = (l, refl, sym (accepted_same _ b h))
in_bytes_accepted (refused r) b h = absurd (accepted_not_refused b r (sym h))

in_bytes_refused : (a : Answer (List ℕ)) (r : Refusal) → in_bytes a ≡ refused r → a ≡ refused r
unfolding in_bytes
in_bytes_refused (accepted l) r h = absurd (accepted_not_refused _ r h)
in_bytes_refused (refused x) r h = h

accepted_bytes : (a : Answer (List ℕ)) (l : List ℕ) → a ≡ accepted l → in_bytes a ≡ accepted (flat_map (low_first 2) l)
unfolding in_bytes
accepted_bytes a l h = rw h

refused_bytes : (a : Answer (List ℕ)) (r : Refusal) → a ≡ refused r → in_bytes a ≡ refused r
unfolding in_bytes
refused_bytes a r h = rw h

-- a sheet passes with some room exactly when it is accepted, and the room is enough
pub sheet_passes_exactly :
    (S : List ℕ) (due room : ℕ)
    → (sheet_refusal S due room ≡ none) ↔ ((check_sheet_answer S ≡ accepted tt) × (due ≤ room))
unfolding check_sheet_answer
sheet_passes_exactly S due room = (
  λ h. (
    rw (other_room S due room h 0 0 (omega arith)) (unfold answered in refl),
    (accepted_here S due room h).room_enough,
  ),
  λ h. other_room S 0 0 (answered_accepted _ tt tt h.0).0 due room h.1,
)

-- 6 is not among the refusals that go before
pub other_than_six : (r : Refusal) → number_of r ≢ 6 → r ≢ NoTree
other_than_six r h e = h (ap number_of e)

pub sheet_not_six : (S : List ℕ) (due room : ℕ) → Arises (λ r. r ≢ NoTree) (sheet_refusal S due room)
unfolding sheet_refusal
sheet_not_six S due room = sheet_arises (λ r. r ≢ NoTree) S (leaves_of S) (offset_of S) causes due room
  where
    causes : SheetCauses (λ r. r ≢ NoTree)
    causes = record {
      ends = other_than_six _ (omega arith);
      count = other_than_six _ (omega arith);
      sum = other_than_six _ (omega arith);
      room = other_than_six _ (omega arith);
      name = λ i. other_than_six _ (omega arith);
      same_name = λ i. other_than_six _ (omega arith);
    }

-- The call that gives the listing in numbers: where it is accepted, the listing is that of our own rebuild of the
-- sheet's table.
pub sheet_same_listing :
    (S : List ℕ) (room : ℕ) (l : List ℕ) → sheet_listing_answer S room ≡ accepted l
    → rebuild_answer Counts (leaves_of S) (table_with (leaves_of S) (cells_of S)) room ≡ accepted l
unfolding sheet_listing_answer
sheet_same_listing S room l e =
    let a = unless_accepted (sheet_refusal S (2 * (leaves_of S - 2)) room) _ l e in
    rebuilt_alone S room a.0 ∙ a.1

module _ (S : List ℕ) where
  abbrev n : ℕ
  n = leaves_of S

  -- its table
  abbrev t : List ℕ
  t = table_with n (cells_of S)

  tree_means : (due room : ℕ) → sheet_refusal S due room ≡ none → SheetTreeMeans S (sheet_tree S)
  unfolding sheet_tree
  tree_means due room h =
      meaning.rebuilt_means n (accepted_here S due room h).count 1 (omega arith) t (sheet_is_table n (cells_of S))

  module _ (room : ℕ) where
    abbrev due : ℕ
    due = 4 * (n - 2)

    -- the sheet is accepted, and the room is enough
    abbrev pub SheetPasses : Type 0
    SheetPasses = (check_sheet_answer S ≡ accepted tt) × (due ≤ room)

    passed : SheetPasses → sheet_refusal S due room ≡ none
    passed = (sheet_passes_exactly S due room).1

    passes : sheet_refusal S due room ≡ none → SheetPasses
    passes = (sheet_passes_exactly S due room).0

    answer : sheet_refusal S due room ≡ none → sheet_bytes_answer S room ≡ in_bytes (sheet_tree S)
    unfolding sheet_bytes_answer
    answer h = unless_passed _ _ h

    -- what an accepted call tells
    told : (b : List ℕ) → sheet_bytes_answer S room ≡ accepted b
        → (sheet_refusal S due room ≡ none) × (in_bytes (sheet_tree S) ≡ accepted b)
    unfolding sheet_bytes_answer
    told b e = unless_accepted (sheet_refusal S due room) _ b e

    told_six :
        sheet_bytes_answer S room ≡ refused NoTree
        → (sheet_refusal S due room ≡ none) × (sheet_tree S ≡ refused NoTree)
    unfolding sheet_bytes_answer
    told_six e = elim (unless_refused (sheet_refusal S due room) (in_bytes (sheet_tree S)) NoTree e) [
      | inl before ↦ absurd ((rw before at (sheet_not_six S due room)) refl)
      | inr after ↦ (after.0, in_bytes_refused _ _ after.1)
    ]

    -- The call is accepted exactly when the sheet is, the room is enough, and some tree has the table.
    pub sheet_accepted_exactly_when :
        ((b : List ℕ) × (sheet_bytes_answer S room ≡ accepted b)) ↔ (SheetPasses × HasTree n 1 t)
    sheet_accepted_exactly_when = (
      λ e.
          let a = told e.0 e.1 in
          let l = in_bytes_accepted (sheet_tree S) e.0 a.1 in
          (passes a.0, (meaning.meant_accepted n 1 t (tree_means due room a.0)).0 (l.0, l.1)),
      λ e.
          let h = passed e.0 in
          let l = (meaning.meant_accepted n 1 t (tree_means due room h)).1 e.1 in
          (flat_map (low_first 2) l.0, answer h ∙ accepted_bytes (sheet_tree S) l.0 l.1),
    )

    -- It is refused with 6 exactly when the sheet is accepted, the room is enough, and no tree has the table.
    pub sheet_refused_exactly_when :
        (sheet_bytes_answer S room ≡ refused NoTree) ↔ (SheetPasses × HasNoTree n 1 t)
    sheet_refused_exactly_when = (
      λ e.
          let a = told_six e in
          (passes a.0, (meaning.meant_refused n 1 t (tree_means due room a.0)).0 a.1),
      λ e.
          let h = passed e.0 in
          let six = (meaning.meant_refused n 1 t (tree_means due room h)).1 e.1 in
          answer h ∙ refused_bytes (sheet_tree S) NoTree six,
    )

    -- The bytes are those of the standard listing of the only tree that has the table, low byte first.
    pub sheet_only_tree :
        (b : List ℕ) → sheet_bytes_answer S room ≡ accepted b
        → (l : List ℕ) × OnlyTree n 1 t l × (b ≡ flat_map (low_first 2) l)
    sheet_only_tree b e =
        let a = told b e in
        let l = in_bytes_accepted (sheet_tree S) b a.1 in
        (l.0, meaning.meant_only n 1 t (tree_means due room a.0) l.0 l.1, l.2)

    -- It is the listing that the call in numbers gives, with room for no more than that.
    pub bytes_same_listing :
        (b : List ℕ) → sheet_bytes_answer S room ≡ accepted b
        → (l : List ℕ) × (sheet_listing_answer S (2 * (n - 2)) ≡ accepted l) × (b ≡ flat_map (low_first 2) l)
    unfolding sheet_listing_answer
    bytes_same_listing b e =
        let a = told b e in
        let l = in_bytes_accepted (sheet_tree S) b a.1 in
        let fits = other_room S due room a.0 (2 * (n - 2)) (2 * (n - 2)) (omega arith) in
        (l.0, unless_passed _ _ fits ∙ l.1, l.2)

    -- Every finished list of eligible merges ends in one tree with that listing; where 6 is said, each leaves several.
    pub sheet_any_order :
        (b : List ℕ) → sheet_bytes_answer S room ≡ accepted b → (L : List Pair) → Finished n 1 t L
        → (subtrees n (after L) ≡ 1) × (flat_map (low_first 2) (final_listing n L) ≡ b)
    unfolding sheet_tree
    sheet_any_order b e L f =
        let a = told b e in
        let l = in_bytes_accepted (sheet_tree S) b a.1 in
        let count = (accepted_here S due room a.0).count in
        let table = sheet_is_table n (cells_of S) in
        let r = meaning.accepted_any_order n count 1 (omega arith) t table l.0 l.1 L f in
        (r.0, ap (flat_map (low_first 2)) r.1 ∙ sym l.2)

    pub sheet_refused_any_order :
        sheet_bytes_answer S room ≡ refused NoTree → (L : List Pair) → Finished n 1 t L → 1 < subtrees n (after L)
    unfolding sheet_tree
    sheet_refused_any_order e =
        let a = told_six e in
        let count = (accepted_here S due room a.0).count in
        meaning.refused_any_order n count 1 (omega arith) t (sheet_is_table n (cells_of S)) a.1

    -- what the answer means, and that this fixes it
    pub sheet_bytes_meaning : SheetBytesMean S room (sheet_bytes_answer S room)
    unfolding sheet_bytes_answer
    sheet_bytes_meaning = unless_means (InBytes (SheetTreeMeans S)) _ _ (λ h.
        record { listing = sheet_tree S; means = tree_means due room h; its_bytes = refl })

    pub sheet_bytes_fixed : {a b : Answer (List ℕ)} → SheetBytesMean S room a → SheetBytesMean S room b → a ≡ b
    sheet_bytes_fixed = unless_fixed (InBytes (SheetTreeMeans S)) (λ a b m m'.
        m.its_bytes ∙ ap in_bytes (meaning.table_fixed n 1 t m.means m'.means) ∙ sym m'.its_bytes)

    -- so a call that gives this answer gives one with this meaning
    pub sheet_bytes_gives :
        {R : Type 0} {r : R} {out out' : List ℕ} (told : Answer (List ℕ) → R)
        → (r ≡ told (sheet_bytes_answer S room)) × (out' ≡ written (sheet_bytes_answer S room) out)
        → (r ≡ told (sheet_bytes_answer S room))
        × ((out' ≡ written (sheet_bytes_answer S room) out) × Gives told (SheetBytesMean S room) r out out')
    sheet_bytes_gives told =
        with_meaning told (SheetBytesMean S room) (sheet_bytes_answer S room) sheet_bytes_meaning
