-- What may be relied on of the tree records that our operations make (02, request 3). Rebuilt stands only on a tree
-- that has the table given, a poll's at six times its own; guessed only where no tree has it. Every listing is a
-- tree's, and standard unless it was lent. Restandardising takes every such record where the room is enough, and keeps
-- its origin. All this follows from one statement of a record, `Sound`, which `made_sound` shows operation by
-- operation.
use mathlib.Core.Path.{◌≡◌, refl, ap, sym, ◌∙◌}
use mathlib.Core.Logic.{◌≢◌}
use mathlib.Core.List.{List, flat_map}
use mathlib.Core.Option.{none, some}
use Prim.Native.Nat.{ℕ, ◌-◌, ◌*◌, ◌≤◌}
use native.Mathlib.Omega.{arith}
use Rattle.limits.specs.declared.Kind.{Kind}
use Rattle.limits.specs.declared.Kind.TheVariants.{Counts}
use Rattle.limits.specs.Limits.{IsLeafCount, scale_of}
use Rattle.refusals.specs.Refusals.{Answer, accepted, refused, answered}
use Rattle.refusals.proofs.Answers.{accepted_same, accepted_not_refused, answered_accepted, unless_accepted}
use Rattle.tree_records.specs.declared.Origin.{Origin}
use Rattle.tree_records.specs.declared.Origin.TheVariants.{Rebuilt, Listed, Imported, Guessed, Grafted}
use Rattle.tree_records.specs.Origins.{origin_number}
use Rattle.tree_records.specs.Records.{TreeRecord, marked}
use Rattle.trees.specs.Listings.{KeepsRules, standard}
use Rattle.trees.specs.Tables.{table_of, times}
use Rattle.listings.specs.Operations.{listing_refusal}
use Rattle.listings.proofs.ListingRefusal.{accepted_listing}
use Rattle.change_answers.specs.declared.Change.{Change}
use Rattle.change_answers.specs.declared.Change.TheVariants.{Graft, Prune}
use Rattle.change_answers.specs.Operations.{count_after, change_answer, change_record}
use Rattle.change_answers.proofs.Promises.{accepted_all, change_standard}
use Rattle.rebuild_answers.specs.Operations.{rebuild_answer, guided_answer}
use Rattle.rebuild_answers.proofs.Promises.{rebuilt_leaf_count, rebuilt_is_standard, rebuilt_has_the_table}
use Rattle.rebuild_answers.proofs.Promises.{guided_same_listing}
use Rattle.byte_numbers.specs.Bytes.{low_first}
use Rattle.sheet_rules.specs.Sheets.{leaves_of}
use Rattle.sheet_trees.specs.Operations.{sheet_listing_answer, sheet_bytes_answer}
use Rattle.sheet_trees.proofs.Promises.{sheet_same_listing, bytes_same_listing}
use Rattle.newick_rules.specs.Operations.{import_answer}
use Rattle.newick_rules.proofs.Sheets.{import_answer_right}
use Rattle.merging.specs.Guesses.{Reply}
use Rattle.guess_answers.specs.Operations.{guess_answer, sheet_guess_answer, record_of, guess_record}
use Rattle.guess_answers.specs.Operations.{sheet_guess_record}
use Rattle.guess_answers.proofs.Replies.{IsReply}
use Rattle.guess_answers.proofs.Promises.{guess_is_reply, sheet_guess_is_reply}
use Rattle.record_operations.specs.Operations.{rebuild_record, sheet_record, guided_record, lent_record}
use Rattle.record_operations.specs.Operations.{import_record, restandardise_record}
use Rattle.made_records.specs.Made.{Given, sheet_table, Made, rebuild, rebuild_sheet, rebuild_guided}
use Rattle.made_records.specs.Made.{guess, guess_sheet, lend, import, graft, prune, restandardise, tree}
use Rattle.made_records.specs.Made.{HasTableGiven, has_table, NoTreeHasGiven, no_tree}
use Rattle.made_records.proofs.Restandardising.{restandardise_same, restandardise_accepts}

-- What is so of every record that our operations make, with this table given.
record Sound (R : TreeRecord) (g : Given) : Type 0 where
  pub count : IsLeafCount R.leaves
  pub keeps : KeepsRules R.leaves R.listing
  pub is_standard : R.origin ≢ Listed → standard R.leaves (tree R) ≡ R.listing
  pub rebuilt_has : R.origin ≡ Rebuilt → HasTableGiven R g
  pub none_has : R.origin ≡ Guessed → NoTreeHasGiven R g

-- It is so of an answer's record where it is so of every listing that the answer may accept.
marked_sound :
    (n : ℕ) (o : Origin) (a : Answer (List ℕ)) {R : TreeRecord} {g : Given} → marked n o a ≡ accepted R
    → ((l : List ℕ) → a ≡ accepted l → Sound (record { leaves = n; listing = l; origin = o }) g) → Sound R g
unfolding marked
marked_sound n o (accepted l) e h = rw (accepted_same _ _ e) at (h l refl)
marked_sound n o (refused r) e h = absurd (accepted_not_refused _ r (sym e))

-- A rebuild: each gives the listing that our own rebuild of the table gives.
rebuild_sound :
    (kind : Kind) (n : ℕ) (t : List ℕ) (room : ℕ) (a : Answer (List ℕ)) {R : TreeRecord}
    → marked n Rebuilt a ≡ accepted R
    → ((l : List ℕ) → a ≡ accepted l → rebuild_answer kind n t room ≡ accepted l) → Sound R (some (kind, t))
rebuild_sound kind n t room a e own = marked_sound n Rebuilt a e (λ l given.
    let e' = own l given in
    record {
      count = rebuilt_leaf_count kind n t room l e';
      keeps = (rebuilt_is_standard kind n t room l e').0;
      is_standard = λ _. (rebuilt_is_standard kind n t room l e').1;
      rebuilt_has = λ _. has_table (rebuilt_has_the_table kind n t room l e');
      none_has = λ same. absurd (omega (arith, ap origin_number same));
    })

-- A guess: its reply says what is so of it, whether it is guessed or rebuilt.
guess_sound :
    (kind : Kind) (n : ℕ) (t : List ℕ) (a : Answer Reply) {R : TreeRecord} → record_of n a ≡ accepted R
    → ((r : Reply) → a ≡ accepted r → IsReply n (scale_of kind) t r) → Sound R (some (kind, t))
unfolding record_of
guess_sound kind n t (accepted r) e is =
    let reply = is r refl in
    let sound : Sound (record { leaves = n; listing = r.listing; origin = r.origin }) (some (kind, t)) = record {
      count = reply.count;
      keeps = reply.is_a_tree;
      is_standard = λ _. reply.is_standard;
      rebuilt_has = λ same. has_table (reply.rebuilt_has same);
      none_has = λ same. no_tree (reply.guessed_exactly.0 same);
    } in
    rw (accepted_same _ _ e) at sound
guess_sound kind n t (refused x) e is = absurd (accepted_not_refused _ x (sym e))

-- A lent listing, which keeps the rules and is listed.
lend_sound : (n : ℕ) (l : List ℕ) {R : TreeRecord} → lent_record n l ≡ accepted R → Sound R none
unfolding lent_record
lend_sound n l e = marked_sound n Listed (answered (listing_refusal n l 0 0) l) e (λ l' given.
    let a = answered_accepted (listing_refusal n l 0 0) l l' given in
    let lent = accepted_listing n l 0 0 a.0 in
    record {
      count = lent.count;
      keeps = rw a.1 at lent.keeps;
      is_standard = λ other. absurd (other refl);
      rebuilt_has = λ same. absurd (omega (arith, ap origin_number same));
      none_has = λ same. absurd (omega (arith, ap origin_number same));
    })

-- An import, whose listing is standard.
import_sound :
    (S t : List ℕ) (room : ℕ) {R : TreeRecord} → import_record S t room ≡ accepted R → Sound R none
unfolding import_record
import_sound S t room e = marked_sound (leaves_of S) Imported (import_answer S t room) e (λ l given.
    let drawn = import_answer_right S t room l given in
    record {
      count = drawn.0;
      keeps = drawn.1.keeps;
      is_standard = λ _. drawn.1.is_standard;
      rebuilt_has = λ same. absurd (omega (arith, ap origin_number same));
      none_has = λ same. absurd (omega (arith, ap origin_number same));
    })

-- A graft or a prune, whose listing is standard.
change_sound :
    (n : ℕ) (l t : List ℕ) (c : Change) (room space : ℕ) {R : TreeRecord}
    → change_record n l t c room space ≡ accepted R → Sound R none
unfolding change_record
change_sound n l t c room space e =
    marked_sound (count_after n c) Grafted (change_answer n l t c room space) e (λ l' given.
    let is = change_standard n l t c room space l' given in
    record {
      count = (accepted_all n l t c room space l' given).new_count;
      keeps = is.0;
      is_standard = λ _. is.1;
      rebuilt_has = λ same. absurd (omega (arith, ap origin_number same));
      none_has = λ same. absurd (omega (arith, ap origin_number same));
    })

-- Restandardising, which leaves the leaf count, the origin and the table as they were.
table_kept :
    {R R' : TreeRecord} {g : Given} → table_of R'.leaves (tree R') ≡ table_of R.leaves (tree R)
    → HasTableGiven R g → HasTableGiven R' g
table_kept same (has_table {kind} h) = has_table (h ∙ ap (times (scale_of kind)) (sym same))

leaves_kept :
    {R R' : TreeRecord} {g : Given} → R'.leaves ≡ R.leaves → NoTreeHasGiven R g → NoTreeHasGiven R' g
leaves_kept same (no_tree h) = no_tree (rw (sym same) at h)

restandardise_sound :
    (room : ℕ) {R R' : TreeRecord} {g : Given} → Sound R g
    → restandardise_record R.leaves R.listing R.origin room ≡ accepted R' → Sound R' g
restandardise_sound room {R} v e =
    let again = restandardise_same R.leaves R.listing R.origin room e in
    record {
      count = rw again.same_leaves v.count;
      keeps = again.keeps_rules;
      is_standard = λ _. again.is_standard;
      rebuilt_has = λ same. table_kept again.same_table (v.rebuilt_has (sym again.same_origin ∙ same));
      none_has = λ same. leaves_kept again.same_leaves (v.none_has (sym again.same_origin ∙ same));
    }

-- One clause an operation.
made_sound : {R : TreeRecord} {g : Given} → Made R g → Sound R g
unfolding rebuild_record sheet_record guided_record guided_answer guess_record sheet_guess_record
made_sound (rebuild kind n t room e) =
    rebuild_sound kind n t room (rebuild_answer kind n t room) e (λ l given. given)
made_sound (rebuild_sheet S room e) =
    rebuild_sound Counts (leaves_of S) _ room (sheet_listing_answer S room) e (sheet_same_listing S room)
made_sound (rebuild_guided kind n t p room e) =
    rebuild_sound kind n t room (guided_answer kind n t p room) e (λ l given.
    guided_same_listing kind n t p room (unless_accepted _ _ l given).0 l given)
made_sound (guess kind n t room e) =
    guess_sound kind n t (guess_answer kind n t room) e (guess_is_reply kind n t room)
made_sound (guess_sheet S room e) =
    guess_sound Counts (leaves_of S) _ (sheet_guess_answer S room) e (sheet_guess_is_reply S room)
made_sound (lend n l e) = lend_sound n l e
made_sound (import S t room e) = import_sound S t room e
made_sound (graft n l t edge room space e) = change_sound n l t (Graft edge) room space e
made_sound (prune n l t x room space e) = change_sound n l t (Prune x) room space e
made_sound (restandardise room made e) = restandardise_sound room (made_sound made) e

-- The theorem: a record of origin rebuilt that our operations made has the table that was given.
pub made_rebuilt : {R : TreeRecord} {g : Given} → Made R g → R.origin ≡ Rebuilt → HasTableGiven R g
made_rebuilt made e = (made_sound made).rebuilt_has e

-- So where this table was given, it equals the tree's, for a poll's six times that;
pub made_rebuilt_given :
    {R : TreeRecord} {kind : Kind} {t : List ℕ} → Made R (some (kind, t)) → R.origin ≡ Rebuilt
    → t ≡ times (scale_of kind) (table_of R.leaves (tree R))
made_rebuilt_given {R} {kind} {t} made e = table_of_given (made_rebuilt made e)
  where
    table_of_given : HasTableGiven R (some (kind, t)) → t ≡ times (scale_of kind) (table_of R.leaves (tree R))
    table_of_given (has_table h) = h

-- and where none was, the origin is another.
pub made_none : {R : TreeRecord} → Made R none → R.origin ≢ Rebuilt
made_none {R} made e = none_given (made_rebuilt made e)
  where
    none_given : HasTableGiven R none → ⊥
    none_given = elim [ ]

-- A record of origin guessed that our operations made was given a table that no tree has.
pub made_guessed : {R : TreeRecord} {g : Given} → Made R g → R.origin ≡ Guessed → NoTreeHasGiven R g
made_guessed made e = (made_sound made).none_has e

-- Every record is a tree's,
pub made_is_a_tree :
    {R : TreeRecord} {g : Given} → Made R g → IsLeafCount R.leaves × KeepsRules R.leaves R.listing
made_is_a_tree made = ((made_sound made).count, (made_sound made).keeps)

-- and but for a lent one its listing is standard.
pub made_standard :
    {R : TreeRecord} {g : Given} → Made R g → R.origin ≢ Listed → standard R.leaves (tree R) ≡ R.listing
made_standard made other = (made_sound made).is_standard other

-- The sheet call tells no origin: its bytes are the listing of a made record that is rebuilt, from the sheet's table.
pub sheet_bytes_made :
    (S : List ℕ) (room : ℕ) (b : List ℕ) → sheet_bytes_answer S room ≡ accepted b
    → (R : TreeRecord) × Made R (some (Counts, sheet_table S)) × (R.origin ≡ Rebuilt)
    × (b ≡ flat_map (low_first 2) R.listing)
unfolding sheet_record marked
sheet_bytes_made S room b e =
    let n = leaves_of S in
    let l = bytes_same_listing S room b e in
    let R : TreeRecord = record { leaves = n; listing = l.0; origin = Rebuilt } in
    let given : sheet_record S (2 * (n - 2)) ≡ accepted R = rw l.1 in
    (R, rebuild_sheet S (2 * (n - 2)) given, refl, l.2)

-- Given room, a made record is never refused by restandardising, and what comes of it is made, of the same origin.
pub restandardise_made :
    {R : TreeRecord} {g : Given} (room : ℕ) → Made R g → 2 * (R.leaves - 2) ≤ room
    → (R' : TreeRecord) × (restandardise_record R.leaves R.listing R.origin room ≡ accepted R') × Made R' g
    × (R'.origin ≡ R.origin)
restandardise_made {R} room made enough =
    let v = made_sound made in
    let a = restandardise_accepts R.leaves R.listing R.origin room v.count v.keeps enough in
    (a.0, a.1, restandardise room made a.1, (restandardise_same _ _ _ room a.1).same_origin)
