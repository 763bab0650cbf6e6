-- Import and export with a sheet: what a sheet that is not refused has for names; what import answers; and what export
-- writes, import takes, and gives back the standard listing of the tree exported.
use mathlib.Core.Path.{◌≡◌, ap, sym, ◌∙◌}
use mathlib.Core.List.{List}
use mathlib.Core.Option.{none}
use Prim.Native.Nat.{ℕ, ◌-◌, ◌*◌, ◌≤◌}
use native.Mathlib.Omega.{arith}
use lib.ListN.{length}
use Rattle.limits.specs.declared.Kind.TheVariants.{Counts}
use Rattle.limits.specs.Limits.{IsLeafCount}
use Rattle.refusals.specs.Refusals.{Answer, accepted, judged, unless}
use Rattle.refusals.specs.Meanings.{refused_before, none_before}
use Rattle.refusals.proofs.Answers.{judged_none, unless_passed, unless_accepted, answered_accepted}
use Rattle.refusals.proofs.Meanings.{unless_means}
use Rattle.trees.specs.Listings.{KeepsRules, rules_refusal, tree_of, standard}
use Rattle.trees.proofs.Rules.{listing_tree}
use Rattle.checks.specs.Sizes.{count_refusal, length_refusal}
use Rattle.checks.proofs.Sizes.{count_right, length_right, room_passes}
use Rattle.sheet_rules.specs.Sheets.{leaves_of, offset_of, names_of}
use Rattle.sheet_rules.specs.Operations.{sheet_ends_refusal, sheet_length_refusal, names_refusal, kept_sheet_refusal}
use Rattle.sheet_rules.specs.Operations.{sheet_refusal}
use Rattle.sheet_rules.proofs.Names.{names_many, names_at}
use Rattle.sheet_rules.proofs.SheetRefusal.{accepted_sheet}
use Rattle.sheet_rules.proofs.Accepted.{names_good, names_distinct}
use Rattle.newick_rules.specs.Drawings.{Drawing}
use Rattle.newick_rules.specs.Writings.{Right}
use Rattle.newick_rules.specs.Exporting.{exported}
use Rattle.newick_rules.specs.Importing.{deepest, imported}
use Rattle.newick_rules.specs.Operations.{Strains, import_answer, export_answer}
use Rattle.newick_rules.specs.Meanings.{Imported, Says, ImportMeans}
use Rattle.newick_rules.proofs.Exports.{import_export}
use Rattle.newick_rules.proofs.Imports.{import_alike, import_says, import_right}
use Rattle.newick_rules.proofs.OnlyTree.{says_only}

-- the names of a sheet that is not refused
pub sheet_strains : (S : List ℕ) (due room : ℕ) → sheet_refusal S due room ≡ none → Strains (leaves_of S) (names_of S)
sheet_strains S due room h = record {
  many = names_many S;
  are_names = λ i l. rw (names_at S i l) (names_good S due room h i l);
  distinct = λ i j l m e.
      names_distinct S due room h i j l m (sym (names_at S i (omega arith)) ∙ e ∙ names_at S j m);
}

-- a sheet whose sizes and names pass is not refused
sheet_passes :
    (S : List ℕ) (due room : ℕ) → sheet_ends_refusal S ≡ none → count_refusal (leaves_of S) ≡ none
    → sheet_length_refusal S (leaves_of S) (offset_of S) ≡ none → names_refusal S (leaves_of S) (offset_of S) ≡ none
    → due ≤ room → sheet_refusal S due room ≡ none
unfolding sheet_refusal kept_sheet_refusal judged
sheet_passes S due room ends count sum names enough = rw (ends, count, sum, room_passes due room enough, names)

-- what import answers, where the sheet is not refused
pub import_answer_says :
    (S t : List ℕ) (room : ℕ) → ImportMeans S t room (import_answer S t room)
unfolding import_answer
import_answer_says S t room =
    let n = leaves_of S in
    let due = 2 * (n - 2) in
    unless_means (Says n (names_of S) t) (sheet_refusal S due room) (imported (names_of S) t) (λ h.
    let count = (accepted_sheet S n (offset_of S) due room (unfold sheet_refusal in h)).count in
    import_says n (names_of S) t count (sheet_strains S due room h))

-- so a listing that it gives is that of the tree that the text draws
pub import_answer_right :
    (S t : List ℕ) (room : ℕ) (l : List ℕ) → import_answer S t room ≡ accepted l
    → IsLeafCount (leaves_of S) × Imported (leaves_of S) (names_of S) t l
unfolding import_answer
import_answer_right S t room l e =
    let n = leaves_of S in
    let due = 2 * (n - 2) in
    let a = unless_accepted (sheet_refusal S due room) (imported (names_of S) t) l e in
    let count = (accepted_sheet S n (offset_of S) due room (unfold sheet_refusal in a.0)).count in
    (count, import_right n (names_of S) t l count (sheet_strains S due room a.0) a.1)

-- and no other answer means what import is to say
pub import_fixed :
    (S t : List ℕ) (room : ℕ) (a : Answer (List ℕ)) → ImportMeans S t room a → a ≡ import_answer S t room
unfolding import_answer unless
import_fixed S t room a (refused_before e) = rw e
import_fixed S t room a (none_before e m) =
    let n = leaves_of S in
    let due = 2 * (n - 2) in
    let count = (accepted_sheet S n (offset_of S) due room (unfold sheet_refusal in e)).count in
    rw e (says_only n (names_of S) t count (sheet_strains S due room e) a m)

-- it depends on what the text draws alone, not on its blanks and lengths
pub import_answer_alike :
    (S t t' : List ℕ) (room : ℕ) (d : Drawing) → Right deepest t d → Right deepest t' d
    → import_answer S t room ≡ import_answer S t' room
unfolding import_answer
import_answer_alike S t t' room d R R' = ap (unless _) (import_alike (names_of S) t t' d R R')

-- what export writes, import takes, and gives back the standard listing of the tree exported
pub import_with_export :
    (S l t : List ℕ) (room room' : ℕ) → export_answer S l room ≡ accepted t → 2 * (leaves_of S - 2) ≤ room'
    → import_answer S t room' ≡ accepted (standard (leaves_of S) (tree_of (leaves_of S) l))
unfolding export_answer import_answer
import_with_export S l t room room' h enough =
    let n = leaves_of S in
    let o = offset_of S in
    let due = 2 * (n - 2) in
    let p = answered_accepted _ (exported (names_of S) (tree_of n l)) t h in
    let a = judged_none (sheet_ends_refusal S) _ p.0 in
    let b = judged_none (count_refusal n) _ a.1 in
    let c = judged_none (length_refusal due (length l)) _ b.1 in
    let d = judged_none (sheet_length_refusal S n o) _ c.1 in
    let e = judged_none (rules_refusal n l) _ d.1 in
    let f = judged_none (names_refusal S n o) _ e.1 in
    let sheet = sheet_passes S due room' a.0 b.0 d.0 f.0 enough in
    let count = count_right Counts n b.0 in
    let keeps : KeepsRules n l = record { numbers = length_right due (length l) c.0; rules = e.0 } in
    unless_passed (sheet_refusal S due room') (imported (names_of S) t) sheet
    ∙ rw (← p.1)
    (import_export n (names_of S) (tree_of n l) count (sheet_strains S due room' sheet) (listing_tree n count l keeps))
