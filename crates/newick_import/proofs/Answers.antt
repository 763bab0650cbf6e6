-- Import as a whole: what reading answers, then the standard listing of the rows that it and the chain made; and the
-- sheet, which is judged before.
use Rattle.std.specs.Prelude.{Ok, Err}
use mathlib.Core.Path.{◌≡◌, refl, ap, sym, ◌∙◌}
use mathlib.Core.List.{List, [], ◌∷◌, ◌++◌}
use mathlib.Core.Option.{none}
use Prim.Native.Nat.{ℕ, ◌-◌, ◌*◌, ◌≤◌}
use native.Mathlib.Omega.{arith}
use lib.ListN.{length, drop}
use Rattle.limits.specs.Limits.{IsLeafCount}
use Rattle.refusals.specs.declared.Refusal.{Refusal}
use Rattle.refusals.specs.Refusals.{Answer, accepted, refused, judged, answered, outcome, written}
use Rattle.refusals.proofs.Answers.{outcome_answered, done_none, written_done}
use Rattle.trees.specs.Listings.{tree_of, standard}
use Rattle.trees.proofs.Rules.{listing_tree}
use Rattle.trees.proofs.Listings.{tree_listing}
use Rattle.rerooted_rows.specs.declared.Rerooting.{Rerooting}
use Rattle.rerooted_rows.specs.inner.Arrays.{with_chain}
use Rattle.sheet_rules.specs.Sheets.{leaves_of, offset_of, names_of}
use Rattle.sheet_rules.specs.Operations.{sheet_refusal}
use Rattle.sheet_rules.proofs.SheetRefusal.{accepted_sheet}
use Rattle.newick_rules.specs.Drawings.{names_in}
use Rattle.newick_rules.specs.Importing.{tree_drawn, imported}
use Rattle.newick_rules.specs.Importing.{nodes_refusal, strains_refusal}
use Rattle.newick_rules.specs.Operations.{Strains}
use Rattle.newick_rules.proofs.Sheets.{sheet_strains}
use Rattle.newick_text.specs.inner.Texts.{Drawn}

-- The whole import, where the sheet is right: with nothing refused, the standard listing of what the arrays hold.
pub import_done :
    (S t : List ℕ) {n : ℕ} {R : Rerooting} → IsLeafCount n → length (names_of S) ≡ n
    → outcome (imported (names_of S) t) ≡ Ok tt → Drawn (names_of S) n t R → (out : List ℕ)
    → written (imported (names_of S) t) out
    ≡ standard n (tree_of n (with_chain n R)) ++ drop (2 * (n - 2)) out
unfolding imported tree_drawn
import_done S t {n} {R} count many done D out =
    let known = names_of S in
    let o = judged (nodes_refusal D.drawing ∷ strains_refusal known (names_in D.drawing) ∷ []) in
    let T = tree_of n (with_chain n R) in
    let answered_is : imported known t ≡ answered o (standard n T) = rw (D.read_is, imported, many, D.tree) in
    let passed = done_none o (sym (outcome_answered o (standard n T)) ∙ ap outcome (sym answered_is) ∙ done) in
    let tree = listing_tree n count (with_chain n R) D.keeps in
    let long = (tree_listing n count T tree).0.numbers in
    rw answered_is (written_done o (standard n T) out passed ∙ rw long)

-- with something refused, the buffer as it was
pub import_refused :
    (a : Answer (List ℕ)) (r : Refusal) (out : List ℕ) → outcome a ≡ Err r → out ≡ written a out
unfolding outcome written
import_refused (accepted l) r out e = absurd (let z : ◌≡◌ {A = ℕ} 0 1 = cc in omega arith)
import_refused (refused q) r out e = refl

-- a sheet that has passed, with room for a listing of n leaves
pub sheet_ready :
    (S : List ℕ) (n room : ℕ) → n ≡ leaves_of S → sheet_refusal S (2 * (leaves_of S - 2)) room ≡ none
    → IsLeafCount n × Strains n (names_of S) × (2 * (n - 2) ≤ room)
unfolding sheet_refusal
sheet_ready S n room e h =
    let due = 2 * (leaves_of S - 2) in
    let a = accepted_sheet S (leaves_of S) (offset_of S) due room h in
    rw e (a.count, sheet_strains S due room h, a.room_enough)
