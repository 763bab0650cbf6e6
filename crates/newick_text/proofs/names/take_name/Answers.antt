-- `newick_text::names::take_name` meets its contract: the index says which leaf has the name, and the array whether
-- it was named before.
use native.Mathlib.Omega.{arith}
use mathlib.Core.Path.{◌≡◌, refl, sym, ◌∙◌}
use Prim.Native.Nat.{◌<◌}
use Rattle.base.proofs.Lists.{length_tab}
use Rattle.sheet_rules.specs.Sheets.{leaf_named, names_of}
use Rattle.name_index.specs.inner.Indexes.{names_in}
use Rattle.name_index.proofs.NamedLeaves.{named_found, named_nowhere}
use Rattle.newick_text.proofs.TakenNames.{leaf_of_sheet, taken_misnamed, taken_unknown, taken_again, taken_new}
use Rattle.newick_text.proofs.names.take_name.Goals.{In-Some, in_default-via-in-Some+else-not-seen-i}
use Rattle.newick_text.proofs.names.take_name.Goals.{in_default-via-in_default}
use Rattle.newick_text.proofs.names.take_name.Goals as goal

-- the leaf that was found
the_leaf :
    (c : In-Some)
    → (let a = c.args in
    let x = a.names.now in
    (c.in-Some.i ≡ leaf_named (names_of x.sheet) (a.word.now)) × (c.in-Some.i < x.many))
the_leaf c =
    let found = named_found (names_in c.args.names.now) _ c.find.ensures c.in-Some.is in
    (sym found.0 ∙ leaf_of_sheet c.args.names.now c.requires.indexed _, rw length_tab at found.1)

pub returns-then-not-kept : goal.returns-then-not-kept
returns-then-not-kept c = taken_misnamed c.if-not-kept.true

pub bounds-seen-i : goal.bounds-seen-i
bounds-seen-i c = omega (arith, the_leaf (goal.at.bounds-seen-i c).In-Some, c.requires.few)

pub bounds-seen-i-in-Some : goal.bounds-seen-i-in-Some
bounds-seen-i-in-Some c = omega (arith, the_leaf (goal.at.bounds-seen-i-in-Some c).In-Some, c.requires.few)

pub overflow_cast-kept : goal.overflow_cast-kept
overflow_cast-kept c = omega (arith, the_leaf (goal.at.overflow_cast-kept c).In-Some, c.requires.few)

pub returns-in-Some : goal.returns-in-Some
returns-in-Some c =
    let leaf = the_leaf (goal.at.returns-in-Some c).In-Some in
    taken_new c.if-not-kept.false _ leaf.0 leaf.1 c.if-not-seen-i.true

pub returns-in_default : goal.returns-in_default
returns-in_default c =
    let a = c.args in
    let x = a.names.now in
    let word = a.word.now in
    elim c.in_default.branch [
      | in_default-via-in-Some+else-not-seen-i w ↦
          let found = named_found (names_in x) word c.find.ensures w.in-Some.is in
          let leaf = sym found.0 ∙ leaf_of_sheet x c.requires.indexed word in
          taken_again c.if-not-kept.false _ leaf (rw length_tab at found.1) w.if-not-seen-i.false
      | in_default-via-in_default w ↦
          let nowhere = named_nowhere (names_in x) word c.find.ensures w.in_default.is in
          let past = rw (length_tab, leaf_of_sheet x c.requires.indexed word) at nowhere in
          taken_unknown c.if-not-kept.false _ refl past
    ]
