-- `name_index::NameIndex::add` meets its contract: the name equals an earlier one where an earlier leaf has it.
use mathlib.Core.Path.{◌≡◌, refl, ap, sym, ◌∙◌}
use Prim.Native.Nat.{◌%◌}
use Rattle.std.specs.Prelude.{is_some}
use Rattle.sheet_rules.specs.Operations.{repeated}
use Rattle.sheet_rules.proofs.Names.{start_name}
use Rattle.name_index.specs.inner.Hashes.{buckets}
use Rattle.name_index.proofs.NamedLeaves.{repeated_found}
use Rattle.name_index.proofs.Indexes.{index_more}
use Rattle.name_index.proofs.NameIndex.add.Goals.{After-find}
use Rattle.name_index.proofs.NameIndex.add.Goals as goal

pub find-requires : goal.find-requires
find-requires c =
    let r = rw (← c.self.view_is) at c.requires in
    rw (c.name_at.ensures, start_name _ _ r.1) r.2

-- the name is one of those before it where it was found
repeated_is :
    (c : After-find)
    → (let x = c.self.inside in repeated x.sheet.now x.many ≡ is_some c.find.result)
repeated_is c =
    let x = c.self.inside in
    let named = start_name x.sheet.now x.many (rw (← c.self.view_is) at c.requires.1) in
    repeated_found x.sheet.now x.many (rw (← c.self.view_is, c.name_at.ensures, named) at c.find.ensures)

pub returns-then-is_some : goal.returns-then-is_some
returns-then-is_some c =
    let again =
    repeated_is (goal.at.returns-then-is_some c).After-find ∙ sym c.is_some.ensures ∙ c.if-is_some.true in
    rw (← c.self.view_is) (rw again, refl)

pub invariant_of-self : goal.invariant_of-self
invariant_of-self c =
    let x = c.self.inside in
    let r = rw (← c.self.view_is) at c.requires in
    let new = repeated_is (goal.at.invariant_of-self c).After-find ∙ sym c.is_some.ensures ∙ c.if-is_some.false in
    let b = c.bucket-b.ensures.0 ∙ ap (λ h. h % buckets) r.2 in
    (c.self.invariant.0, index_more c.self.invariant.1 r.0 r.1 r.3 new b)

pub returns : goal.returns
returns c =
    let new = repeated_is (goal.at.returns c).After-find ∙ sym c.is_some.ensures ∙ c.if-is_some.false in
    rw (← c.self.view_is) (rw new, refl)
