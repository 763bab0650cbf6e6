-- `Kept::comma` meets its contract: one lemma for each way out. A part is joined, a name is wrong, the bracket has too
-- many parts, or some node was not binary before.
use mathlib.Core.Path.{sym, ◌∙◌}
use Rattle.newick_parts.proofs.Keeping.{part_fits, comma_unbinary, comma_unfit}
use Rattle.newick_parts.proofs.Keeping.{comma_unnamed, comma_part}
use Rattle.newick_parts.proofs.Kept.comma.Goals as goal

pub returns-then-not-self : goal.returns-then-not-self
returns-then-not-self c known o s d seen deep A =
    let r = c.requires in
    comma_unbinary r.count _ r.shallow deep A c.if-not-self.true

pub returns-then-not-may_go_on : goal.returns-then-not-may_go_on
returns-then-not-may_go_on c known o s d seen deep A =
    let r = c.requires in
    comma_unfit r.count _ r.shallow deep A c.if-not-self.false
    (sym c.may_go_on.ensures ∙ c.if-not-may_go_on.true)

pub part-requires : goal.part-requires
part-requires c =
    let r = c.requires in
    part_fits r.count _ r.shallow r.depth_is r.kept _ c.if-not-self.false c.if-self.true

pub returns-then-self : goal.returns-then-self
returns-then-self c known o s d seen deep A =
    let r = c.requires in
    comma_part r.count _ r.shallow deep A c.if-not-self.false
    (sym c.may_go_on.ensures ∙ c.if-not-may_go_on.false) _ c.if-self.true c.part.ensures

pub returns-else-self : goal.returns-else-self
returns-else-self c known o s d seen deep A =
    let r = c.requires in
    comma_unnamed r.count _ r.shallow deep A c.if-not-self.false
    (sym c.may_go_on.ensures ∙ c.if-not-may_go_on.false) c.if-self.false
