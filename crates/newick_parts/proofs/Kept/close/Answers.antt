-- `Kept::close` meets its contract: one lemma for each way out. The last part is joined, a name is wrong, the bracket
-- has too few parts or too many, or some node was not binary before.
use mathlib.Core.Path.{sym, ◌∙◌}
use Rattle.newick_parts.proofs.Keeping.{part_fits, close_unbinary, close_unfit, close_unnamed, close_part}
use Rattle.newick_parts.proofs.Kept.close.Goals as goal

pub returns-then-not-self : goal.returns-then-not-self
returns-then-not-self c known o s d seen deep A =
    let r = c.requires in
    close_unbinary r.count _ r.shallow deep A c.if-not-self.true

pub returns-then-not-may_close : goal.returns-then-not-may_close
returns-then-not-may_close c known o s d seen deep A =
    let r = c.requires in
    close_unfit r.count _ r.shallow deep A c.if-not-self.false (sym c.may_close.ensures ∙ c.if-not-may_close.true)

pub part-requires : goal.part-requires
part-requires c =
    let r = c.requires in
    part_fits r.count _ r.shallow r.depth_is r.kept _ c.if-not-self.false c.if-self.true

pub returns-then-self : goal.returns-then-self
returns-then-self c known o s d seen deep A =
    let r = c.requires in
    close_part r.count _ r.shallow deep A c.if-not-self.false
    (sym c.may_close.ensures ∙ c.if-not-may_close.false) _ c.if-self.true c.part.ensures

pub returns-else-self : goal.returns-else-self
returns-else-self c known o s d seen deep A =
    let r = c.requires in
    close_unnamed r.count _ r.shallow deep A c.if-not-self.false
    (sym c.may_close.ensures ∙ c.if-not-may_close.false) c.if-self.false
