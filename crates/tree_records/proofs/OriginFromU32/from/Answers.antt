-- `Origin::from` meets its contract: each number names its origin, and any other listed.
use mathlib.Core.Path.{sym}
use Rattle.tree_records.specs.Origins.{origin_of}
use Rattle.tree_records.proofs.Origins.{other_listed}
use Rattle.tree_records.proofs.OriginFromU32.from.Goals as goal

pub returns-then-number-eq0 : goal.returns-then-number-eq0
unfolding origin_of
returns-then-number-eq0 c = rw c.if-number-eq0.true

pub returns-then-number-eq2 : goal.returns-then-number-eq2
unfolding origin_of
returns-then-number-eq2 c = rw c.if-number-eq2.true

pub returns-then-number-eq3 : goal.returns-then-number-eq3
unfolding origin_of
returns-then-number-eq3 c = rw c.if-number-eq3.true

pub returns-then-number-eq4 : goal.returns-then-number-eq4
unfolding origin_of
returns-then-number-eq4 c = rw c.if-number-eq4.true

pub returns : goal.returns
returns c = sym (other_listed _ c.if-number-eq0.false c.if-number-eq2.false
    c.if-number-eq3.false c.if-number-eq4.false)
