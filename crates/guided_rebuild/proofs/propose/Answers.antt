-- `guided_rebuild::propose` meets its contract: the leaves name the subtrees that their labels stand for.
use mathlib.Core.Path.{refl}
use native.Mathlib.Omega.{arith}
use Rattle.guided_rebuild.proofs.Proposals.{proposal_refused, labels_of, proposed_move}
use Rattle.guided_rebuild.proofs.propose.Goals as goal

pub returns-then-n-i : goal.returns-then-n-i
returns-then-n-i c = proposal_refused (λ S s e. omega (arith, e.left, e.right, c.then-n-i.either))

pub try_merge-requires : goal.try_merge-requires
try_merge-requires c =
    labels_of c.requires.0 c.requires.1 c.if-n-i.false c.if-n-j.false refl refl

pub returns : goal.returns
returns c =
    proposed_move c.requires.0 c.requires.1 c.if-n-i.false c.if-n-j.false refl refl c.try_merge.ensures
