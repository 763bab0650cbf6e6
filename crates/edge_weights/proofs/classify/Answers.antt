-- `edge_weights::classify` meets its contract: the leaves before leaf j have their classes.
use mathlib.Core.Path.{◌∙◌}
use native.Mathlib.Omega.{arith}
use native.Mathlib.Decide.{ℕ_discrete}
use lib.ListN.{length-set}
use lib.Seq.{get_or-set_same, get_or-set_other}
use Rattle.edge_weights.proofs.classify.Goals as goal

pub loop-j-preserved : goal.loop-j-preserved
loop-j-preserved c = (
  simp length-set c.loop-j.invariant.0,
  λ k h. elim (ℕ_discrete k c.loop-j.j) [
    | yes e ↦ rw e (get_or-set_same c.loop-j.classes c.loop-j.j _ 0 (omega arith) ∙ c.class_of.ensures)
    | no d ↦ get_or-set_other c.loop-j.classes c.loop-j.j k _ 0 d ∙ c.loop-j.invariant.1 k (omega arith)
  ],
)

pub returns : goal.returns
returns c = λ k h. c.loop-j.invariant.1 k (omega arith)
