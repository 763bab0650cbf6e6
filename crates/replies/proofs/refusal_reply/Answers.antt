-- `replies::refusal_reply` meets its contract: the number has eight bits, and the figure is right in its lowest 56.
use mathlib.Core.Path.{◌∙◌}
use native.Mathlib.Omega.{arith}
use Rattle.replies.proofs.Numbers.{numbered}
use Rattle.replies.proofs.refusal_reply.Goals as goal

pub in_one-requires : goal.in_one-requires
in_one-requires c = omega (arith, c.from.ensures, (numbered c.args.r).1)

pub returns : goal.returns
returns c = c.in_one.ensures ∙ rw (c.from.ensures, c.figure_of.ensures)
