-- `sets::words::single_word` meets its contract: the leaf's own word has one power of 2, and the others are 0.
use mathlib.Core.Path.{sym}
use Rattle.sets.proofs.WordSets.{own_word, other_word}
use Rattle.sets.proofs.words.single_word.Goals as goal

pub returns-then-k-i : goal.returns-then-k-i
returns-then-k-i c = rw (← c.if-k-i.true) (own_word c.args.k)

pub returns-else-k-i : goal.returns-else-k-i
returns-else-k-i c = sym (other_word c.args.k c.args.i (λ e. c.if-k-i.false (sym e)))
