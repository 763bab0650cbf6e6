-- `sets::words::each_word` meets its contract: before turn i the first i words are made.
use mathlib.Core.Path.{◌≡◌}
use Prim.Native.Nat.{ℕ, ◌<◌}
use lib.ListN.{length, get_or}
use Rattle.limits.specs.Limits.{set_words}
use Rattle.sets.proofs.words.each_word.Given as goal

abbrev pub invariant-loop-i : goal.invariant-loop-i
invariant-loop-i g l =
    (length l.words ≡ set_words) × ((j : ℕ) → j < l.i → g.F.Fn.post l.word (j, tt) (get_or l.words j 0))
