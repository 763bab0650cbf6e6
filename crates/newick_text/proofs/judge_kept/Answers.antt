-- `newick_text::judge_kept` meets its contract: its tests are those of `kept_refusal`, in order.
use Rattle.newick_text.proofs.Texts.{not_binary}
use Rattle.newick_text.proofs.judge_kept.Goals as goal

pub returns-then-not-kept : goal.returns-then-not-kept
returns-then-not-kept c = not_binary _ _ c.if-not-kept.true
