-- `checks::questions::bad_at` meets its contract: the two tests are the definition's.
use mathlib.Core.Path.{◌∙◌}
use Prim.Native.Nat.{◌<◌}
use native.Mathlib.Omega.{arith}
use lib.ListN.{get_or}
use borrow.Author.Tests.{lt-leb}
use Rattle.checks.proofs.QuestionRefusal.{any_equal}
use Rattle.checks.proofs.questions.bad_at.Goals as goal

pub returns-else-n-from : goal.returns-else-n-from
returns-else-n-from c =
    let a = c.args in
    let leaf : get_or a.question.now a.p 0 < a.n = omega (arith, c.from.ensures) in
    rw (lt-leb _ _ leaf) (c.contains.ensures.value ∙ any_equal _ _)
