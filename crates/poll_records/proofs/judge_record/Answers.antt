-- `poll_records::judge_record` meets its contract: the numbers are equal where the four leaves are, and the tests are
-- those of `record_refusal`, in the same order.
use mathlib.Core.Path.{◌≡◌, sym, ◌∙◌}
use mathlib.Core.Logic.{◌≢◌}
use mathlib.Core.Bool.{true, false}
use Prim.Native.Nat.{◌<◌}
use native.Mathlib.Omega.{arith}
use borrow.Author.Rules.{rules}
use borrow.Author.Tests.{le-leb, lt-leb}
use Rattle.refusals.specs.Refusals.{outcome_of}
use Rattle.poll_rules.specs.Records.{four, last_code, is_of, record_code_refusal}
use Rattle.poll_rules.proofs.Records.{leaves_first, code_then}
use Rattle.poll_records.specs.inner.Due.{packed}
use Rattle.poll_records.proofs.PackedLeaves.{same_leaves, other_leaves}
use Rattle.poll_records.proofs.judge_record.Goals.{After-packed}
use Rattle.poll_records.proofs.judge_record.Goals as goal

-- the number is that of the record's leaves
number : (c : After-packed) → let r = c.args.r in c.packed.result ≡ packed (four r.a r.b r.c r.d)
number c = rw c.from.ensures at c.packed.ensures

bytes : (c : After-packed) → let r = c.args.r in (r.a < 256) × (r.b < 256) × (r.c < 256) × (r.d < 256)
bytes c = search rules

same : (c : After-packed) → c.packed.result ≡ c.args.due.leaves → is_of c.args.due.quartet c.args.r ≡ true
same c e =
    same_leaves c.args.due.quartet c.args.r c.requires.1 (bytes c) (sym (number c) ∙ e ∙ c.requires.0)

other : (c : After-packed) → c.packed.result ≢ c.args.due.leaves → is_of c.args.due.quartet c.args.r ≡ false
other c n =
    other_leaves c.args.due.quartet c.args.r c.requires.1 (bytes c) (λ e. n (number c ∙ e ∙ sym c.requires.0))

pub returns-then-packed-due : goal.returns-then-packed-due
unfolding outcome_of
returns-then-packed-due c =
    let differ = other (goal.at.returns-then-packed-due c).After-packed c.if-packed-due.true in
    rw (leaves_first c.args.k c.args.due.quartet c.args.r differ)

pub returns-then-r-gt-LAST_CODE : goal.returns-then-r-gt-LAST_CODE
unfolding outcome_of record_code_refusal
returns-then-r-gt-LAST_CODE c =
    let r = c.args.r in
    let here = same (goal.at.returns-then-r-gt-LAST_CODE c).After-packed c.if-packed-due.false in
    rw (code_then c.args.k c.args.due.quartet r here, lt-leb r.code last_code (omega arith))

pub returns : goal.returns
unfolding outcome_of record_code_refusal
returns c =
    let r = c.args.r in
    let here = same (goal.at.returns c).After-packed c.if-packed-due.false in
    rw (code_then c.args.k c.args.due.quartet r here, le-leb r.code last_code (omega arith))
