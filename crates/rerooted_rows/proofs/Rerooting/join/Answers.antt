-- `Rerooting::join` meets its contract: one lemma for each way out.
use Rattle.rerooted_rows.proofs.Arrays.{join_first, join_second, join_row}
use Rattle.rerooted_rows.proofs.Rerooting.join.Goals.{in-0-default, in-0-default-2}
use Rattle.rerooted_rows.proofs.Rerooting.join.Goals as goal

pub returns-in-0-default : goal.returns-in-0-default
returns-in-0-default c = elim c.in-0-default-1.branch [
  | in-0-default w ↦ rw w.other-is (join_first _ _ _ _ w.in-0-default.is-0)
  | in-0-default-2 w ↦ rw w.other-is (join_second _ _ _ _ w.in-0-default.is-0.1 w.in-0-default.is-1)
]

pub returns-in_default : goal.returns-in_default
returns-in_default c = join_row _ _ _ _ c.in_default.is-0.1 c.in_default.is-1.1
