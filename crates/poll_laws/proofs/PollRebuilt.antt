-- Rebuilding the poll of a tree's own pairings, as a poll's table, gives that tree: `own_poll_rebuilt`. Its table is
-- six times the tree's (`own_poll`), and by demand 3 the rebuild gives the only tree that has it.
use mathlib.Core.Path.{◌≡◌}
use mathlib.Core.Bool.{true}
use mathlib.Core.List.{List}
use Prim.Native.Nat.{ℕ, ◌-◌, ◌*◌, ◌≤◌}
use Rattle.base.specs.Lists.{all_in}
use Rattle.limits.specs.declared.Kind.TheVariants.{Poll}
use Rattle.refusals.specs.Refusals.{accepted}
use Rattle.trees.specs.Trees.{Tree, IsTree}
use Rattle.trees.specs.Listings.{standard}
use Rattle.rebuild_answers.specs.Operations.{rebuild_answer}
use Rattle.rebuild_answers.proofs.RoundTrip.{had_rebuilt}
use Rattle.poll_rules.specs.declared.Record.{Record}
use Rattle.poll_rules.specs.Operations.{poll_answer}
use Rattle.poll_laws.specs.OwnPairings.{is_own}
use Rattle.poll_laws.proofs.AcceptedPolls.{accepted_poll}
use Rattle.poll_laws.proofs.OwnPolls.{own_poll}

-- R is an accepted poll with the table t, each of its records has the tree's own pairing, and room is enough for a
-- listing
pub own_poll_rebuilt :
    (n : ℕ) (R : List Record) (cells : ℕ) (t : List ℕ) → poll_answer n R cells ≡ accepted t → (T : Tree) → IsTree n T
    → all_in (is_own T) R ≡ true → (room : ℕ) → 2 * (n - 2) ≤ room
    → rebuild_answer Poll n t room ≡ accepted (standard n T)
own_poll_rebuilt n R cells t h T tree own room enough =
    had_rebuilt Poll n (accepted_poll n R cells t h).count T tree t (own_poll n R cells t h T tree own) room enough
