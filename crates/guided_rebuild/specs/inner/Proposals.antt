-- The guided rebuild: what its arrays stand for, and what is said of a proposal. No public contract cites it.
use Rattle.std.specs.Prelude.{◌≡◌, Bool, true, List, ℕ, ◌-◌, ◌*◌, ◌<◌, length, get_or, drop}
use Rattle.trees.specs.Tables.{cell}
use Rattle.merging.specs.Merging.{State, start, eligible, step}
use Rattle.merging.specs.Rebuilds.{stop_at}
use Rattle.merging.specs.inner.Runs.{Runs}
use Rattle.rebuild_answers.specs.Operations.{proposals}
use Rattle.state_arrays.specs.inner.Fits.{Given}
use Rattle.state_arrays.specs.inner.StateArrays.{HoldsState}

-- the arrays hold S, which merges have reached
pub record HoldsReached (n s : ℕ) (table label m sizes : List ℕ) (S : State) : Type 0 where
  pub came : Runs n s (cell n table) start S
  pub holds : HoldsState n s label m sizes S

-- the arrays hold some state
pub record HoldsSomeReached (n s : ℕ) (table label m sizes : List ℕ) : Type 0 where
  pub state : State
  pub stands : HoldsReached n s table label m sizes state

-- two labels, which may be the same
pub record Labels (n s : ℕ) (table label m sizes p : List ℕ) (a b : ℕ) : Type 0 where
  pub given : Given n s table p
  pub standing : HoldsSomeReached n s table label m sizes
  pub first : a < n
  pub second : b < n
  pub own_first : get_or label a 0 ≡ a
  pub own_second : get_or label b 0 ≡ b

-- the answer r to the proposal i j, in any state that the arrays hold; an eligible pair has been merged
pub record Proposed (n s : ℕ) (table label m sizes label' m' sizes' : List ℕ) (i j : ℕ) (r : Bool) : Type 0 where
  pub told : (S : State) → HoldsReached n s table label m sizes S → r ≡ eligible n s (cell n table) S i j
  pub merged :
      r ≡ true → (S : State) → HoldsReached n s table label m sizes S
      → HoldsReached n s table label' m' sizes' (step S i j)

-- after k proposals the arrays hold a state, from which the rest goes on as the whole list does from the start
pub record StepsAccepted (n s : ℕ) (table merges label m sizes : List ℕ) (k : ℕ) : Type 0 where
  pub long : length merges ≡ 2 * (n - 1)
  pub state : State
  pub stands : HoldsReached n s table label m sizes state
  pub rest : stop_at k n s table state (drop k (proposals merges)) ≡ stop_at 0 n s table start (proposals merges)
