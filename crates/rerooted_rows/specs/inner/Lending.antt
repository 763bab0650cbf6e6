-- What the arrays are once the finished listing is lent no longer. No public contract cites this.
use Rattle.std.specs.Prelude.{◌≡◌, ⊤, ℕ, ◌+◌, ◌-◌, ◌*◌, length, take}
use Rattle.std.specs.Borrow.{follows_so, MutBor, Fml}
use mathlib.Core.Option.{none}
use Rattle.limits.specs.Limits.{most_numbers}
use Rattle.rerooted_rows.specs.declared.Rerooting.{Rerooting}
use Rattle.rerooted_rows.specs.contracts.Rerooting.{the_row}
use Rattle.rerooted_rows.specs.inner.Arrays.{with_chain}

-- the rows that the chain makes stand behind the others, and the chain and the counts are as they were
pub record Finished (n : ℕ) (R R' : Rerooting) : Type 0 where
  pub rows_are : take (2 * (R.made + (R.chained - 1))) R'.rows ≡ with_chain n R
  pub rows_long : length R'.rows ≡ most_numbers
  pub made_stays : R'.made ≡ R.made
  pub chain_stays : R'.chain ≡ R.chain
  pub chained_stays : R'.chained ≡ R.chained

-- a borrow of r that ends so
abbrev pub LeavesFinished : ℕ → MutBor Rerooting → Fml
LeavesFinished n r = follows_so the_row the_row r.ghost_name none (λ _ _. ⊤) (Finished n r.now)
