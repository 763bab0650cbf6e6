-- What is judged of a sheet before its names. No operation's contract cites it.
use Rattle.std.specs.Prelude.{◌≡◌, List, ℕ, ◌≤◌, true}
use Rattle.limits.specs.declared.Kind.TheVariants.{Counts}
use Rattle.checks.specs.Sizes.{right_count}
use Rattle.sheet_rules.specs.Operations.{right_ends, right_sum}

-- the sizes of S are right by these figures, and there is room for a result of so many cells: 13, 1, 14 and 3 do not
-- arise
pub record SizesAccepted (S : List ℕ) (n o due room : ℕ) : Type 0 where
  pub ends : right_ends S ≡ true
  pub count : right_count Counts n ≡ true
  pub sum : right_sum S n o ≡ true
  pub enough : due ≤ room
