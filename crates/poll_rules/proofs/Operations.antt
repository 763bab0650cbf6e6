-- A poll whose sizes are not refused: what they are.
use mathlib.Core.Path.{◌≡◌}
use mathlib.Core.Option.{none}
use Prim.Native.Nat.{ℕ, ◌*◌, ◌≤◌}
use Rattle.limits.specs.declared.Kind.TheVariants.{Poll}
use Rattle.limits.specs.Limits.{fewest_polled, most_polled}
use Rattle.checks.proofs.Sizes.{sizes_right}
use Rattle.poll_rules.specs.Records.{records_due}
use Rattle.poll_rules.specs.Operations.{poll_sizes_refusal}

-- sizes that are not refused
pub record PollSizes (n lent room : ℕ) : Type 0 where
  pub fewest : fewest_polled ≤ n
  pub most : n ≤ most_polled
  pub due : lent ≡ records_due n
  pub fits : n * n ≤ room

pub sizes_pass : (n lent room : ℕ) → poll_sizes_refusal n lent room ≡ none → PollSizes n lent room
sizes_pass n lent room h =
    let w = sizes_right Poll n (records_due n) lent (n * n) room h in
    record { fewest = w.count.0; most = w.count.1; due = w.long; fits = w.enough }
