-- The operation on polls: its answer, the refusals in the order in which they are judged.
use Rattle.std.specs.Prelude.{List, [], ◌∷◌, ℕ, ◌*◌, length}
use Rattle.std.proofs.Math.Option.{Option}
use Rattle.limits.specs.declared.Kind.TheVariants.{Poll}
use Rattle.refusals.specs.declared.Refusal.{Refusal}
use Rattle.refusals.specs.Refusals.{Answer, judged, answered}
use Rattle.checks.specs.Sizes.{sizes_refusal}
use Rattle.poll_rules.specs.declared.Record.{Record}
use Rattle.poll_rules.specs.Records.{records_due, records_refusal}
use Rattle.poll_rules.specs.Counts.{poll_table}

-- the sizes of a poll, of 4 to 32 leaves: 1, 2, 3
abbrev pub poll_sizes_refusal : (n lent room : ℕ) → Option Refusal
poll_sizes_refusal n lent room = sizes_refusal Poll n (records_due n) lent (n * n) room

-- all that is judged of a poll: the sizes, then the records one by one
unfoldable pub poll_refusal : (n : ℕ) (R : List Record) (room : ℕ) → Option Refusal
poll_refusal n R room = judged (poll_sizes_refusal n (length R) room ∷ records_refusal n R ∷ [])

-- a poll added up: 1, 2, 3, then 10 and 11 record by record
unfoldable pub poll_answer : (n : ℕ) (R : List Record) (room : ℕ) → Answer (List ℕ)
poll_answer n R room = answered (poll_refusal n R room) (poll_table n R)
