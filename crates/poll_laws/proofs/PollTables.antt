-- The table of an accepted poll has a zero diagonal and equal halves: it passes 4 and 5. The idea: a record whose
-- leaves rise adds nothing on the diagonal.
use mathlib.Core.Path.{◌≡◌, refl}
use mathlib.Core.List.{List}
use mathlib.Core.Option.{none}
use Prim.Native.Nat.{ℕ}
use native.Mathlib.Omega.{arith}
use Rattle.trees.specs.Tables.{IsTable, cells_refusal}
use Rattle.trees.proofs.Tables.{rule_is_table, passes_exactly}
use Rattle.refusals.specs.Refusals.{accepted}
use Rattle.poll_rules.specs.declared.Record.{Record}
use Rattle.poll_rules.specs.Counts.{poll_cell, poll_table}
use Rattle.poll_rules.specs.Operations.{poll_answer}
use Rattle.poll_rules.proofs.Counts.{adds_nothing, poll_mirror}
use Rattle.poll_laws.proofs.PairCells.{pairing_diagonal}
use Rattle.poll_laws.proofs.AcceptedPolls.{EachRight, no_record, one_more, AcceptedPoll, accepted_poll}

diagonal_cell : {n : ℕ} {R : List Record} (i : ℕ) → EachRight n R → poll_cell R i i ≡ 0
unfolding poll_cell
diagonal_cell i no_record = refl
diagonal_cell i (one_more {r} l c e) =
    let here = adds_nothing r i i (λ p. pairing_diagonal p r i l.ab l.bc l.cd) in
    omega (arith, diagonal_cell i e)

pub table_of_accepted : {n : ℕ} {R : List Record} {t : List ℕ} → AcceptedPoll n R t → IsTable n t
unfolding poll_table
table_of_accepted {n} {R} a =
    rw (← a.table) (rule_is_table n (poll_cell R) (λ i l. diagonal_cell i a.each) (λ i j l m. poll_mirror R i j))

-- The law: the table of an accepted poll is one with a zero diagonal and equal halves.
pub poll_is_table :
    (n : ℕ) (R : List Record) (room : ℕ) (t : List ℕ) → poll_answer n R room ≡ accepted t → IsTable n t
poll_is_table n R room t h = table_of_accepted (accepted_poll n R room t h)

-- The law: no operation that takes such a table refuses it with 4 or 5.
pub poll_passes :
    (n : ℕ) (R : List Record) (room : ℕ) (t : List ℕ) → poll_answer n R room ≡ accepted t → cells_refusal n t ≡ none
poll_passes n R room t h = ((passes_exactly n t).1 (poll_is_table n R room t h)).1
