-- `record_operations::import` meets its contract: import decides and writes, and what it accepts is marked
-- imported.
use Rattle.refusals.proofs.Meanings.{with_meaning}
use Rattle.tree_records.specs.declared.Origin.TheVariants.{Imported}
use Rattle.tree_records.specs.Records.{marked, tree_outcome}
use Rattle.tree_records.proofs.Records.{mark_told}
use Rattle.newick_rules.specs.Operations.{import_answer}
use Rattle.newick_rules.specs.Meanings.{ImportMeans}
use Rattle.newick_rules.proofs.Sheets.{import_answer_says}
use Rattle.record_operations.specs.Operations.{import_record}
use Rattle.record_operations.proofs.import.Goals as goal

pub returns : goal.returns
unfolding import_record
returns c =
    let done = c.import.ensures in
    let t =
    with_meaning (λ a. tree_outcome (marked _ Imported a)) (ImportMeans _ _ _) (import_answer _ _ _)
    (import_answer_says _ _ _)
    (mark_told _ _ _ c.mark.ensures done.answer, done.buffer) in
    record { answer = t.0; buffer = t.1.0; meaning = t.1.1 }
