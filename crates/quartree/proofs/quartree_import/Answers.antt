-- `quartree::quartree_import` meets its contract: reply, buffer and meaning are those of the operation that it calls.
use Rattle.refusals.proofs.Meanings.{with_meaning}
use Rattle.tree_records.specs.declared.Origin.TheVariants.{Imported}
use Rattle.tree_records.specs.Records.{marked}
use Rattle.newick_rules.specs.Operations.{import_answer}
use Rattle.newick_rules.specs.Meanings.{ImportMeans}
use Rattle.newick_rules.proofs.Sheets.{import_answer_says}
use Rattle.record_operations.specs.Operations.{import_record}
use Rattle.record_replies.specs.Replies.{record_reply}
use Rattle.record_replies.proofs.Replies.{record_replied}
use Rattle.quartree.proofs.quartree_import.Goals as goal

pub returns : goal.returns
unfolding import_record
returns c =
    let done = c.import.ensures in
    let t =
    with_meaning (λ a. record_reply (marked _ Imported a)) (ImportMeans _ _ _) (import_answer _ _ _)
    (import_answer_says _ _ _)
    (record_replied _ c.reply.ensures done.answer, done.buffer) in
    record { answer = t.0; buffer = t.1.0; meaning = t.1.1 }
