-- `name_index::NameIndex::find` meets its contract. The loop's invariant: the search goes on with this leaf of the
-- chain.
use Rattle.name_index.proofs.Indexes.{Searching}
use Rattle.name_index.proofs.NameIndex.find.Given as goal

abbrev pub invariant-loop-chain : goal.invariant-loop-chain
invariant-loop-chain l = Searching l.self-inside.sheet.now l.self-inside.many l.word l.chain

abbrev pub decreases-loop-chain : goal.decreases-loop-chain
decreases-loop-chain l = l.chain
