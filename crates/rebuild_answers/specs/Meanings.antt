-- What the answers of the two rebuilds mean: the refusals that go before, then what is so of the table and its trees. A
-- tree has a poll's table when that is six times its own.
use Rattle.std.specs.Prelude.{List, ℕ, ◌-◌, ◌*◌}
use Rattle.limits.specs.declared.Kind.{Kind}
use Rattle.limits.specs.Limits.{scale_of}
use Rattle.refusals.specs.Refusals.{Answer}
use Rattle.refusals.specs.Meanings.{MeansUnless}
use Rattle.table_checks.specs.Operations.{table_refusal}
use Rattle.merging.specs.Meaning.{TableMeans, ProposalsMean}
use Rattle.rebuild_answers.specs.Operations.{proposals, guided_refusal}

-- our own rebuild: 1, 2, 3, 4, 5; then the standard listing of the only tree that has the table, or 6 where none has it
abbrev pub RebuildMeans : Kind → (n : ℕ) (t : List ℕ) (room : ℕ) → Answer (List ℕ) → Type 0
RebuildMeans kind n t room = MeansUnless (table_refusal kind n t (2 * (n - 2)) room) (TableMeans n (scale_of kind) t)

-- the guided rebuild: the same refusals; then, where each proposal names a pair eligible at its turn, the standard
-- listing of the only tree that has the table, or 12 with the first that does not
abbrev pub GuidedMeans : Kind → (n : ℕ) (t p : List ℕ) (room : ℕ) → Answer (List ℕ) → Type 0
GuidedMeans kind n t p room =
    MeansUnless (guided_refusal kind n t p room) (ProposalsMean n (scale_of kind) t (proposals p))
