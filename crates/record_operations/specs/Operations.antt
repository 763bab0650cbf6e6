-- The operations that make tree records: each is an operation's answer, marked with the origin of its tree.
use Rattle.std.specs.Prelude.{List, ℕ}
use Rattle.limits.specs.declared.Kind.{Kind}
use Rattle.refusals.specs.Refusals.{Answer, answered}
use Rattle.tree_records.specs.declared.Origin.{Origin}
use Rattle.tree_records.specs.declared.Origin.TheVariants.{Rebuilt, Listed, Imported}
use Rattle.tree_records.specs.Records.{TreeRecord, marked}
use Rattle.listings.specs.Operations.{listing_refusal}
use Rattle.standard_listings.specs.Operations.{standardise_answer}
use Rattle.rebuild_answers.specs.Operations.{rebuild_answer, guided_answer}
use Rattle.sheet_rules.specs.Sheets.{leaves_of}
use Rattle.sheet_trees.specs.Operations.{sheet_listing_answer}
use Rattle.newick_rules.specs.Operations.{import_answer}

-- both rebuilds mark rebuilt: our own, of a lent table and of a sheet's, and the guided one
unfoldable pub rebuild_record : Kind → (n : ℕ) (t : List ℕ) (room : ℕ) → Answer TreeRecord
rebuild_record kind n t room = marked n Rebuilt (rebuild_answer kind n t room)

unfoldable pub sheet_record : (S : List ℕ) (room : ℕ) → Answer TreeRecord
sheet_record S room = marked (leaves_of S) Rebuilt (sheet_listing_answer S room)

unfoldable pub guided_record : Kind → (n : ℕ) (t p : List ℕ) (room : ℕ) → Answer TreeRecord
guided_record kind n t p room = marked n Rebuilt (guided_answer kind n t p room)

-- a lent listing is listed: 1, 2, 7, 8
unfoldable pub lent_record : ℕ → List ℕ → Answer TreeRecord
lent_record n l = marked n Listed (answered (listing_refusal n l 0 0) l)

-- an import is imported
unfoldable pub import_record : (S t : List ℕ) (room : ℕ) → Answer TreeRecord
import_record S t room = marked (leaves_of S) Imported (import_answer S t room)

-- restandardising a record's tree keeps its origin
unfoldable pub restandardise_record : (n : ℕ) (l : List ℕ) (o : Origin) (room : ℕ) → Answer TreeRecord
restandardise_record n l o room = marked n o (standardise_answer n l room)
