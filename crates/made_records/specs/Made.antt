-- Which tree records can come out of a chain of our operations (02, request 3), one case an operation; and what rebuilt
-- and guessed stand for. What may be relied on of them is shown in proofs/Made.antt.
use Rattle.std.specs.Prelude.{◌≡◌, List, ℕ}
use Rattle.std.proofs.Math.Option.{Option, none, some}
use Rattle.limits.specs.declared.Kind.{Kind}
use Rattle.limits.specs.declared.Kind.TheVariants.{Counts}
use Rattle.limits.specs.Limits.{scale_of}
use Rattle.refusals.specs.Refusals.{accepted}
use Rattle.tree_records.specs.Records.{TreeRecord}
use Rattle.trees.specs.Trees.{Tree}
use Rattle.trees.specs.Listings.{tree_of}
use Rattle.trees.specs.Tables.{HasTable}
use Rattle.merging.specs.Meaning.{HasNoTree}
use Rattle.change_answers.specs.declared.Change.TheVariants.{Graft, Prune}
use Rattle.change_answers.specs.Operations.{change_record}
use Rattle.packed_tables.specs.Packed.{table_with}
use Rattle.sheet_rules.specs.Sheets.{leaves_of, cells_of}
use Rattle.guess_answers.specs.Operations.{guess_record, sheet_guess_record}
use Rattle.record_operations.specs.Operations.{rebuild_record, sheet_record, guided_record, lent_record}
use Rattle.record_operations.specs.Operations.{import_record, restandardise_record}

-- the table that the rebuild at the start of a chain was given, with its kind; none where no rebuild stands there, or
-- where the tree was changed since
abbrev pub Given : Type 0
Given = Option (Kind × List ℕ)

-- the table of a sheet
abbrev pub sheet_table : List ℕ → List ℕ
sheet_table S = table_with (leaves_of S) (cells_of S)

-- the record R can come out of a chain of our operations, with this table given
pub data Made : TreeRecord → Given → Type 0 where
  -- our own rebuild of a lent table, and of a sheet's, which is one of counts
  rebuild :
      (kind : Kind) (n : ℕ) (t : List ℕ) (room : ℕ) {R : TreeRecord} → rebuild_record kind n t room ≡ accepted R
      → Made R (some (kind, t))
  rebuild_sheet :
      (S : List ℕ) (room : ℕ) {R : TreeRecord} → sheet_record S room ≡ accepted R
      → Made R (some (Counts, sheet_table S))
  -- the guided rebuild
  rebuild_guided :
      (kind : Kind) (n : ℕ) (t p : List ℕ) (room : ℕ) {R : TreeRecord} → guided_record kind n t p room ≡ accepted R
      → Made R (some (kind, t))
  -- the guess of a lent table, and of a sheet's: the tree that has it, or a guessed one
  guess :
      (kind : Kind) (n : ℕ) (t : List ℕ) (room : ℕ) {R : TreeRecord} → guess_record kind n t room ≡ accepted R
      → Made R (some (kind, t))
  guess_sheet :
      (S : List ℕ) (room : ℕ) {R : TreeRecord} → sheet_guess_record S room ≡ accepted R
      → Made R (some (Counts, sheet_table S))
  -- a lent listing
  lend : (n : ℕ) (l : List ℕ) {R : TreeRecord} → lent_record n l ≡ accepted R → Made R none
  -- an import
  import : (S t : List ℕ) (room : ℕ) {R : TreeRecord} → import_record S t room ≡ accepted R → Made R none
  -- a graft and a prune of a lent listing, beside which its own table is kept: no table that was given before is told
  graft :
      (n : ℕ) (l t : List ℕ) (edge room space : ℕ) {R : TreeRecord}
      → change_record n l t (Graft edge) room space ≡ accepted R → Made R none
  prune :
      (n : ℕ) (l t : List ℕ) (x room space : ℕ) {R : TreeRecord}
      → change_record n l t (Prune x) room space ≡ accepted R → Made R none
  -- restandardising a record that was made so
  restandardise :
      {R R' : TreeRecord} {g : Given} (room : ℕ) → Made R g
      → restandardise_record R.leaves R.listing R.origin room ≡ accepted R' → Made R' g

-- the tree of a record
abbrev pub tree : TreeRecord → Tree
tree R = tree_of R.leaves R.listing

-- the table given is that of the record's tree, for a poll's six times that
pub data HasTableGiven (R : TreeRecord) : Given → Type 0 where
  has_table :
      {kind : Kind} {t : List ℕ} → HasTable R.leaves (scale_of kind) t (tree R) → HasTableGiven R (some (kind, t))

-- a table was given, and no tree of the record's leaves has it
pub data NoTreeHasGiven (R : TreeRecord) : Given → Type 0 where
  no_tree : {kind : Kind} {t : List ℕ} → HasNoTree R.leaves (scale_of kind) t → NoTreeHasGiven R (some (kind, t))
