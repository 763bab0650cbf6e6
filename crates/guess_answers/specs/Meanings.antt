-- What the answers of the guess mean, with no merging in it: the refusals that go before; then the only tree that has
-- the table, or, where none has it, a tree and its total gap. s is the table's scale, 1 for a count table and 6 for a
-- poll's.
use Rattle.std.specs.Prelude.{◌≡◌, List, ℕ, ◌-◌, ◌*◌, ◌<◌}
use Rattle.limits.specs.declared.Kind.{Kind}
use Rattle.limits.specs.Limits.{scale_of}
use Rattle.refusals.specs.Refusals.{Answer, accepted, written}
use Rattle.refusals.specs.Meanings.{MeansUnless}
use Rattle.tree_records.specs.declared.Origin.TheVariants.{Guessed}
use Rattle.trees.specs.Listings.{KeepsRules, tree_of, standard}
use Rattle.trees.specs.Gaps.{total_gap}
use Rattle.merging.specs.Guesses.{Reply, exact}
use Rattle.merging.specs.Meaning.{OnlyTree, HasNoTree}
use Rattle.table_checks.specs.Operations.{table_refusal}
use Rattle.packed_tables.specs.Packed.{table_with}
use Rattle.sheet_rules.specs.Sheets.{leaves_of, cells_of}
use Rattle.sheet_rules.specs.Operations.{sheet_refusal}
use Rattle.guess_answers.specs.Operations.{listing_of}

-- l is the standard listing of a tree, and `total` the tree's total gap to the table t, which it does not have
pub record IsGuess (n s : ℕ) (t l : List ℕ) (total : ℕ) : Type 0 where
  pub keeps_rules : KeepsRules n l
  pub is_standard : standard n (tree_of n l) ≡ l
  pub total_of_it : total ≡ total_gap n s t (tree_of n l)
  pub not_0 : 0 < total

-- the reply to a table with a zero diagonal and equal halves: its only tree, rebuilt, with the total gap 0; or it has
-- none, and the tree is a guess, with its total gap
pub data ReplyMeans (n s : ℕ) (t : List ℕ) : Answer Reply → Type 0 where
  the_only_tree : {l : List ℕ} → OnlyTree n s t l → ReplyMeans n s t (accepted (exact l))
  a_guess :
      {l : List ℕ} {total : ℕ} → HasNoTree n s t → IsGuess n s t l total
      → ReplyMeans n s t (accepted (record { listing = l; origin = Guessed; total = total }))

-- of a lent table: 1, 2, 3, 4, 5, then that
abbrev pub GuessMeans : Kind → (n : ℕ) (t : List ℕ) (room : ℕ) → Answer Reply → Type 0
GuessMeans kind n t room = MeansUnless (table_refusal kind n t (2 * (n - 2)) room) (ReplyMeans n (scale_of kind) t)

-- of a sheet's: 13, 1, 14, 3, 15, 16, then that
abbrev pub SheetGuessMeans : (S : List ℕ) (room : ℕ) → Answer Reply → Type 0
SheetGuessMeans S room =
    MeansUnless (sheet_refusal S (2 * (leaves_of S - 2)) room)
    (ReplyMeans (leaves_of S) 1 (table_with (leaves_of S) (cells_of S)))

-- a call gives an answer that means M: what it returns, r, tells the answer, and the lent buffer is what it leaves
pub record GivesReply {R : Type 0} (told : Answer Reply → R) (M : Answer Reply → Type 0) (r : R)
    (before after : List ℕ) : Type 0 where
  pub answer : Answer Reply
  pub means : M answer
  pub returned : r ≡ told answer
  pub buffer : after ≡ written (listing_of answer) before
