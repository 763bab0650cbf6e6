-- What a maker may rely on in the guess, of a lent table of either kind and of a sheet's: it is never refused with 6,
-- and else as our own rebuild is from C; a table that has a tree gets the tree that it always got, rebuilt, with the
-- total gap 0; any other gets a tree that is guessed, with a total gap that is not 0. The contracts say that the code
-- gives these answers.
use mathlib.Core.Path.{◌≡◌, refl}
use mathlib.Core.Logic.{◌↔◌, ◌≢◌}
use mathlib.Core.List.{List}
use Prim.Native.Nat.{ℕ, ◌-◌, ◌*◌, ◌^◌, ◌≤◌, ◌<◌}
use native.Mathlib.Omega.{arith}
use Rattle.limits.specs.declared.Kind.{Kind}
use Rattle.limits.specs.Limits.{IsCountOf, scale_of}
use Rattle.limits.proofs.TableKinds.{scale_bounds}
use Rattle.refusals.specs.declared.Refusal.{Refusal}
use Rattle.refusals.specs.declared.Refusal.TheVariants.{NoTree}
use Rattle.refusals.specs.Refusals.{Answer, accepted, refused, written}
use Rattle.trees.specs.Trees.{Tree, IsTree}
use Rattle.trees.specs.Listings.{standard}
use Rattle.trees.specs.Tables.{cell, table_of, times, HasTable}
use Rattle.merging.specs.Guesses.{Reply, exact, guessed}
use Rattle.table_checks.specs.Operations.{table_refusal}
use Rattle.table_checks.proofs.TableRefusal.{accepted_table}
use Rattle.table_checks.proofs.Causes.{table_arises}
use Rattle.packed_tables.specs.Packed.{table_with}
use Rattle.packed_tables.proofs.PackedIsTable.{sheet_is_table}
use Rattle.rebuild_answers.specs.Operations.{rebuild_answer}
use Rattle.rebuild_answers.proofs.RoundTrip.{had_rebuilt}
use Rattle.sheet_rules.specs.Sheets.{leaves_of, offset_of, cells_of}
use Rattle.sheet_rules.specs.Operations.{sheet_refusal}
use Rattle.sheet_rules.proofs.SheetRefusal.{accepted_sheet}
use Rattle.sheet_trees.specs.Operations.{sheet_tree, sheet_listing_answer}
use Rattle.sheet_trees.proofs.Promises.{other_than_six, sheet_not_six}
use Rattle.guess_answers.specs.Operations.{guess_answer, listing_of, sheet_reply, sheet_guessed}
use Rattle.guess_answers.specs.Operations.{sheet_guess_answer}
use Rattle.guess_answers.specs.Meanings.{GuessMeans, SheetGuessMeans, GivesReply}
use Rattle.guess_answers.proofs.Replies as both
use Rattle.guess_answers.proofs.Replies.{IsReply}

-- what a contract says of an answer that means M: what is returned; and the buffer; and the meaning
pub reply_gives :
    {R : Type 0} {r : R} {out out' : List ℕ} (told : Answer Reply → R) (M : Answer Reply → Type 0) (a : Answer Reply)
    → M a → (r ≡ told a) × (out' ≡ written (listing_of a) out)
    → (r ≡ told a) × ((out' ≡ written (listing_of a) out) × GivesReply told M r out out')
reply_gives told M a m p = (p.0, (p.1, record { answer = a; means = m; returned = p.0; buffer = p.1 }))

-- A lent table.
module _ (kind : Kind) (n : ℕ) (t : List ℕ) (room : ℕ) where
  abbrev s : ℕ
  s = scale_of kind

  before : both.Before (table_refusal kind n t (2 * (n - 2)) room) n (scale_of kind) t
  before = record {
    other =
        table_arises (λ r. r ≢ NoTree) n t
        (record {
          diagonal = λ c i l. other_than_six _ (omega arith);
          halves = λ c i j l m. other_than_six _ (omega arith);
        })
        (other_than_six _ (omega arith)) (other_than_six _ (omega arith)) (other_than_six _ (omega arith)) kind _ room;
    positive = (scale_bounds kind).0;
    given = λ h. (let a = accepted_table kind n t (2 * (n - 2)) room h in (a.count, a.is_table));
  }

  -- what the answer means
  pub guess_meaning : GuessMeans kind n t room (guess_answer kind n t room)
  unfolding guess_answer
  guess_meaning = both.guess_means before

  -- It is refused exactly where our own rebuild from C is with another cause than 6, and with the same; never with 6.
  pub guess_same_refusal :
      (r : Refusal)
      → (guess_answer kind n t room ≡ refused r) ↔ ((rebuild_answer kind n t room ≡ refused r) × (r ≢ NoTree))
  unfolding guess_answer rebuild_answer
  guess_same_refusal = both.same_refusal before

  pub guess_never_six : guess_answer kind n t room ≢ refused NoTree
  guess_never_six e = ((guess_same_refusal NoTree).0 e).1 refl

  -- Exactly where that gives a listing, the reply is the same, rebuilt, with the total gap 0;
  pub guess_same_tree :
      (l : List ℕ) → (guess_answer kind n t room ≡ accepted (exact l)) ↔ (rebuild_answer kind n t room ≡ accepted l)
  unfolding guess_answer rebuild_answer
  guess_same_tree = both.same_tree before

  -- where that says 6, it is the guess.
  pub guess_for_six :
      rebuild_answer kind n t room ≡ refused NoTree
      → guess_answer kind n t room ≡ accepted (guessed n s t)
  unfolding guess_answer rebuild_answer
  guess_for_six = both.guessed_for_six before

  -- Every reply is a tree by its standard listing, with its total gap; it is guessed exactly where no tree has the
  -- table, and rebuilt exactly where the total gap is 0, and then it has the table.
  pub guess_is_reply : (R : Reply) → guess_answer kind n t room ≡ accepted R → IsReply n s t R
  unfolding guess_answer
  guess_is_reply = both.accepted_is before

  -- The total gap fits 48 bits where the cells fit 32.
  pub guess_total_fits :
      (R : Reply) → guess_answer kind n t room ≡ accepted R → ((i j : ℕ) → i < n → j < n → cell n t i j < 2 ^ 32)
      → R.total < 2 ^ 48
  unfolding guess_answer
  guess_total_fits R e =
      both.total_fits before R e (omega (arith, (scale_bounds kind).1))

-- Every tree comes back from a table that it has, and so from its own, at either kind, and is rebuilt.
pub guess_had :
    (kind : Kind) (n : ℕ) → IsCountOf kind n → (T : Tree) → IsTree n T → (t : List ℕ) → HasTable n (scale_of kind) t T
    → (room : ℕ) → 2 * (n - 2) ≤ room → guess_answer kind n t room ≡ accepted (exact (standard n T))
guess_had kind n c T tree t has room enough =
    (guess_same_tree kind n t room (standard n T)).1 (had_rebuilt kind n c T tree t has room enough)

pub guess_own :
    (kind : Kind) (n : ℕ) → IsCountOf kind n → (T : Tree) → IsTree n T → (room : ℕ) → 2 * (n - 2) ≤ room
    → guess_answer kind n (times (scale_of kind) (table_of n T)) room ≡ accepted (exact (standard n T))
guess_own kind n c T tree = guess_had kind n c T tree (times (scale_of kind) (table_of n T)) refl

-- A sheet, whose table is one of counts.
module _ (S : List ℕ) (room : ℕ) where
  abbrev n : ℕ
  n = leaves_of S

  abbrev table : List ℕ
  table = table_with n (cells_of S)

  sheet_before : both.Before (sheet_refusal S (2 * (n - 2)) room) n 1 table
  unfolding sheet_refusal
  sheet_before = record {
    other = sheet_not_six S _ room;
    positive = omega arith;
    given = λ h. ((accepted_sheet S n (offset_of S) _ room h).count, sheet_is_table n (cells_of S));
  }

  pub sheet_guess_meaning : SheetGuessMeans S room (sheet_guess_answer S room)
  unfolding sheet_guess_answer sheet_reply
  sheet_guess_meaning = both.guess_means sheet_before

  pub sheet_guess_same_refusal :
      (r : Refusal)
      → (sheet_guess_answer S room ≡ refused r) ↔ ((sheet_listing_answer S room ≡ refused r) × (r ≢ NoTree))
  unfolding sheet_guess_answer sheet_reply sheet_listing_answer sheet_tree
  sheet_guess_same_refusal = both.same_refusal sheet_before

  pub sheet_guess_never_six : sheet_guess_answer S room ≢ refused NoTree
  sheet_guess_never_six e = ((sheet_guess_same_refusal NoTree).0 e).1 refl

  pub sheet_guess_same_tree :
      (l : List ℕ) → (sheet_guess_answer S room ≡ accepted (exact l)) ↔ (sheet_listing_answer S room ≡ accepted l)
  unfolding sheet_guess_answer sheet_reply sheet_listing_answer sheet_tree
  sheet_guess_same_tree = both.same_tree sheet_before

  pub sheet_guess_for_six :
      sheet_listing_answer S room ≡ refused NoTree → sheet_guess_answer S room ≡ accepted (sheet_guessed S)
  unfolding sheet_guess_answer sheet_reply sheet_listing_answer sheet_tree sheet_guessed
  sheet_guess_for_six = both.guessed_for_six sheet_before

  pub sheet_guess_is_reply : (R : Reply) → sheet_guess_answer S room ≡ accepted R → IsReply n 1 table R
  unfolding sheet_guess_answer sheet_reply
  sheet_guess_is_reply = both.accepted_is sheet_before
