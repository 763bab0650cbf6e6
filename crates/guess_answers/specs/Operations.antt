-- The guess (02, request 4): its answers, of a lent table and of a sheet's, the refusals in the order in which they are
-- judged. They are those of our own rebuild from C but for 6, in whose place stands the guess.
use Rattle.std.specs.Prelude.{List, ℕ, ◌-◌, ◌*◌}
use Rattle.limits.specs.declared.Kind.{Kind}
use Rattle.limits.specs.Limits.{scale_of}
use Rattle.refusals.specs.Refusals.{Answer, accepted, refused, answered}
use Rattle.tree_records.specs.Records.{TreeRecord}
use Rattle.merging.specs.Guesses.{Reply, guessed, replied}
use Rattle.table_checks.specs.Operations.{table_refusal}
use Rattle.packed_tables.specs.Packed.{table_with}
use Rattle.sheet_rules.specs.Sheets.{leaves_of, cells_of}
use Rattle.sheet_rules.specs.Operations.{sheet_refusal}

-- a table of this kind, and room for a listing: 1, 2, 3, 4, 5, then a tree
unfoldable pub guess_answer : Kind → (n : ℕ) (t : List ℕ) (room : ℕ) → Answer Reply
guess_answer kind n t room = answered (table_refusal kind n t (2 * (n - 2)) room) (replied n (scale_of kind) t)

-- the table of the sheet S, which is one of counts: what our own rebuild replies to it, and the guess of it
unfoldable pub sheet_reply : List ℕ → Reply
sheet_reply S = replied (leaves_of S) 1 (table_with (leaves_of S) (cells_of S))

unfoldable pub sheet_guessed : List ℕ → Reply
sheet_guessed S = guessed (leaves_of S) 1 (table_with (leaves_of S) (cells_of S))

-- a sheet, and room for a listing: 13, 1, 14, 3, 15, 16, then a tree
unfoldable pub sheet_guess_answer : (S : List ℕ) (room : ℕ) → Answer Reply
sheet_guess_answer S room = answered (sheet_refusal S (2 * (leaves_of S - 2)) room) (sheet_reply S)

-- the listing of an answer, which is what is written
unfoldable pub listing_of : Answer Reply → Answer (List ℕ)
listing_of (accepted r) = accepted r.listing
listing_of (refused x) = refused x

-- its tree as a record of n leaves, marked with the reply's origin
unfoldable pub record_of : ℕ → Answer Reply → Answer TreeRecord
record_of n (accepted r) = accepted (record { leaves = n; listing = r.listing; origin = r.origin })
record_of n (refused x) = refused x

unfoldable pub guess_listing : Kind → (n : ℕ) (t : List ℕ) (room : ℕ) → Answer (List ℕ)
guess_listing kind n t room = listing_of (guess_answer kind n t room)

unfoldable pub sheet_guess_listing : (S : List ℕ) (room : ℕ) → Answer (List ℕ)
sheet_guess_listing S room = listing_of (sheet_guess_answer S room)

unfoldable pub guess_record : Kind → (n : ℕ) (t : List ℕ) (room : ℕ) → Answer TreeRecord
guess_record kind n t room = record_of n (guess_answer kind n t room)

unfoldable pub sheet_guess_record : (S : List ℕ) (room : ℕ) → Answer TreeRecord
sheet_guess_record S room = record_of (leaves_of S) (sheet_guess_answer S room)
