-- The cases P1 to P12 (01, "Tables and listings to try"), rows of one list: the case, the call with what is lent to it,
-- and the result due. "P2, P5 and P6 hold for the C call only" (02, 4), so each of these has a row for what our own
-- rebuild replies elsewhere; more guesses follow. Then some cases again with a poll's table, and polls of four leaves
-- (02, 2).
use Rattle.std.specs.Prelude.{cond, ◌&&◌, ◌||◌, List, [], ◌∷◌, ℕ, ◌*◌, ◌/◌, ◌%◌, eqb}
use Rattle.base.specs.Lists.{tab}
use Rattle.limits.specs.declared.Kind.{Kind}
use Rattle.limits.specs.declared.Kind.TheVariants.{Counts, Poll}
use Rattle.limits.specs.Limits.{scale_of}
use Rattle.refusals.specs.declared.Refusal.{Refusal}
use Rattle.refusals.specs.declared.Refusal.TheVariants.{LeafCount, NoTree, Child, NamedBefore, PairingCode, Proposal}
use Rattle.refusals.specs.Refusals.{Answer, accepted, refused}
use Rattle.tree_records.specs.declared.Origin.TheVariants.{Guessed}
use Rattle.trees.specs.Tables.{times}
use Rattle.standard_listings.specs.Operations.{standardise_answer}
use Rattle.merging.specs.MergeLists.{Pair}
use Rattle.merging.specs.Guesses.{Reply, exact, replied}
use Rattle.rebuild_answers.specs.Operations.{rebuild_answer, guided_answer}
use Rattle.poll_rules.specs.Operations.{poll_answer}

-- cells (i, j, v): cell (i, j) is v
abbrev pub Cells : Type 0
Cells = List (ℕ × ℕ × ℕ)

-- the diagonal is 0, a cell named stands for its mirror too, and cells not named are r
unfoldable pub named : ℕ → Cells → ℕ → ℕ → ℕ
named r [] i j = cond (eqb i j) 0 r
named r (x ∷ l) i j =
    let here = (eqb i x.0 && eqb j x.1) || (eqb j x.0 && eqb i x.1) in
    cond here x.2 (named r l i j)

-- the table of n leaves with these cells, the rest r
unfoldable pub table : ℕ → ℕ → Cells → List ℕ
table n r l = tab (n * n) (λ k. named r l (k / n) (k % n))

-- a call: the kind of table, the leaf count, what is lent, and the room for the result; our own rebuild is told apart
-- from its call from C, and is here of a table that passes the checks
pub data Call : Type 0 where
  rebuild_from_c : (kind : Kind) (n : ℕ) (t : List ℕ) (room : ℕ) → Call
  rebuild : (kind : Kind) (n : ℕ) (t : List ℕ) → Call
  rebuild_guided : (kind : Kind) (n : ℕ) (t p : List ℕ) (room : ℕ) → Call
  standardise : (n : ℕ) (l : List ℕ) (room : ℕ) → Call

-- what a call gives: an answer, or a reply of our own rebuild
pub data Result : Type 0 where
  answers : Answer (List ℕ) → Result
  replies : Reply → Result

unfoldable pub result_of : Call → Result
result_of (rebuild_from_c kind n t room) = answers (rebuild_answer kind n t room)
result_of (rebuild kind n t) = replies (replied n (scale_of kind) t)
result_of (rebuild_guided kind n t p room) = answers (guided_answer kind n t p room)
result_of (standardise n l room) = answers (standardise_answer n l room)

-- the results due: a listing, a refusal, a tree that has the table, a guess with its total gap
abbrev pub listing : List ℕ → Result
listing l = answers (accepted l)

abbrev pub refusal : Refusal → Result
refusal r = answers (refused r)

abbrev pub tree : List ℕ → Result
tree l = replies (exact l)

abbrev pub guess : List ℕ → ℕ → Result
guess l total = replies (record { listing = l; origin = Guessed; total = total })

-- a row of case Pk, and one of no number
pub data Case : Type 0 where
  row : ℕ → Call → Result → Case
  also : Call → Result → Case

abbrev pub called : Case → Call
called (row k c r) = c
called (also c r) = c

abbrev pub due : Case → Result
due (row k c r) = r
due (also c r) = r

-- the sheet's cells
unfoldable pub P7 : List ℕ
P7 = table 5 0 ((0, 1, 3) ∷ (0, 2, 1) ∷ (1, 2, 1) ∷ (2, 3, 1) ∷ (2, 4, 1) ∷ (3, 4, 3) ∷ [])

unfoldable pub P8 : List ℕ
P8 = table 6 1 ((0, 1, 6) ∷ (2, 3, 6) ∷ (4, 5, 6) ∷ [])

-- P12's proposals: 3 4, 0 1, 2 3, 0 2; and 0 2, whatever three proposals p, q, r follow
unfoldable pub P12 : List ℕ
P12 = 3 ∷ 4 ∷ 0 ∷ 1 ∷ 2 ∷ 3 ∷ 0 ∷ 2 ∷ []

unfoldable pub P12_from_0_2 : (p q r : Pair) → List ℕ
P12_from_0_2 p q r = 0 ∷ 2 ∷ p.0 ∷ p.1 ∷ q.0 ∷ q.1 ∷ r.0 ∷ r.1 ∷ []

-- three strains with any cells; a tie of two means; all cells 0; and four tables of five strains whose guess another
-- rule would miss: one that compares sums and not means, one that divides in whole numbers, one that looks at one cell
-- of two subtrees, and one that breaks ties by the other least leaf first
unfoldable pub guesses : List Case
guesses =
    also (rebuild Counts 3 (table 3 0 ((0, 1, 1) ∷ (0, 2, 2) ∷ (1, 2, 3) ∷ []))) (guess (1 ∷ 2 ∷ []) 6)
    ∷ also (rebuild Counts 4 (table 4 0 ((0, 2, 1) ∷ (1, 2, 1) ∷ []))) (guess (1 ∷ 3 ∷ 4 ∷ 2 ∷ []) 2)
    ∷ also (rebuild Counts 5 (table 5 0 [])) (guess (3 ∷ 4 ∷ 2 ∷ 5 ∷ 1 ∷ 6 ∷ []) 10)
    ∷ also (rebuild Counts 5 (table 5 0 ((0, 1, 1) ∷ (2, 4, 3) ∷ []))) (guess (1 ∷ 3 ∷ 2 ∷ 4 ∷ 5 ∷ 6 ∷ []) 6)
    ∷ also (rebuild Counts 5 (table 5 0 ((0, 4, 3) ∷ (1, 4, 3) ∷ []))) (guess (1 ∷ 3 ∷ 5 ∷ 2 ∷ 6 ∷ 4 ∷ []) 10)
    ∷ also (rebuild Counts 5 (table 5 0 ((1, 4, 1) ∷ (2, 4, 1) ∷ []))) (guess (1 ∷ 4 ∷ 5 ∷ 2 ∷ 6 ∷ 3 ∷ []) 8)
    ∷ also (rebuild Counts 5 (table 5 0 ((0, 3, 1) ∷ (1, 2, 1) ∷ []))) (guess (2 ∷ 4 ∷ 1 ∷ 5 ∷ 6 ∷ 3 ∷ []) 8)
    ∷ []

unfoldable pub cases : (p q r : Pair) → List Case
cases p q r =
    row 1 (rebuild_from_c Counts 3 (table 3 0 []) 2) (listing (1 ∷ 2 ∷ []))
    ∷ row 2 (rebuild_from_c Counts 3 (table 3 0 ((0, 1, 1) ∷ [])) 2) (refusal NoTree)
    ∷ row 2 (rebuild Counts 3 (table 3 0 ((0, 1, 1) ∷ []))) (guess (1 ∷ 2 ∷ []) 1)
    ∷ row 3 (rebuild_from_c Counts 4 (table 4 0 ((0, 1, 1) ∷ (2, 3, 1) ∷ [])) 4) (listing (2 ∷ 3 ∷ 1 ∷ 4 ∷ []))
    ∷ row 4 (rebuild_from_c Counts 4 (table 4 0 ((0, 2, 1) ∷ (1, 3, 1) ∷ [])) 4) (listing (1 ∷ 3 ∷ 4 ∷ 2 ∷ []))
    ∷ row 5 (rebuild_from_c Counts 4 (table 4 0 []) 4) (refusal NoTree)
    ∷ row 5 (rebuild Counts 4 (table 4 0 [])) (guess (2 ∷ 3 ∷ 1 ∷ 4 ∷ []) 2)
    ∷ row 6 (rebuild_from_c Counts 4 (table 4 0 ((0, 1, 1) ∷ [])) 4) (refusal NoTree)
    ∷ row 6 (rebuild Counts 4 (table 4 0 ((0, 1, 1) ∷ []))) (guess (2 ∷ 3 ∷ 1 ∷ 4 ∷ []) 1)
    ∷ row 7 (rebuild_from_c Counts 5 P7 6) (listing (3 ∷ 4 ∷ 2 ∷ 5 ∷ 1 ∷ 6 ∷ []))
    ∷ row 7 (rebuild Counts 5 P7) (tree (3 ∷ 4 ∷ 2 ∷ 5 ∷ 1 ∷ 6 ∷ []))
    ∷ row 8 (rebuild_from_c Counts 6 P8 8) (listing (2 ∷ 3 ∷ 4 ∷ 5 ∷ 6 ∷ 7 ∷ 1 ∷ 8 ∷ []))
    ∷ row 9 (standardise 4 (2 ∷ 3 ∷ 4 ∷ 1 ∷ []) 4) (listing (2 ∷ 3 ∷ 1 ∷ 4 ∷ []))
    ∷ row 10 (standardise 4 (2 ∷ 2 ∷ 1 ∷ 4 ∷ []) 4) (refusal (NamedBefore 1))
    ∷ row 11 (standardise 4 (2 ∷ 4 ∷ 1 ∷ 3 ∷ []) 4) (refusal (Child 1))
    ∷ row 12 (rebuild_guided Counts 5 P7 P12 6) (listing (3 ∷ 4 ∷ 2 ∷ 5 ∷ 1 ∷ 6 ∷ []))
    ∷ row 12 (rebuild_guided Counts 5 P7 (P12_from_0_2 p q r) 6) (refusal (Proposal 0))
    ∷ guesses

-- P1, P7 and P12 with the table said to be a poll's: three leaves are too few, and a tree has six times its table
unfoldable pub poll_cases : List Case
poll_cases =
    row 1 (rebuild_from_c Poll 3 (table 3 0 []) 2) (refusal LeafCount)
    ∷ row 7 (rebuild_from_c Poll 5 (times 6 P7) 6) (listing (3 ∷ 4 ∷ 2 ∷ 5 ∷ 1 ∷ 6 ∷ []))
    ∷ row 7 (rebuild Poll 5 (times 6 P7)) (tree (3 ∷ 4 ∷ 2 ∷ 5 ∷ 1 ∷ 6 ∷ []))
    ∷ row 7 (rebuild_from_c Poll 5 P7 6) (refusal NoTree)
    ∷ row 7 (rebuild Poll 5 P7) (guess (3 ∷ 4 ∷ 2 ∷ 5 ∷ 1 ∷ 6 ∷ []) 50)
    ∷ row 7 (rebuild_from_c Counts 5 (times 6 P7) 6) (refusal NoTree)
    ∷ row 12 (rebuild_guided Poll 5 (times 6 P7) P12 6) (listing (3 ∷ 4 ∷ 2 ∷ 5 ∷ 1 ∷ 6 ∷ []))
    ∷ row 12 (rebuild_guided Poll 5 P7 P12 6) (refusal (Proposal 0))
    ∷ []

-- a poll of four leaves: one record, with this code
unfoldable pub poll_of_four : (code : ℕ) → Answer (List ℕ)
poll_of_four code = poll_answer 4 (record { a = 0; b = 1; c = 2; d = 3; code = code } ∷ []) 16

-- the tables due for the codes 0 to 7: 6 to each of two cells, 2 to all six, 3 for each of two pairings, and none
unfoldable pub tables_of_four : List (Answer (List ℕ))
tables_of_four =
    accepted (table 4 0 ((0, 1, 6) ∷ (2, 3, 6) ∷ []))
    ∷ accepted (table 4 0 ((0, 2, 6) ∷ (1, 3, 6) ∷ []))
    ∷ accepted (table 4 0 ((0, 3, 6) ∷ (1, 2, 6) ∷ []))
    ∷ accepted (table 4 2 [])
    ∷ accepted (table 4 3 ((0, 3, 0) ∷ (1, 2, 0) ∷ []))
    ∷ accepted (table 4 3 ((0, 2, 0) ∷ (1, 3, 0) ∷ []))
    ∷ accepted (table 4 3 ((0, 1, 0) ∷ (2, 3, 0) ∷ []))
    ∷ refused (PairingCode 0)
    ∷ []
