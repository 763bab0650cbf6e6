-- The causes of refusal (01, "Causes of refusal"; 02): the number of each, and the figures returned with it; and
-- answers. The causes themselves are the cases of the enum `Refusal` in src/lib.rt.
use Rattle.std.specs.Prelude.{Bool, cond, List, [], ◌∷◌, ◌++◌, ℕ, length, drop, Result, Ok, Err}
use Rattle.std.proofs.Math.Option.{Option, none, some}
use Rattle.refusals.specs.declared.Refusal.{Refusal}
use Rattle.refusals.specs.declared.Refusal.TheVariants.{LeafCount, InputLength, OutputRoom, Diagonal, Halves}
use Rattle.refusals.specs.declared.Refusal.TheVariants.{NoTree, Child, NamedBefore, Question, Record}
use Rattle.refusals.specs.declared.Refusal.TheVariants.{PairingCode, Proposal, SheetEnds, SheetLength}
use Rattle.refusals.specs.declared.Refusal.TheVariants.{Name, SameName, Grammar, NotBinary, Unmatched, NotOwn}

-- the number of a refusal
abbrev pub number_of : Refusal → ℕ
number_of LeafCount = 1
number_of InputLength = 2
number_of OutputRoom = 3
number_of (Diagonal i) = 4
number_of (Halves i j) = 5
number_of NoTree = 6
number_of (Child p) = 7
number_of (NamedBefore p) = 8
number_of (Question p) = 9
number_of (Record k) = 10
number_of (PairingCode k) = 11
number_of (Proposal k) = 12
number_of SheetEnds = 13
number_of SheetLength = 14
number_of (Name i) = 15
number_of (SameName i) = 16
number_of (Grammar k) = 17
number_of NotBinary = 18
number_of Unmatched = 19
number_of NotOwn = 20

-- the figures returned with it
abbrev pub figures_of : Refusal → List ℕ
figures_of LeafCount = []
figures_of InputLength = []
figures_of OutputRoom = []
figures_of (Diagonal i) = i ∷ []
figures_of (Halves i j) = i ∷ j ∷ []
figures_of NoTree = []
figures_of (Child p) = p ∷ []
figures_of (NamedBefore p) = p ∷ []
figures_of (Question p) = p ∷ []
figures_of (Record k) = k ∷ []
figures_of (PairingCode k) = k ∷ []
figures_of (Proposal k) = k ∷ []
figures_of SheetEnds = []
figures_of SheetLength = []
figures_of (Name i) = i ∷ []
figures_of (SameName i) = i ∷ []
figures_of (Grammar k) = k ∷ []
figures_of NotBinary = []
figures_of Unmatched = []
figures_of NotOwn = []

-- what an operation answers: its result, or a refusal
pub data Answer (A : Type 0) : Type 0 where
  accepted : A → Answer A
  refused : Refusal → Answer A

-- a test, and the refusal that arises where it is not passed
unfoldable pub refuse : Bool → Refusal → Option Refusal
refuse ok r = cond ok none (some r)

-- the first refusal that arises, of those judged one after the other
unfoldable pub judged : List (Option Refusal) → Option Refusal
judged [] = none
judged (none ∷ l) = judged l
judged (some r ∷ l) = some r

-- the answer: the refusal that arises, or the result
unfoldable pub answered : {A : Type 0} → Option Refusal → A → Answer A
answered none x = accepted x
answered (some r) x = refused r

-- the answer: the refusal that arises, or else this answer
unfoldable pub unless : {A : Type 0} → Option Refusal → Answer A → Answer A
unless none a = a
unless (some r) a = refused r

-- what code returns of an operation whose result, if it has one, stands in a lent buffer
abbrev pub Outcome : Type 0
Outcome = Result (Unit {0}) Refusal

-- the outcome where no refusal arises, or this one
unfoldable pub outcome_of : Option Refusal → Outcome
outcome_of none = Ok tt
outcome_of (some r) = Err r

-- the outcome of an answer
unfoldable pub outcome : {A : Type 0} → Answer A → Outcome
outcome (accepted x) = Ok tt
outcome (refused r) = Err r

-- what code returns of an operation that returns its result
unfoldable pub returned : {A : Type 0} → Answer A → Result A Refusal
returned (accepted x) = Ok x
returned (refused r) = Err r

-- a lent buffer afterwards: the result, and cells beyond it as they were; a refusal leaves all as it was
unfoldable pub written : {A : Type 0} → Answer (List A) → List A → List A
written (accepted l) out = l ++ drop (length l) out
written (refused r) out = out
