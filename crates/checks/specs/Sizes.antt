-- The refusals of sizes (01, "Causes of refusal"), which go before all others: 1, 2, 3.
use Rattle.std.specs.Prelude.{Bool, ◌&&◌, List, [], ◌∷◌, ℕ, length, leb, eqb, Result, Ok, Err}
use Rattle.std.proofs.Math.Option.{Option, none, some}
use Rattle.limits.specs.declared.Kind.{Kind}
use Rattle.limits.specs.declared.Kind.TheVariants.{Counts, Poll}
use Rattle.limits.specs.Limits.{fewest_of, most_of}
use Rattle.refusals.specs.declared.Refusal.{Refusal}
use Rattle.refusals.specs.declared.Refusal.TheVariants.{LeafCount, InputLength, OutputRoom}
use Rattle.refusals.specs.Refusals.{refuse, judged}

-- from the one number to the other
abbrev pub within_range : (low n high : ℕ) → Bool
within_range low n high = leb low n && leb n high

-- a table of this kind may have n leaves: 3 to 128, or of a poll 4 to 32
abbrev pub right_count : Kind → ℕ → Bool
right_count kind n = within_range (fewest_of kind) n (most_of kind)

-- 1: the leaf count is outside
unfoldable pub count_refusal_of : Kind → ℕ → Option Refusal
count_refusal_of kind n = refuse (right_count kind n) LeafCount

abbrev pub count_refusal : ℕ → Option Refusal
count_refusal n = count_refusal_of Counts n

abbrev pub poll_count_refusal : ℕ → Option Refusal
poll_count_refusal n = count_refusal_of Poll n

-- 2: a lent input is not exactly as long as is due
unfoldable pub length_refusal : (due lent : ℕ) → Option Refusal
length_refusal due lent = refuse (eqb lent due) InputLength

-- a value as code returns it, or the refusal that arises
unfoldable pub value_unless : {A : Type 0} → Option Refusal → A → Result A Refusal
value_unless none x = Ok x
value_unless (some r) x = Err r

-- a lent input that is to have `due` numbers, by value: 2
unfoldable pub by_value : {A : Type 0} (due : ℕ) → List A → Result (List A) Refusal
by_value due l = value_unless (length_refusal due (length l)) l

-- 3: an output buffer is shorter than the result
unfoldable pub room_refusal : (due room : ℕ) → Option Refusal
room_refusal due room = refuse (leb due room) OutputRoom

-- the leaf count, and an input that is to have `due` numbers: 1, 2
unfoldable pub input_refusal : Kind → (n due lent : ℕ) → Option Refusal
input_refusal kind n due lent = judged (count_refusal_of kind n ∷ length_refusal due lent ∷ [])

-- the sizes of a call: these, and a buffer that is to hold a `result` of so many numbers: 1, 2, 3
unfoldable pub sizes_refusal : Kind → (n due lent result room : ℕ) → Option Refusal
sizes_refusal kind n due lent result room = judged (input_refusal kind n due lent ∷ room_refusal result room ∷ [])
