-- Polls (01, "Polls"): the leaf counts, the quartets in lexicographic order, and the first bad record.
-- "Poll" is the paper's own term: a list of records, one record a quartet. The struct `Record`, four leaves and a
-- pairing code, and `Quartet`, four leaves, stand in src/lib.rt.
use Rattle.std.specs.Prelude.{Bool, cond, ◌&&◌, ℕ, suc, ◌+◌, ◌-◌, ◌*◌, ◌/◌, leb, eqb}
use mathlib.Core.List.{List, [], ◌∷◌, map, flat_map}
use Rattle.std.proofs.Math.Option.{Option, none, some}
use Rattle.base.specs.Lists.{tab}
use Rattle.refusals.specs.declared.Refusal.{Refusal}
use Rattle.refusals.specs.declared.Refusal.TheVariants as cause
use Rattle.refusals.specs.Refusals.{judged}
use Rattle.poll_rules.specs.declared.Record.{Record}
use Rattle.poll_rules.specs.declared.Quartet.{Quartet}

-- the highest pairing code: 0, 1 and 2 are the pairings; 3 allows all three, 4 the pairings 0 and 1, 5 the pairings 0
-- and 2, 6 the pairings 1 and 2 (02, 2)
abbrev pub last_code : ℕ
last_code = 6

-- i, i + 1, .., n − 1
unfoldable pub from : ℕ → ℕ → List ℕ
from i n = tab (n - i) (λ k. i + k)

-- the quartet a, b, c, d
abbrev pub four : ℕ → ℕ → ℕ → ℕ → Quartet
four a b c d = record { a = a; b = b; c = c; d = d }

-- The quartets a < b < c < d of n leaves in lexicographic order: those that begin with a, b, c; with a, b; with a; all.
unfoldable pub with_three : (n a b c : ℕ) → List Quartet
with_three n a b c = map (four a b c) (from (c + 1) n)

unfoldable pub with_two : (n a b : ℕ) → List Quartet
with_two n a b = flat_map (with_three n a b) (from (b + 1) n)

unfoldable pub with_one : (n a : ℕ) → List Quartet
with_one n a = flat_map (with_two n a) (from (a + 1) n)

unfoldable pub quartets_of : ℕ → List Quartet
quartets_of n = flat_map (with_one n) (from 0 n)

-- how many records a poll of n leaves has
unfoldable pub records_due : ℕ → ℕ
records_due n = n * (n - 1) * (n - 2) * (n - 3) / 24

-- the record's leaves are those of q
unfoldable pub is_of : Quartet → Record → Bool
is_of q r = eqb r.a q.a && (eqb r.b q.b && (eqb r.c q.c && eqb r.d q.d))

-- 10: the leaves of record k are not those due there
unfoldable pub record_leaves_refusal : ℕ → Quartet → Record → Option Refusal
record_leaves_refusal k q r = cond (is_of q r) none (some (cause.Record k))

-- 11: the pairing code of record k is above 6
unfoldable pub record_code_refusal : ℕ → Record → Option Refusal
record_code_refusal k r = cond (leb r.code last_code) none (some (cause.PairingCode k))

-- record k, where q is due: 10 before 11
unfoldable pub record_refusal : ℕ → Quartet → Record → Option Refusal
record_refusal k q r = judged (record_leaves_refusal k q r ∷ record_code_refusal k r ∷ [])

-- the records one by one, from record k on, where the quartets Q are due; how many they are is judged before
unfoldable pub records_refusal_from : ℕ → List Quartet → List Record → Option Refusal
records_refusal_from k [] R = none
records_refusal_from k (q ∷ Q) [] = none
records_refusal_from k (q ∷ Q) (r ∷ R) = judged (record_refusal k q r ∷ records_refusal_from (suc k) Q R ∷ [])

-- the first bad record of a poll of n leaves
unfoldable pub records_refusal : ℕ → List Record → Option Refusal
records_refusal n R = records_refusal_from 0 (quartets_of n) R
