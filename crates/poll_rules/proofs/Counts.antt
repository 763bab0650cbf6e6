-- What a record adds: that the shares of a code are six sixths, and that mirror cells get the same; and so what several
-- records add. A poll of four leaves with each code is worked out in scope_cases/Cases.antt.
use mathlib.Core.Path.{◌≡◌, refl, sym, ◌∙◌}
use mathlib.Core.Logic.{◌⊎◌, inl, inr, ◌≢◌}
use mathlib.Core.Bool.{Bool, true, false, ◌&&◌, or_comm, and_comm}
use mathlib.Core.List.{List, [], ◌∷◌, ◌++◌}
use Prim.Native.Nat.{ℕ, zero, suc, ◌+◌, ◌*◌, ◌≤◌, ◌<◌}
use native.Mathlib.Omega.{arith}
use native.Mathlib.Decide.{dec_lt}
use borrow.Author.Tests.{eqb-true}
use lib.Dec.{eqb}
use lib.ListN.{length, get_or-eq_default}
use Rattle.base.specs.Numbers.{indicator}
use Rattle.base.proofs.Bools.{and_both, or_cases, is_false}
use Rattle.base.proofs.Counts.{indicator_le, indicator_none}
use Rattle.limits.specs.declared.Kind.TheVariants.{Poll}
use Rattle.limits.specs.Limits.{scale_of}
use Rattle.poll_rules.specs.declared.Record.{Record}
use Rattle.poll_rules.specs.Records.{last_code}
use Rattle.poll_rules.specs.Counts.{cell_of, beside, shares, share, adds, poll_cell}

abbrev pub of_four : (a b c d code : ℕ) → Record
of_four a b c d code = record { a = a; b = b; c = c; d = d; code = code }

-- the shares of a code are six sixths
pub shares_six : (code : ℕ) → code ≤ last_code → share code 0 + (share code 1 + share code 2) ≡ scale_of Poll
unfolding share shares
shares_six zero l = refl
shares_six (suc zero) l = refl
shares_six (suc (suc zero)) l = refl
shares_six (suc (suc (suc zero))) l = refl
shares_six (suc (suc (suc (suc zero)))) l = refl
shares_six (suc (suc (suc (suc (suc zero))))) l = refl
shares_six (suc (suc (suc (suc (suc (suc zero)))))) l = refl
shares_six (suc (suc (suc (suc (suc (suc (suc code))))))) l = absurd (omega arith)

-- a code above 6 has none
pub share_over : (code p : ℕ) → last_code < code → share code p ≡ 0
unfolding share shares
share_over code p l = rw (get_or-eq_default shares [] {n = code} (omega arith))

-- so there are no more than six sixths
pub shares_le : (code : ℕ) → share code 0 + (share code 1 + share code 2) ≤ scale_of Poll
shares_le code = elim (dec_lt last_code code) [
  | yes l ↦ omega (arith, share_over code 0 l, share_over code 1 l, share_over code 2 l)
  | no g ↦ omega (arith, shares_six code (omega arith))
]

-- a resolved record adds them to the cells of its pairing
all_to_one :
    (code : ℕ) (f : ℕ → Bool) → code < 3
    → indicator (f 0) (share code 0) + (indicator (f 1) (share code 1) + indicator (f 2) (share code 2))
    ≡ indicator (f code) (scale_of Poll)
unfolding share shares
all_to_one zero f l = omega (arith, indicator_none (f 1), indicator_none (f 2))
all_to_one (suc zero) f l = omega (arith, indicator_none (f 0), indicator_none (f 2))
all_to_one (suc (suc zero)) f l = omega (arith, indicator_none (f 0), indicator_none (f 1))
all_to_one (suc (suc (suc code))) f l = absurd (omega arith)

pub adds_resolved :
    (r : Record) (p : ℕ) → r.code ≡ p → p < 3 → (i j : ℕ) → adds r i j ≡ indicator (beside p r i j) (scale_of Poll)
unfolding adds
adds_resolved r p e l i j = rw (← e) (all_to_one r.code (λ k. beside k r i j) (omega arith))

-- a record adds nothing to a cell of no pairing
pub adds_nothing : (r : Record) (i j : ℕ) → ((p : ℕ) → beside p r i j ≡ false) → adds r i j ≡ 0
unfolding adds
adds_nothing r i j h = rw (h 0, h 1, h 2)

-- no cell gets more than six sixths
pub adds_le : (r : Record) (i j : ℕ) → adds r i j ≤ scale_of Poll
unfolding adds
adds_le r i j =
    omega (
      arith,
      indicator_le (beside 0 r i j) (share r.code 0),
      indicator_le (beside 1 r i j) (share r.code 1),
      indicator_le (beside 2 r i j) (share r.code 2),
      shares_le r.code,
    )

-- cell (i, j) of a pair: i is one of the two
row_in : (x y i j : ℕ) → cell_of x y i j ≡ true → (i ≡ x) ⊎ (i ≡ y)
unfolding cell_of
row_in x y i j h = elim (or_cases (eqb i x && eqb j y) (eqb i y && eqb j x) h) [
  | inl p ↦ inl (eqb-true i x (and_both (eqb i x) (eqb j y) p).0)
  | inr p ↦ inr (eqb-true i y (and_both (eqb i y) (eqb j x) p).0)
]

-- two pairs of four leaves have no cell in common
pub pairs_apart :
    (x y z w i j : ℕ) → x ≢ z → x ≢ w → y ≢ z → y ≢ w → cell_of x y i j ≡ true → cell_of z w i j ≡ false
pairs_apart x y z w i j xz xw yz yw h = is_false _ (λ g. elim (row_in x y i j h) [
  | inl p ↦ elim (row_in z w i j g) [ inl q ↦ xz (sym p ∙ q) | inr q ↦ xw (sym p ∙ q) ]
  | inr p ↦ elim (row_in z w i j g) [ inl q ↦ yz (sym p ∙ q) | inr q ↦ yw (sym p ∙ q) ]
])

-- a poll's table is its own mirror
cell_mirror : (x y i j : ℕ) → cell_of x y i j ≡ cell_of x y j i
unfolding cell_of
cell_mirror x y i j =
    or_comm (eqb i x && eqb j y) (eqb i y && eqb j x)
    ∙ rw (and_comm (eqb i y) (eqb j x), and_comm (eqb i x) (eqb j y))

beside_mirror : (p : ℕ) (r : Record) (i j : ℕ) → beside p r i j ≡ beside p r j i
unfolding beside
beside_mirror zero r i j = rw (cell_mirror r.a r.b i j, cell_mirror r.c r.d i j)
beside_mirror (suc zero) r i j = rw (cell_mirror r.a r.c i j, cell_mirror r.b r.d i j)
beside_mirror (suc (suc zero)) r i j = rw (cell_mirror r.a r.d i j, cell_mirror r.b r.c i j)
beside_mirror (suc (suc (suc p))) r i j = refl

adds_mirror : (r : Record) (i j : ℕ) → adds r i j ≡ adds r j i
unfolding adds
adds_mirror r i j = rw (beside_mirror 0 r i j, beside_mirror 1 r i j, beside_mirror 2 r i j)

pub poll_mirror : (R : List Record) (i j : ℕ) → poll_cell R i j ≡ poll_cell R j i
unfolding poll_cell
poll_mirror [] i j = refl
poll_mirror (r ∷ R) i j = rw (adds_mirror r i j, poll_mirror R i j)

-- a cell after one record more
pub poll_cell_snoc :
    (R : List Record) (r : Record) (i j : ℕ) → poll_cell (R ++ (r ∷ [])) i j ≡ poll_cell R i j + adds r i j
unfolding poll_cell
poll_cell_snoc [] r i j = omega arith
poll_cell_snoc (x ∷ R) r i j = omega (arith, poll_cell_snoc R r i j)

-- a cell is at most six times the number of records
pub poll_cell_le : (R : List Record) (i j : ℕ) → poll_cell R i j ≤ scale_of Poll * length R
unfolding poll_cell
poll_cell_le [] i j = omega arith
poll_cell_le (x ∷ R) i j = omega (arith, poll_cell_le R i j, adds_le x i j)
