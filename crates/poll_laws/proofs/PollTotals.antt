-- The cells above the diagonal of a poll's table total 12 times its records (02, 2). The idea: the shares of a code are
-- six sixths, and each pairing has two pairs, each of them with one cell above the diagonal.
use mathlib.Core.Path.{◌≡◌, refl, ap, sym, ◌∙◌}
use mathlib.Core.Logic.{◌≢◌}
use mathlib.Core.Bool.{◌||◌, and-false}
use mathlib.Core.List.{List}
use Prim.Native.Nat.{ℕ, ◌+◌, ◌*◌, ◌≤◌, ◌<◌}
use native.Mathlib.Omega.{arith}
use borrow.Author.Tests.{ne_eqb}
use lib.Dec.{eqb}
use lib.ListN.{length}
use Rattle.base.specs.Numbers.{indicator, sum_below, pair_sum}
use Rattle.base.proofs.Bools.{eqb_same}
use Rattle.base.proofs.Counts.{indicator_or}
use Rattle.base.proofs.Sums.{zero_sum, sum_only, pair_sum_ext, pair_sum_add, zero_pair_sum}
use Rattle.refusals.specs.Refusals.{accepted}
use Rattle.trees.specs.Tables.{cell}
use Rattle.trees.proofs.Tables.{rule_cell}
use Rattle.poll_rules.specs.declared.Record.{Record}
use Rattle.poll_rules.specs.Records.{last_code}
use Rattle.poll_rules.specs.Counts.{cell_of, beside, share, adds, poll_cell, poll_table}
use Rattle.poll_rules.specs.Operations.{poll_answer}
use Rattle.poll_rules.specs.inner.Quartets.{Leaves}
use Rattle.poll_rules.proofs.Counts.{shares_six, pairs_apart}
use Rattle.poll_laws.proofs.PairCells.{cell_rising}
use Rattle.poll_laws.proofs.AcceptedPolls.{EachRight, no_record, one_more, accepted_poll}

-- v in the cells of one pair
one_pair : (n x y v : ℕ) → x < y → y < n → pair_sum n (λ i j. indicator (cell_of x y i j) v) ≡ v
unfolding pair_sum
one_pair n x y v l ly =
    sum_only n y (λ j. sum_below j (λ i. indicator (cell_of x y i j) v)) ly (λ j d. zero_sum j _ (λ i m.
    rw (cell_rising x y i j l m, ne_eqb j y d, and-false (eqb i x))))
    ∙ sum_only y x (λ i. indicator (cell_of x y i y) v) l (λ i d. unfold cell_of in
    rw (ne_eqb i x d, ne_eqb y x (λ e. omega arith), and-false (eqb i y)))
    ∙ rw (cell_rising x y x y l l, eqb_same x, eqb_same y)

-- and of two, of four leaves
two_pairs :
    (n x y z w v : ℕ) → x < y → y < n → z < w → w < n → x ≢ z → x ≢ w → y ≢ z → y ≢ w
    → pair_sum n (λ i j. indicator (cell_of x y i j || cell_of z w i j) v) ≡ 2 * v
two_pairs n x y z w v xy yn zw wn xz xw yz yw =
    pair_sum_ext n _ (λ i j. indicator (cell_of x y i j) v + indicator (cell_of z w i j) v) (λ i j l m.
    indicator_or (cell_of x y i j) (cell_of z w i j) v (pairs_apart x y z w i j xz xw yz yw))
    ∙ pair_sum_add n (λ i j. indicator (cell_of x y i j) v) (λ i j. indicator (cell_of z w i j) v)
    ∙ omega (arith, one_pair n x y v xy yn, one_pair n z w v zw wn)

-- what a record adds above the diagonal
record_total :
    (n : ℕ) (r : Record) → Leaves n r.a r.b r.c r.d → r.code ≤ last_code → pair_sum n (adds r) ≡ 12
unfolding adds beside
record_total n r l h =
    pair_sum_add n (λ i j. indicator (beside 0 r i j) (share r.code 0)) _
    ∙ omega (
      arith,
      pair_sum_add n (λ i j. indicator (beside 1 r i j) (share r.code 1))
          (λ i j. indicator (beside 2 r i j) (share r.code 2)),
      two_pairs n r.a r.b r.c r.d (share r.code 0) l.ab (omega arith) l.cd l.dn
          (λ e. omega arith) (λ e. omega arith) (λ e. omega arith) (λ e. omega arith),
      two_pairs n r.a r.c r.b r.d (share r.code 1) (omega arith) (omega arith) (omega arith) l.dn
          (λ e. omega arith) (λ e. omega arith) (λ e. omega arith) (λ e. omega arith),
      two_pairs n r.a r.d r.b r.c (share r.code 2) (omega arith) l.dn l.bc (omega arith)
          (λ e. omega arith) (λ e. omega arith) (λ e. omega arith) (λ e. omega arith),
      shares_six r.code h,
    )

-- and a poll
poll_sum : {n : ℕ} {R : List Record} → EachRight n R → pair_sum n (poll_cell R) ≡ 12 * length R
unfolding poll_cell
poll_sum {n} no_record = zero_pair_sum n (λ i j. 0) (λ i j l m. refl)
poll_sum {n} (one_more {r} {R} l c e) =
    pair_sum_add n (adds r) (poll_cell R) ∙ omega (arith, record_total n r l c, poll_sum e)

-- The law: the cells above the diagonal of a poll's table total 12 times its number of records.
pub poll_total :
    (n : ℕ) (R : List Record) (room : ℕ) (t : List ℕ) → poll_answer n R room ≡ accepted t
    → pair_sum n (cell n t) ≡ 12 * length R
unfolding poll_table
poll_total n R room t h =
    let a = accepted_poll n R room t h in
    pair_sum_ext n (cell n t) (poll_cell R) (λ i j l m.
    ap (λ z. cell n z i j) (sym a.table) ∙ rule_cell n (poll_cell R) i j (omega arith) m)
    ∙ poll_sum a.each
