-- Pair sums that change only in blocks. The pairs between two disjoint sets X and Y are the cells of a block, the rows
-- of X and the columns of Y: of the cells (i, j) and (j, i) of such a pair just one is in it. So where two pair sums
-- agree but between X and Y and between Y and Z, they differ by what they have in these two blocks.
use mathlib.Core.Path.{◌≡◌, refl, sym, ◌∙◌}
use mathlib.Core.Logic.{inl, inr, ◌≢◌}
use mathlib.Core.Bool.{Bool, true, false, ◌&&◌, ◌||◌, and-false}
use Prim.Native.Nat.{ℕ, zero, suc, ◌+◌, ◌<◌}
use native.Mathlib.Omega.{arith}
use Rattle.base.specs.Numbers.{indicator, sum_below, pair_sum, between}
use Rattle.base.proofs.Bools.{bool?, never, is_false, or_cases, and_both}
use Rattle.base.proofs.Counts.{indicator_or}
use Rattle.base.proofs.Sums.{sum_add, sum2, pair_sum_ext, pair_sum_add}

-- no number is in both sets
abbrev pub Disjoint : (ℕ → Bool) → (ℕ → Bool) → Type 0
Disjoint X Y = (k : ℕ) → X k ≡ true → Y k ≡ false

-- the order of two numbers below n does not matter
abbrev pub Symmetric : ℕ → (ℕ → ℕ → ℕ) → Type 0
Symmetric n f = (i j : ℕ) → i < n → j < n → f i j ≡ f j i

-- f i j added up over the i in X and the j in Y
abbrev pub block_sum : ℕ → (ℕ → Bool) → (ℕ → Bool) → (ℕ → ℕ → ℕ) → ℕ
block_sum n X Y f = sum2 n (λ i j. indicator (X i && Y j) (f i j))

-- a sum over two numbers with nothing on the diagonal, pair by pair
sum2_pairs :
    (n : ℕ) (f : ℕ → ℕ → ℕ) → ((k : ℕ) → k < n → f k k ≡ 0) → pair_sum n (λ i j. f i j + f j i) ≡ sum2 n f
unfolding pair_sum sum_below
sum2_pairs zero f h = refl
sum2_pairs (suc n) f h =
    let before = sum2_pairs n f (λ k l. h k (omega arith)) in
    let added = sum_add n (λ i. f i n) (λ i. f n i) in
    let rows = sum_add n (λ i. sum_below n (f i)) (λ i. f i n) in
    omega (arith, before, added, rows, h n (omega arith))

-- the pairs between two disjoint sets make up their block
pub between_block :
    (n : ℕ) (X Y : ℕ → Bool) (f : ℕ → ℕ → ℕ) → Disjoint X Y → Symmetric n f
    → pair_sum n (λ i j. indicator (between X Y i j) (f i j)) ≡ block_sum n X Y f
unfolding between
between_block n X Y f apart halves =
    pair_sum_ext n _ _ (λ i j l m. each i j (omega arith) m) ∙ sum2_pairs n part (λ k l. none k)
  where
    part : ℕ → ℕ → ℕ
    part i j = indicator (X i && Y j) (f i j)

    each : (i j : ℕ) → i < n → j < n → indicator ((X i && Y j) || (X j && Y i)) (f i j) ≡ part i j + part j i
    each i j li lj = rw (halves j i lj li) (indicator_or (X i && Y j) (X j && Y i) (f i j) (λ p.
        let q = is_false (X j) (λ x. never (and_both (X i) (Y j) p).1 (apart j x)) in rw q))

    none : (k : ℕ) → part k k ≡ 0
    none k = elim (bool? (X k)) [ inl x ↦ rw (x, apart k x) | inr x ↦ rw x ]

-- two sums that agree but between X and Y and between Y and Z
pub blocks_change :
    (n : ℕ) (X Y Z : ℕ → Bool) (f g : ℕ → ℕ → ℕ) → Disjoint X Y → Disjoint X Z → Disjoint Y Z
    → Symmetric n f → Symmetric n g
    → ((i j : ℕ) → i < n → j < n → i ≢ j → between X Y i j ≡ false → between Y Z i j ≡ false → g i j ≡ f i j)
    → pair_sum n g + (block_sum n X Y f + block_sum n Y Z f) ≡ pair_sum n f + (block_sum n X Y g + block_sum n Y Z g)
blocks_change n X Y Z f g xy xz yz f_halves g_halves same =
    rw (← changed_sum f f_halves, ← changed_sum g g_halves)
    (sym (pair_sum_add n g (changed f)) ∙ pair_sum_ext n _ _ each ∙ pair_sum_add n f (changed g))
  where
    -- what may change, cell by cell
    changed : (ℕ → ℕ → ℕ) → ℕ → ℕ → ℕ
    changed h i j = indicator (between X Y i j) (h i j) + indicator (between Y Z i j) (h i j)

    changed_sum : (h : ℕ → ℕ → ℕ) → Symmetric n h → pair_sum n (changed h) ≡ block_sum n X Y h + block_sum n Y Z h
    changed_sum h halves =
        pair_sum_add n (λ i j. indicator (between X Y i j) (h i j)) _
        ∙ rw (between_block n X Y h xy halves, between_block n Y Z h yz halves)

    one : (i j : ℕ) → between X Y i j ≡ true → between Y Z i j ≡ false
    one i j h = unfold between in elim (or_cases (X i && Y j) (X j && Y i) h) [
      | inl p ↦ (let x = (and_both (X i) (Y j) p).0 in rw (xy i x, xz i x, and-false (Y j)))
      | inr p ↦ (let x = (and_both (X j) (Y i) p).0 in rw (xy j x, xz j x, and-false (Y i)))
    ]

    each : (i j : ℕ) → i < j → j < n → g i j + changed f i j ≡ f i j + changed g i j
    each i j l m = elim (bool? (between X Y i j)) [
      | inl p ↦ rw (p, one i j p) (omega arith)
      | inr p ↦ elim (bool? (between Y Z i j)) [
        | inl q ↦ rw (p, q) (omega arith)
        | inr q ↦ rw (p, q, same i j (omega arith) m (λ e. omega arith) p q)
      ]
    ]
