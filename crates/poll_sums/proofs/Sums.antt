-- The sums of a poll: where a cell stands among them, what adding to a cell above the diagonal does, and that the
-- shares of a record, dealt to its six cells, are what it adds.
use mathlib.Core.Path.{◌≡◌, ap, sym, ◌∙◌}
use mathlib.Core.Logic.{inl, inr, ◌≢◌}
use mathlib.Core.Bool.{Bool, true, false, ◌&&◌, ◌||◌}
use mathlib.Core.List.{List}
use Prim.Native.Nat.{ℕ, min, max, ◌+◌, ◌*◌, ◌/◌, ◌%◌, ◌≤◌, ◌<◌}
use native.Mathlib.Nat.{add-zero, mul-le-mul, lt_of_lt_of_le}
use native.Mathlib.Omega.{arith}
use native.Mathlib.Decide.{dec_lt}
use borrow.Author.Tests.{eqb-true, eq-eqb, lt-ltb, le-ltb}
use lib.Dec.{eqb}
use lib.ListN.{length, get_or, set}
use lib.Seq.{get_or-set_same, get_or-set_other}
use Rattle.base.specs.Numbers.{indicator}
use Rattle.base.proofs.Bools.{bool?, never, and_both, and_is, or_cases}
use Rattle.base.proofs.Counts.{indicator_le, indicator_or, indicator_none, indicator_add}
use Rattle.base.proofs.Lists.{row_of, column_of, place}
use Rattle.limits.specs.Limits.{most_poll_cells, most_polled}
use Rattle.trees.specs.Tables.{cell}
use Rattle.poll_rules.specs.declared.Quartet.{Quartet}
use Rattle.poll_rules.specs.Counts.{cell_of, beside, share, adds}
use Rattle.poll_rules.specs.inner.Quartets.{record_of, Leaves}
use Rattle.poll_sums.specs.inner.Sums.{together, dealt, with_fourth, of_three, RoomFor, Grown, mirrored_sum}
use Rattle.poll_rules.proofs.Counts.{shares_le, pairs_apart}

-- there is room for the cells of every poll
pub cells_fit : (n : ℕ) → n ≤ most_polled → n * n ≤ most_poll_cells
cells_fit n h = mul-le-mul h h

pub place_fits : (n i j : ℕ) → i < n → j < n → n ≤ most_polled → i * n + j < most_poll_cells
place_fits n i j hi hj h = lt_of_lt_of_le (place n i j hi hj) (cells_fit n h)

-- of a cell and its mirror cell, the smaller of the two numbers names the row
pub mirrored_place :
    (n : ℕ) (t : List ℕ) (i j : ℕ) → get_or t (min i j * n + max i j) 0 ≡ mirrored_sum n t i j
unfolding mirrored_sum cell
mirrored_place n t i j = elim (dec_lt i j) [
  | yes l ↦
      let low : min i j ≡ i = omega arith in
      let high : max i j ≡ j = omega arith in
      rw (lt-ltb i j l, low, high)
  | no g ↦
      let low : min i j ≡ j = omega arith in
      let high : max i j ≡ i = omega arith in
      rw (le-ltb i j (omega arith), low, high)
]

-- cells stand apart
row_same : (n i j x y : ℕ) → j < n → y < n → x * n + y ≡ i * n + j → x ≡ i
row_same n i j x y hj hy e = sym (row_of n x y hy) ∙ ap (λ z. z / n) e ∙ row_of n i j hj

column_same : (n i j x y : ℕ) → j < n → y < n → x * n + y ≡ i * n + j → y ≡ j
column_same n i j x y hj hy e = sym (column_of n x y hy) ∙ ap (λ z. z % n) e ∙ column_of n i j hj

-- cell (i, j) above the diagonal is the pair's only cell there
only_cell : (i j x y : ℕ) → i < j → x ≤ y → cell_of i j x y ≡ true → (x ≡ i) × (y ≡ j)
unfolding cell_of
only_cell i j x y h l p = elim (or_cases (eqb x i && eqb y j) (eqb x j && eqb y i) p) [
  | inl q ↦ (let b = and_both (eqb x i) (eqb y j) q in (eqb-true x i b.0, eqb-true y j b.1))
  | inr q ↦
      let b = and_both (eqb x j) (eqb y i) q in
      absurd (omega (arith, eqb-true x j b.0, eqb-true y i b.1))
]

-- v more in cell (i, j)
pub grown_cell :
    (n : ℕ) (t : List ℕ) (i j v : ℕ) → i < j → j < n → n * n ≤ length t
    → Grown n (λ x y. indicator (cell_of i j x y) v) t (set t (i * n + j) (get_or t (i * n + j) 0 + v))
unfolding cell
grown_cell n t i j v h hj l x y le hy = elim (bool? (cell_of i j x y)) [
  | inl p ↦
      let q = only_cell i j x y h le p in
      rw (p, q.0, q.1) (get_or-set_same t (i * n + j) _ 0 (lt_of_lt_of_le (place n i j (omega arith) hj) l))
  | inr p ↦ rw p (get_or-set_other t (i * n + j) (x * n + y) _ 0 (apart p) ∙ sym (add-zero _))
]
  where
    apart : cell_of i j x y ≡ false → x * n + y ≢ i * n + j
    apart p e = never (here (row_same n i j x y hj hy e) (column_same n i j x y hj hy e)) p
      where
        here : x ≡ i → y ≡ j → cell_of i j x y ≡ true
        here r c = unfold cell_of in rw (and_is (eqb x i) (eqb y j) (eq-eqb x i r) (eq-eqb y j c))

-- v more in some cells leaves room for so much less
pub room_left :
    (n m v : ℕ) (f : ℕ → ℕ → Bool) (t u : List ℕ) → Grown n (λ x y. indicator (f x y) v) t u → RoomFor n (m + v) t
    → RoomFor n m u
room_left n m v f t u g r x y hx hy = omega (arith, g x y hx hy, r x y hx hy, indicator_le (f x y) v)

-- the three numbers in one: they are no more than it, and what they are of a sum and of three together
pub parts_le : (w : ℕ) → w % 1024 + w / 1024 % 1024 + w / 1048576 ≤ w
parts_le w = omega arith

pub whole : (w : ℕ) → w ≡ together (w % 1024) (w / 1024 % 1024) (w / 1048576)
whole w = omega arith

pub parts_together :
    (x y z w : ℕ) → x < 1024 → y < 1024 → w ≡ together x y z
    → (w % 1024 ≡ x) × (w / 1024 % 1024 ≡ y) × (w / 1048576 ≡ z)
parts_together x y z w hx hy e = (omega arith, omega arith, omega arith)

pub parts_add :
    (v w : ℕ) → v % 1024 + w % 1024 < 1024 → v / 1024 % 1024 + w / 1024 % 1024 < 1024
    → ((v + w) % 1024 ≡ v % 1024 + w % 1024)
    × ((v + w) / 1024 % 1024 ≡ v / 1024 % 1024 + w / 1024 % 1024)
    × ((v + w) / 1048576 ≡ v / 1048576 + w / 1048576)
parts_add v w h g =
    parts_together (v % 1024 + w % 1024) (v / 1024 % 1024 + w / 1024 % 1024) (v / 1048576 + w / 1048576) (v + w) h g
    (omega (arith, whole v, whole w))

-- nothing dealt, and two numbers dealt
pub dealt_none : (a b c d e f i j : ℕ) → dealt a b c d e f 0 i j ≡ 0
unfolding dealt
dealt_none a b c d e f i j =
    omega (arith, indicator_none (cell_of a b i j), indicator_none (cell_of c d i j), indicator_none (cell_of e f i j))

pub dealt_add :
    (a b c d e f v w i j : ℕ) → v % 1024 + w % 1024 < 1024 → v / 1024 % 1024 + w / 1024 % 1024 < 1024
    → dealt a b c d e f (v + w) i j ≡ dealt a b c d e f v i j + dealt a b c d e f w i j
unfolding dealt
dealt_add a b c d e f v w i j h g =
    let p = parts_add v w h g in
    rw (p.0, p.1, p.2)
    (omega (
      arith,
      indicator_add (cell_of a b i j) (v % 1024) (w % 1024),
      indicator_add (cell_of c d i j) (v / 1024 % 1024) (w / 1024 % 1024),
      indicator_add (cell_of e f i j) (v / 1048576) (w / 1048576),
    ))

-- three shares, one after the other
pub grown_dealt :
    (n a b c d e f w : ℕ) (t u v z : List ℕ) → Grown n (λ i j. indicator (cell_of a b i j) (w % 1024)) t u
    → Grown n (λ i j. indicator (cell_of c d i j) (w / 1024 % 1024)) u v
    → Grown n (λ i j. indicator (cell_of e f i j) (w / 1048576)) v z → Grown n (dealt a b c d e f w) t z
unfolding dealt
grown_dealt n a b c d e f w t u v z f₁ f₂ f₃ i j hi hj = omega (arith, f₁ i j hi hj, f₂ i j hi hj, f₃ i j hi hj)

-- what is dealt is no more than the number
pub dealt_le : (a b c d e f w i j : ℕ) → dealt a b c d e f w i j ≤ w
unfolding dealt
dealt_le a b c d e f w i j =
    omega (
      arith,
      parts_le w,
      indicator_le (cell_of a b i j) (w % 1024),
      indicator_le (cell_of c d i j) (w / 1024 % 1024),
      indicator_le (cell_of e f i j) (w / 1048576),
    )

-- the cells of a pairing get its share: that of one pair, and that of the other
pair_shares :
    (x y z w i j v : ℕ) → (x ≢ z) × (x ≢ w) × (y ≢ z) × (y ≢ w)
    → indicator (cell_of x y i j || cell_of z w i j) v
    ≡ indicator (cell_of x y i j) v + indicator (cell_of z w i j) v
pair_shares x y z w i j v d =
    indicator_or (cell_of x y i j) (cell_of z w i j) v (pairs_apart x y z w i j d.0 d.1 d.2 d.3)

-- the shares of a record, dealt to the cells of the fourth leaf and to those of the first three: what it adds
pub adds_dealt :
    (n : ℕ) (q : Quartet) (code w : ℕ) → Leaves n q.a q.b q.c q.d
    → w ≡ together (share code 0) (share code 1) (share code 2) → (i j : ℕ)
    → adds (record_of q code) i j ≡ with_fourth q w i j + of_three q w i j
unfolding adds beside dealt
adds_dealt n q code w l e i j =
    let le = shares_le code in
    let p = parts_together (share code 0) (share code 1) (share code 2) w (omega arith) (omega arith) e in
    let ab = l.ab in
    let bc = l.bc in
    let cd = l.cd in
    rw (p.0, p.1, p.2)
    (omega (
      arith,
      pair_shares q.a q.b q.c q.d i j (share code 0) (omega arith, omega arith, omega arith, omega arith),
      pair_shares q.a q.c q.b q.d i j (share code 1) (omega arith, omega arith, omega arith, omega arith),
      pair_shares q.a q.d q.b q.c i j (share code 2) (omega arith, omega arith, omega arith, omega arith),
    ))
