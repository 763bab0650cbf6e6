-- Bits: a number below 2^m has m bits and is made of them; or, and, xor go bit by bit, and shifts move bits; so what is
-- done to the cells of two sets is done to the sets. Each law goes by the lowest bit, x mod 2, and the others, x div 2.
use mathlib.Core.Path.{◌≡◌, refl, sym, ap, ◌∙◌}
use mathlib.Core.Bool.{Bool, true, false, xor, ◌&&◌, ◌||◌}
use mathlib.Core.List.{List}
use Prim.Native.Nat.{ℕ, zero, suc, ◌+◌, ◌*◌, ◌/◌, ◌%◌, ◌^◌, ◌<◌, min, max}
use native.Mathlib.Nat.{add-zero, add-suc, add-mul, zero-mul, mul_comm, mul_assoc, mul-suc, mul-le-mul_left, pow-suc}
use native.Mathlib.Nat.{div-add-mod', div-lt_iff_lt-mul, mod-lt, mod-eq_of_lt}
use native.Mathlib.Numerals.{add-one}
use native.Mathlib.Omega.{arith}
use lib.Bits.{bit_and, bit_or, bit_xor, differ, and_step, or_step, xor_step, and_lt, or_lt}
use lib.Dec.{eqb}
use lib.ListN.{length, get_or}
use lib.Pow.{shr-shr, shl-shr, pow-add, mod-pow-add}
use lib.Seq.{ext_get_or}
use Rattle.base.specs.Numbers.{indicator, sum_below}
use Rattle.base.specs.Lists.{tab}
use Rattle.base.specs.Bits.{bit, from_bits, in_cells, cells, AreCells}
use Rattle.base.proofs.Lists.{length_tab, getD_tab, tab_same, row_of, column_of}
use Rattle.base.proofs.Sums.{sum_ext}

-- the lowest bit, and those above it
bit_low : (x : ℕ) → bit x 0 ≡ eqb (x % 2) 1
unfolding bit
bit_low x = let e : x / 1 ≡ x = omega arith in rw e

bit_above : (x t : ℕ) → bit x (suc t) ≡ bit (x / 2) t
unfolding bit
bit_above x t =
    let e : 1 + t ≡ suc t = omega arith in
    ap (λ (y : ℕ). eqb (y % 2) 1) (sym (rw e at (shr-shr x 1 t)))

-- a bit put below the bits of another number
bit_first : (x : ℕ) (b : Bool) → bit (x * 2 + indicator b 1) 0 ≡ b
bit_first x true = rw (bit_low (x * 2 + 1)) (let e : (x * 2 + 1) % 2 ≡ 1 = omega arith in rw e)
bit_first x false = rw (bit_low (x * 2 + 0)) (let e : (x * 2 + 0) % 2 ≡ 0 = omega arith in rw e)

bit_next : (x : ℕ) (b : Bool) (t : ℕ) → bit (x * 2 + indicator b 1) (suc t) ≡ bit x t
bit_next x true t = rw (bit_above (x * 2 + 1) t) (let e : (x * 2 + 1) / 2 ≡ x = omega arith in rw e)
bit_next x false t = rw (bit_above (x * 2 + 0) t) (let e : (x * 2 + 0) / 2 ≡ x = omega arith in rw e)

-- the lowest bit as a number
low : (x : ℕ) → x % 2 ≡ indicator (bit x 0) 1
low x = rw (bit_low x) (sym (digit (x % 2) (omega arith)))
  where
    digit : (r : ℕ) → r < 2 → indicator (eqb r 1) 1 ≡ r
    digit zero h = refl
    digit (suc zero) h = refl
    digit (suc (suc r)) h = absurd (omega arith)

-- the number of given bits: by its highest bit, by its lowest, and in two parts
from_more : (m : ℕ) (f : ℕ → Bool) → from_bits (suc m) f ≡ from_bits m f + indicator (f m) (2 ^ m)
unfolding from_bits sum_below
from_more m f = refl

scaled : (b : Bool) (x y : ℕ) → indicator b x * y ≡ indicator b (x * y)
scaled true x y = refl
scaled false x y = zero-mul y

from_low : (m : ℕ) (f : ℕ → Bool) → from_bits (suc m) f ≡ from_bits m (λ t. f (suc t)) * 2 + indicator (f 0) 1
from_low zero f = unfold from_bits sum_below in omega arith
from_low (suc m) f =
    rw (from_more (suc m) f, from_low m f, from_more m (λ t. f (suc t)), pow-suc 2 m, ← scaled (f (suc m)) (2 ^ m) 2)
    (omega arith)

pub from_same : (m : ℕ) (f g : ℕ → Bool) → ((t : ℕ) → t < m → f t ≡ g t) → from_bits m f ≡ from_bits m g
unfolding from_bits
from_same m f g h = sum_ext m _ _ (λ t l. rw (h t l))

pub from_parts :
    (m k : ℕ) (f : ℕ → Bool) → from_bits (m + k) f ≡ from_bits m f + from_bits k (λ t. f (m + t)) * 2 ^ m
from_parts m zero f = unfold from_bits sum_below in rw (add-zero m) (omega arith)
from_parts m (suc k) f =
    rw (
      add-suc m k,
      from_more (m + k) f,
      from_parts m k f,
      from_more k (λ t. f (m + t)),
      add-mul,
      scaled (f (m + k)) (2 ^ k) (2 ^ m),
      pow-add 2 m k,
      mul_comm (2 ^ k) (2 ^ m),
    )
    (omega arith)

pub from_lt : (m : ℕ) (f : ℕ → Bool) → from_bits m f < 2 ^ m
from_lt zero f = unfold from_bits sum_below in omega arith
from_lt (suc m) f = rw (from_low m f, pow-suc 2 m) (omega (arith, from_lt m (λ t. f (suc t)), one (f 0)))
  where
    one : (b : Bool) → indicator b 1 < 2
    one true = omega arith
    one false = omega arith

-- a number has the bits that it is made of
pub bit_from : (m : ℕ) (f : ℕ → Bool) (t : ℕ) → t < m → bit (from_bits m f) t ≡ f t
bit_from zero f t l = absurd (omega arith)
bit_from (suc m) f zero l = rw (from_low m f) (bit_first _ (f 0))
bit_from (suc m) f (suc t) l = rw (from_low m f) (bit_next _ (f 0) t ∙ bit_from m (λ t. f (suc t)) t (omega arith))

-- and is made of the bits that it has
pub from_lowest : (m x : ℕ) → from_bits m (bit x) ≡ x % 2 ^ m
from_lowest zero x = unfold from_bits sum_below in omega arith
from_lowest (suc m) x =
    from_low m (bit x)
    ∙ rw (from_same m (λ t. bit x (suc t)) (bit (x / 2)) (λ t l. bit_above x t), from_lowest m (x / 2), ← low x)
    (sym (rw (add-one m) at (mod-pow-add x m 1)))

pub from_bit : (m x : ℕ) → x < 2 ^ m → from_bits m (bit x) ≡ x
from_bit m x h = from_lowest m x ∙ mod-eq_of_lt h

-- two numbers with the same m bits
pub same_bits : (m x y : ℕ) → x < 2 ^ m → y < 2 ^ m → ((t : ℕ) → t < m → bit x t ≡ bit y t) → x ≡ y
same_bits m x y hx hy h = sym (from_bit m x hx) ∙ from_same m (bit x) (bit y) h ∙ from_bit m y hy

-- An operation on numbers that makes the lowest bit of two lowest bits, and the others of the others.
module _
    (op : ℕ → ℕ → ℕ) (on_bits : Bool → Bool → Bool)
    (step : (x y : ℕ) → op x y ≡ op (x / 2) (y / 2) * 2 + indicator (on_bits (bit x 0) (bit y 0)) 1) where
  bitwise : (x y t : ℕ) → bit (op x y) t ≡ on_bits (bit x t) (bit y t)
  bitwise x y zero = rw (step x y) (bit_first _ (on_bits (bit x 0) (bit y 0)))
  bitwise x y (suc t) =
      rw (step x y, bit_above x t, bit_above y t)
      (bit_next _ (on_bits (bit x 0) (bit y 0)) t ∙ bitwise (x / 2) (y / 2) t)

or_bits : (a b : Bool) → max (indicator a 1) (indicator b 1) ≡ indicator (a || b) 1
or_bits true true = refl
or_bits true false = refl
or_bits false true = refl
or_bits false false = refl

and_bits : (a b : Bool) → min (indicator a 1) (indicator b 1) ≡ indicator (a && b) 1
and_bits true true = refl
and_bits true false = refl
and_bits false true = refl
and_bits false false = refl

xor_bits : (a b : Bool) → differ (indicator a 1) (indicator b 1) ≡ indicator (xor a b) 1
unfolding xor
xor_bits true true = refl
xor_bits true false = refl
xor_bits false true = refl
xor_bits false false = refl

pub bit_or_lem : (x y t : ℕ) → bit (bit_or x y) t ≡ (bit x t || bit y t)
bit_or_lem = bitwise bit_or ◌||◌ (λ x y. or_step x y ∙ rw (low x, low y, or_bits (bit x 0) (bit y 0)))

pub bit_and_lem : (x y t : ℕ) → bit (bit_and x y) t ≡ (bit x t && bit y t)
bit_and_lem = bitwise bit_and ◌&&◌ (λ x y. and_step x y ∙ rw (low x, low y, and_bits (bit x 0) (bit y 0)))

pub bit_xor_lem : (x y t : ℕ) → bit (bit_xor x y) t ≡ xor (bit x t) (bit y t)
bit_xor_lem = bitwise bit_xor xor (λ x y. xor_step x y ∙ rw (low x, low y, xor_bits (bit x 0) (bit y 0)))

shift_suc : (x s : ℕ) → x * 2 ^ suc s ≡ x * 2 ^ s * 2
shift_suc x s = rw (pow-suc 2 s) (sym (mul_assoc x (2 ^ s) 2))

-- shifts: bits move down, or up, and what comes in below is 0
pub bit_down : (x s t : ℕ) → bit (x / 2 ^ s) t ≡ bit x (s + t)
unfolding bit
bit_down x s t = rw (shr-shr x s t)

pub bit_up : (x s t : ℕ) → bit (x * 2 ^ s) (s + t) ≡ bit x t
bit_up x s t = sym (bit_down (x * 2 ^ s) s t) ∙ rw (shl-shr x s)

pub bit_up_low : (x s t : ℕ) → t < s → bit (x * 2 ^ s) t ≡ false
bit_up_low x zero t l = absurd (omega arith)
bit_up_low x (suc s) zero l =
    rw (shift_suc x s, bit_low (x * 2 ^ s * 2)) (let e : x * 2 ^ s * 2 % 2 ≡ 0 = omega arith in rw e)
bit_up_low x (suc s) (suc t) l =
    rw (shift_suc x s, bit_above (x * 2 ^ s * 2) t)
    (let e : x * 2 ^ s * 2 / 2 ≡ x * 2 ^ s = omega arith in rw e (bit_up_low x s t (omega arith)))

-- Sets in cells of `width` bits each.
module _ (width : ℕ) where
  cell_of : (i t : ℕ) → t < width → (width * i + t) / width ≡ i
  cell_of i t l = rw (mul_comm width i) (row_of width i t l)

  place_in : (i t : ℕ) → t < width → (width * i + t) % width ≡ t
  place_in i t l = rw (mul_comm width i) (column_of width i t l)

  pub in_cell : (s : List ℕ) (i t : ℕ) → t < width → in_cells width s (width * i + t) ≡ bit (get_or s i 0) t
  unfolding in_cells
  in_cell s i t l = rw (cell_of i t l, place_in i t l)

  module _ (many : ℕ) where
    bit_within : (i t : ℕ) → i < many → t < width → width * i + t < width * many
    bit_within i t l lt = omega (arith, mul-le-mul_left width l, mul-suc width i)

    pub length_cells : (e : ℕ → Bool) → length (cells width many e) ≡ many
    unfolding cells
    length_cells e = length_tab many _

    cell_at :
        (e : ℕ → Bool) (i : ℕ) → i < many → get_or (cells width many e) i 0 ≡ from_bits width (λ t. e (width * i + t))
    unfolding cells
    cell_at e i l = getD_tab many _ i 0 l

    -- sets that agree at every bit of the cells have the same cells
    pub cells_same :
        (e f : ℕ → Bool) → ((k : ℕ) → k < width * many → e k ≡ f k) → cells width many e ≡ cells width many f
    unfolding cells
    cells_same e f h = tab_same many _ _ (λ i l. from_same width _ _ (λ t lt. h (width * i + t) (bit_within i t l lt)))

    -- the cells of a set have it, and nothing else at their bits
    pub cells_hold : (e : ℕ → Bool) (k : ℕ) → k < width * many → in_cells width (cells width many e) k ≡ e k
    unfolding in_cells
    cells_hold e k l =
        let some : 0 < width = positive width l in
        let cell : k / width < many = (div-lt_iff_lt-mul some).1 (rw (mul_comm many width) l) in
        let place : width * (k / width) + k % width ≡ k = rw (mul_comm width (k / width)) (div-add-mod' k width) in
        rw (cell_at e (k / width) cell)
        (bit_from width (λ t. e (width * (k / width) + t)) (k % width) (mod-lt k some) ∙ ap e place)
      where
        positive : (w : ℕ) → k < w * many → 0 < w
        positive zero l = absurd (omega (arith, zero-mul many))
        positive (suc w) l = omega arith

    -- so many cells of so many bits are those of the set that they stand for
    pub cells_back : (s : List ℕ) → AreCells width many s → cells width many (in_cells width s) ≡ s
    cells_back s h = ext_get_or 0 _ s (length_cells _ ∙ sym h.0) (λ i l.
        let li : i < many = rw (length_cells (in_cells width s)) at l in
        cell_at _ i li ∙ from_same width _ (bit (get_or s i 0)) (in_cell s i) ∙ from_bit width _ (h.1 i))

    -- cells that stand for one set are equal
    pub same_cells :
        (a b : List ℕ) → AreCells width many a → AreCells width many b
        → ((k : ℕ) → k < width * many → in_cells width a k ≡ in_cells width b k) → (i : ℕ) → i < many
        → get_or a i 0 ≡ get_or b i 0
    same_cells a b ha hb h i l = same_bits width _ _ (ha.1 i) (hb.1 i) (λ t lt.
        sym (in_cell a i t lt) ∙ h (width * i + t) (bit_within i t l lt) ∙ in_cell b i t lt)

    -- an operation that goes bit by bit, done to the cells of two sets
    module _
        (op : ℕ → ℕ → ℕ) (on_bits : Bool → Bool → Bool)
        (law : (x y t : ℕ) → bit (op x y) t ≡ on_bits (bit x t) (bit y t))
        (below : (x y : ℕ) → x < 2 ^ width → y < 2 ^ width → op x y < 2 ^ width) where
      cells_by :
          (a b : List ℕ) → AreCells width many a → AreCells width many b
          → cells width many (λ k. on_bits (in_cells width a k) (in_cells width b k))
          ≡ tab many (λ i. op (get_or a i 0) (get_or b i 0))
      unfolding cells
      cells_by a b ha hb = tab_same many _ _ (λ i l.
          from_same width _ (bit (op (get_or a i 0) (get_or b i 0)))
          (λ t lt. rw (in_cell a i t lt, in_cell b i t lt) (sym (law (get_or a i 0) (get_or b i 0) t)))
          ∙ from_bit width _ (below _ _ (ha.1 i) (hb.1 i)))

    pub cells_or :
        (a b : List ℕ) → AreCells width many a → AreCells width many b
        → cells width many (λ k. in_cells width a k || in_cells width b k)
        ≡ tab many (λ i. bit_or (get_or a i 0) (get_or b i 0))
    cells_or = cells_by bit_or ◌||◌ bit_or_lem (or_lt width)

    pub cells_and :
        (a b : List ℕ) → AreCells width many a → AreCells width many b
        → cells width many (λ k. in_cells width a k && in_cells width b k)
        ≡ tab many (λ i. bit_and (get_or a i 0) (get_or b i 0))
    cells_and = cells_by bit_and ◌&&◌ bit_and_lem (and_lt width)
