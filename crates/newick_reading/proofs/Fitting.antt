-- 18 while a text is read: after each event all fits if it did before and one test of the parts so far passes. At the
-- end what fits is a drawing whose nodes are binary, apart from a three-way top.
use mathlib.Core.Path.{◌≡◌, refl}
use mathlib.Core.Bool.{Bool, true, false, cond, ◌&&◌, and-true}
use mathlib.Core.List.{List, [], ◌∷◌}
use mathlib.Core.Option.{none, some}
use Prim.Native.Nat.{ℕ, suc, ◌+◌}
use native.Mathlib.Omega.{arith}
use borrow.Author.Tests.{leb-true, le-leb, ltb-true, lt-ltb, eqb-true, eq-eqb, ne_eqb}
use lib.Dec.{leb, ltb, eqb}
use lib.ListN.{length}
use Rattle.base.proofs.Bools.{bool_iff, and_both, and_is, never}
use Rattle.sheet_rules.specs.Sheets.{between}
use Rattle.newick_rules.specs.Drawings.{Drawing, name, bracket}
use Rattle.newick_rules.specs.Reader.{Open, with_part, inside}
use Rattle.newick_rules.specs.Importing.{ways, binary, binary_parts, binary_top}
use Rattle.newick_reading.specs.inner.Fitting.{open_ways, most_before, fits_open, fits_opens, fits_last, fits}
use Rattle.newick_reading.specs.inner.Fitting.{may_close}

-- the same Booleans in another grouping
regroup :
    (t l p d f : Bool) → (t ≡ true → l ≡ true) → ((t && (p && d)) && f) ≡ (t && (d && ((l && p) && f)))
regroup true l p d f h = rw (h refl) (turn p d)
  where
    turn : (p d : Bool) → ((p && d) && f) ≡ (d && (p && f))
    turn true d = refl
    turn false true = refl
    turn false false = refl
regroup false l p d f h = refl

-- and where the first part comes
regroup_first : (t d f : Bool) → ((t && d) && f) ≡ (t && (d && f))
regroup_first true d f = refl
regroup_first false d f = refl

-- one part more, in each test
suc_leb : (w m : ℕ) → leb (suc w) m ≡ ltb w m
suc_leb w m =
    bool_iff (leb (suc w) m) (ltb w m) (λ h. lt-ltb w m (omega (arith, leb-true (suc w) m h)))
    (λ h. le-leb (suc w) m (omega (arith, ltb-true w m h)))

suc_between : (w : ℕ) → between 2 3 (suc w) ≡ between 1 2 w
suc_between w = bool_iff (between 2 3 (suc w)) (between 1 2 w) down up
  where
    down : between 2 3 (suc w) ≡ true → between 1 2 w ≡ true
    down h =
        let r = and_both (leb 2 (suc w)) (leb (suc w) 3) h in
        and_is _ _ (le-leb 1 w (omega (arith, leb-true 2 (suc w) r.0)))
        (le-leb w 2 (omega (arith, leb-true (suc w) 3 r.1)))

    up : between 1 2 w ≡ true → between 2 3 (suc w) ≡ true
    up h =
        let r = and_both (leb 1 w) (leb w 2) h in
        and_is _ _ (le-leb 2 (suc w) (omega (arith, leb-true 1 w r.0)))
        (le-leb (suc w) 3 (omega (arith, leb-true w 2 r.1)))

suc_two : (w : ℕ) → eqb (suc w) 2 ≡ eqb w 1
suc_two w =
    bool_iff (eqb (suc w) 2) (eqb w 1) (λ h. eq-eqb w 1 (omega (arith, eqb-true (suc w) 2 h)))
    (λ h. eq-eqb (suc w) 2 (omega (arith, eqb-true w 1 h)))

-- Before any byte all fits.
pub fits_start : fits [] none ≡ true
unfolding fits fits_last fits_opens
fits_start = refl

-- a name within a bracket
pub fits_name : (s : List Open) (x : List ℕ) → inside s ≡ true → fits s (some (name x)) ≡ fits s none
unfolding fits fits_last inside binary
fits_name [] x h = absurd (never h refl)
fits_name (o ∷ s) x h = refl

-- a bracket opens
pub fits_opening : (s : List Open) → fits (none ∷ s) none ≡ fits s none
unfolding fits fits_last fits_opens fits_open
fits_opening s = refl

-- a part, behind which another is to come
pub fits_comma :
    (o : Open) (s : List Open) (d : Drawing)
    → fits (some (with_part o d) ∷ s) none ≡ (ltb (open_ways o) (most_before s) && fits (o ∷ s) (some d))
unfolding fits fits_last fits_opens fits_open open_ways with_part ways binary_parts
fits_comma none s d = rw (suc_leb 0 (most_before s)) (regroup_first (ltb 0 (most_before s)) (binary d) (fits_opens s))
fits_comma (some p) s d =
    rw (suc_leb (ways p) (most_before s))
    (regroup (ltb (ways p) (most_before s)) (leb (ways p) (most_before s)) (binary_parts p) (binary d) (fits_opens s)
    (λ h. le-leb (ways p) (most_before s) (omega (arith, ltb-true (ways p) (most_before s) h))))

-- the last part
pub fits_closing :
    (o : Open) (s : List Open) (d : Drawing)
    → fits s (some (bracket (with_part o d))) ≡ (may_close s (open_ways o) && fits (o ∷ s) (some d))
unfolding fits fits_last fits_opens fits_open open_ways with_part ways binary_parts may_close
    binary_top binary most_before
fits_closing none [] d = refl
fits_closing none (q ∷ s) d = refl
fits_closing (some p) [] d =
    rw (suc_between (ways p))
    (regroup (between 1 2 (ways p)) (leb (ways p) 2) (binary_parts p) (binary d) true
    (λ h. (and_both (leb 1 (ways p)) (leb (ways p) 2) h).1))
fits_closing (some p) (q ∷ s) d =
    rw (suc_two (ways p))
    (regroup (eqb (ways p) 1) (leb (ways p) 1) (binary_parts p) (binary d) (fits_opens (q ∷ s))
    (λ h. le-leb (ways p) 1 (omega (arith, eqb-true (ways p) 1 h))))

-- the end
pub fits_end : (d : Drawing) → fits [] (some d) ≡ binary_top d
unfolding fits fits_last fits_opens
fits_end d = and-true (binary_top d)

-- The tests by depth.
pub most_by_depth : (s : List Open) → most_before s ≡ cond (eqb (length s) 0) 2 1
unfolding most_before
most_by_depth [] = refl
most_by_depth (o ∷ s) = rw (ne_eqb (suc (length s)) 0 (λ e. omega arith))

pub close_by_depth : (s : List Open) (c : ℕ) → may_close s c ≡ cond (eqb (length s) 0) (between 1 2 c) (eqb c 1)
unfolding may_close
close_by_depth [] c = refl
close_by_depth (o ∷ s) c = rw (ne_eqb (suc (length s)) 0 (λ e. omega arith))

-- a part more
pub ways_with_part : (o : Open) (d : Drawing) → ways (with_part o d) ≡ open_ways o + 1
unfolding open_ways with_part ways
ways_with_part none d = refl
ways_with_part (some p) d = omega arith
