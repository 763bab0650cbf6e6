-- What is kept back for the first three leaves of a quartet: it stays small, and a record adds its shares to it, or, as
-- the last one with these three, has it given to their cells.
use mathlib.Core.Path.{◌≡◌, refl}
use mathlib.Core.List.{List}
use Prim.Native.Nat.{ℕ, ◌+◌, ◌-◌, ◌*◌, ◌/◌, ◌%◌, ◌≤◌, ◌<◌}
use native.Mathlib.Omega.{arith}
use borrow.Author.Tests.{lt-ltb}
use Rattle.limits.specs.declared.Kind.TheVariants.{Poll}
use Rattle.limits.specs.Limits.{most_polled, scale_of}
use Rattle.poll_rules.specs.declared.Quartet.{Quartet}
use Rattle.poll_rules.specs.Records.{four}
use Rattle.poll_rules.specs.Counts.{share, adds}
use Rattle.poll_rules.specs.inner.Quartets.{record_of, Leaves, next_of}
use Rattle.poll_rules.proofs.Counts.{shares_le}
use Rattle.poll_records.specs.declared.Due.{Due}
use Rattle.poll_records.specs.inner.Due.{packed, fresh}
use Rattle.poll_sums.specs.inner.Sums.{together, with_fourth, of_three, EachAtMost}
use Rattle.poll_sums.specs.inner.Sums.{Ready, most_given, Grown, Added}
use Rattle.poll_sums.proofs.Sums.{whole, parts_together, parts_add, dealt_none, dealt_add, adds_dealt}

-- what is ready for a quartet with new first leaves
pub fresh_ready : (n : ℕ) (q : Quartet) → Ready n (fresh n q)
fresh_ready n q = record {
  leaves = refl;
  first = refl;
  second = refl;
  third = refl;
  kept = (omega arith, omega arith, omega arith);
  ended = λ h. refl;
}

each_le : (m w : ℕ) → EachAtMost m w → w ≤ together m m m
each_le m w h = omega (arith, whole w, h)

-- A quartet due, with what is ready for it, and the shares w of its record.
module _ (n : ℕ) (due : Due) (l : Leaves n due.quartet.a due.quartet.b due.quartet.c due.quartet.d)
    (y : Ready n due) (few : n ≤ most_polled) (code w : ℕ)
    (e : w ≡ together (share code 0) (share code 1) (share code 2)) where
  abbrev q : Quartet
  q = due.quartet

  -- the most that is kept back for a pairing
  abbrev most : ℕ
  most = scale_of Poll * (q.d - (q.c + 1))

  most_small : most ≤ scale_of Poll * most_polled
  most_small = omega (arith, l.dn)

  shares_each : EachAtMost (scale_of Poll) w
  shares_each =
      let le = shares_le code in
      let p = parts_together (share code 0) (share code 1) (share code 2) w (omega arith) (omega arith) e in
      (omega (arith, p.0, le), omega (arith, p.1, le), omega (arith, p.2, le))

  -- all that is dealt after the record, at most
  pub given_small : w + (due.kept + w) < most_given
  given_small =
      omega (arith, each_le (scale_of Poll) w shares_each, each_le most due.kept y.kept, most_small)

  low_fits : due.kept % 1024 + w % 1024 < 1024
  low_fits = omega (arith, y.kept.0, shares_each.0, most_small)

  middle_fits : due.kept / 1024 % 1024 + w / 1024 % 1024 < 1024
  middle_fits = omega (arith, y.kept.1, shares_each.1, most_small)

  -- the same three leaves go on: the shares are kept back too
  abbrev on : Due
  on = record {
    quartet = four q.a q.b q.c (q.d + 1);
    leaves = due.leaves + 16777216;
    first = due.first;
    second = due.second;
    third = due.third;
    kept = due.kept + w;
  }

  pub on_ready : q.d + 1 < n → Ready n on
  on_ready h =
      let p = parts_add due.kept w low_fits middle_fits in
      let more : scale_of Poll * (q.d + 1 - (q.c + 1)) ≡ most + scale_of Poll = omega (arith, l.cd) in
      record {
        leaves = unfold packed in omega (arith, y.leaves);
        first = y.first;
        second = y.second;
        third = y.third;
        kept = rw more (
          omega (arith, p.0, y.kept.0, shares_each.0),
          omega (arith, p.1, y.kept.1, shares_each.1),
          omega (arith, p.2, y.kept.2, shares_each.2),
        );
        ended = λ g. absurd (omega arith);
      }

  pub on_next : q.d + 1 < n → on.quartet ≡ next_of n q
  unfolding next_of
  on_next h = rw (lt-ltb (q.d + 1) n h)

  both :
      (i j : ℕ) → of_three q (due.kept + w) i j ≡ of_three q due.kept i j + of_three q w i j
  both i j = dealt_add _ _ _ _ _ _ due.kept w i j low_fits middle_fits

  -- in either case the sums have grown by what the record adds, but for what is kept back
  module _ (t u : List ℕ) (g : Grown n (with_fourth q w) t u) where
    pub on_added : Added n due on (adds (record_of q code)) t u
    on_added i j hi hj = omega (arith, g i j hi hj, both i j, adds_dealt n q code w l e i j)

    pub end_added :
        (q' : Quartet) (v : List ℕ) → Grown n (of_three q (due.kept + w)) u v
        → Added n due (fresh n q') (adds (record_of q code)) t v
    end_added q' v f i j hi hj =
        omega (
          arith,
          g i j hi hj,
          f i j hi hj,
          both i j,
          adds_dealt n q code w l e i j,
          dealt_none q'.a q'.b q'.a q'.c q'.b q'.c i j,
        )
