-- The four leaves of a record, compared in one number: leaves are small, so that the number tells them.
use mathlib.Core.Path.{◌≡◌}
use mathlib.Core.Bool.{true, false}
use Prim.Native.Nat.{ℕ, ◌+◌, ◌*◌, ◌≤◌, ◌<◌}
use native.Mathlib.Omega.{arith}
use borrow.Author.Tests.{eqb-true, eq-eqb}
use lib.Dec.{eqb}
use Rattle.base.proofs.Bools.{is_false, and_both, and_is}
use Rattle.limits.specs.Limits.{most_polled}
use Rattle.poll_rules.specs.declared.Record.{Record}
use Rattle.poll_rules.specs.declared.Quartet.{Quartet}
use Rattle.poll_rules.specs.Records.{four, is_of}
use Rattle.poll_rules.specs.inner.Quartets.{Leaves, next_of}
use Rattle.poll_rules.proofs.Quartets.{next_by}
use Rattle.poll_records.specs.inner.Due.{packed, Polled}

-- the leaves of a quartet that is due, or of the one after it
pub leaves_polled : (n : ℕ) (q : Quartet) → n ≤ most_polled → Leaves n q.a q.b q.c q.d → Polled q
leaves_polled n q h l =
    let ab = l.ab in
    let bc = l.bc in
    let cd = l.cd in
    let dn = l.dn in
    (omega arith, omega arith, omega arith, omega arith)

pub next_polled :
    (n : ℕ) (q : Quartet) → n ≤ most_polled → Leaves n q.a q.b q.c q.d → Polled (next_of n q)
next_polled n q h l =
    let ab = l.ab in
    let bc = l.bc in
    let cd = l.cd in
    let dn = l.dn in
    next_by n q Polled
    (λ g. (omega arith, omega arith, omega arith, omega arith))
    (λ hd g. (omega arith, omega arith, omega arith, omega arith))
    (λ hd hc g. (omega arith, omega arith, omega arith, omega arith))
    (λ hd hc hb. (omega arith, omega arith, omega arith, omega arith))

-- The four leaves of a record in one number.
module _ (q : Quartet) (r : Record) (h : Polled q) (b : (r.a < 256) × (r.b < 256) × (r.c < 256) × (r.d < 256)) where
  abbrev of_record : ℕ
  of_record = packed (four r.a r.b r.c r.d)

  pub same_leaves : of_record ≡ packed q → is_of q r ≡ true
  unfolding packed is_of
  same_leaves e =
      and_is (eqb r.a q.a) _ (eq-eqb r.a q.a (omega (arith, h, b, e)))
      (and_is (eqb r.b q.b) _ (eq-eqb r.b q.b (omega (arith, h, b, e)))
      (and_is (eqb r.c q.c) _ (eq-eqb r.c q.c (omega (arith, h, b, e))) (eq-eqb r.d q.d (omega (arith, h, b, e)))))

  pub other_leaves : (of_record ≡ packed q → ⊥) → is_of q r ≡ false
  unfolding packed is_of
  other_leaves n = is_false _ (λ t.
      let t₁ = and_both (eqb r.a q.a) _ t in
      let t₂ = and_both (eqb r.b q.b) _ t₁.1 in
      let t₃ = and_both (eqb r.c q.c) _ t₂.1 in
      n (omega (
        arith,
        eqb-true r.a q.a t₁.0,
        eqb-true r.b q.b t₂.0,
        eqb-true r.c q.c t₃.0,
        eqb-true r.d q.d t₃.1,
      )))
