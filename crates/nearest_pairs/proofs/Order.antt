-- Which of two pairs is taken first, by their means and, of equal means, in row order: that is transitive, and so is
-- its contrary. So the pair that is taken first of some is found by comparing each with the best so far.
use mathlib.Core.Path.{◌≡◌}
use mathlib.Core.Logic.{◌⊎◌, inl, inr}
use mathlib.Core.Bool.{Bool, true, false, not, ◌&&◌, ◌||◌}
use Prim.Native.Nat.{ℕ, ◌<◌}
use native.Mathlib.Omega.{arith}
use native.Mathlib.Decide.{dec_lt}
use borrow.Author.Tests.{ltb-true, eqb-true, lt-ltb, eq-eqb, not-true}
use lib.Dec.{ltb, eqb}
use Rattle.base.specs.Numbers.{Fraction, less}
use Rattle.base.proofs.Bools.{never, is_false, or_left, or_right, or_cases, or_neither, and_both, and_is}
use Rattle.base.proofs.Fractions.{less_irr, less_trans, less_mid, less_low}
use Rattle.nearest_pairs.specs.inner.Nearest.{in_order}

-- Row order, as a statement and back.
abbrev pub Before : ℕ × ℕ → ℕ × ℕ → Type 0
Before p q = (p.0 < q.0) ⊎ ((p.0 ≡ q.0) × (p.1 < q.1))

order_is : (p q : ℕ × ℕ) → in_order p q ≡ true → Before p q
unfolding in_order
order_is p q h = elim (or_cases (ltb p.0 q.0) (eqb p.0 q.0 && ltb p.1 q.1) h) [
  | inl l ↦ inl (ltb-true p.0 q.0 l)
  | inr r ↦
      let b = and_both (eqb p.0 q.0) (ltb p.1 q.1) r in
      inr (eqb-true p.0 q.0 b.0, ltb-true p.1 q.1 b.1)
]

pub is_order : (p q : ℕ × ℕ) → Before p q → in_order p q ≡ true
unfolding in_order
is_order p q (inl l) = or_left (ltb p.0 q.0) _ (lt-ltb p.0 q.0 l)
is_order p q (inr r) =
    or_right (ltb p.0 q.0) _ (and_is _ _ (eq-eqb p.0 q.0 r.0) (lt-ltb p.1 q.1 r.1))

before_trans : (p q r : ℕ × ℕ) → Before p q → Before q r → Before p r
before_trans p q r (inl l) (inl m) = inl (omega arith)
before_trans p q r (inl l) (inr m) = inl (omega (arith, m.0))
before_trans p q r (inr l) (inl m) = inl (omega (arith, l.0))
before_trans p q r (inr l) (inr m) = inr (omega (arith, l.0, m.0), omega (arith, l.1, m.1))

-- a pair between two that are in order comes behind the first or before the second
before_split : (p q r : ℕ × ℕ) → Before p r → (Before p q) ⊎ (Before q r)
before_split p q r (inl l) = elim (dec_lt p.0 q.0) [
  | yes m ↦ inl (inl m)
  | no g ↦ inr (inl (omega arith))
]
before_split p q r (inr l) = elim (dec_lt p.0 q.0) [
  | yes m ↦ inl (inl m)
  | no g ↦ elim (dec_lt q.0 p.0) [
    | yes m ↦ inr (inl (omega (arith, l.0)))
    | no f ↦ elim (dec_lt p.1 q.1) [
      | yes m ↦ inl (inr (omega arith, m))
      | no e ↦ inr (inr (omega (arith, l.0), omega (arith, l.1)))
    ]
  ]
]

-- The mean of a pair is f of it; its number of cells is not 0.
module _ (f : ℕ × ℕ → Fraction) where
  -- p is taken before q
  abbrev pub sooner : ℕ × ℕ → ℕ × ℕ → Bool
  sooner p q = less (f p) (f q) || (not (less (f q) (f p)) && in_order p q)

  pub sooner_cases :
      (p q : ℕ × ℕ) → sooner p q ≡ true
      → (less (f p) (f q) ≡ true) ⊎ ((less (f q) (f p) ≡ false) × (in_order p q ≡ true))
  sooner_cases p q h = elim (or_cases (less (f p) (f q)) (not (less (f q) (f p)) && in_order p q) h) [
    | inl l ↦ inl l
    | inr r ↦
        let b = and_both (not (less (f q) (f p))) (in_order p q) r in
        inr (not-true (less (f q) (f p)) b.0, b.1)
  ]

  pub sooner_less : (p q : ℕ × ℕ) → less (f p) (f q) ≡ true → sooner p q ≡ true
  sooner_less p q h = or_left (less (f p) (f q)) _ h

  pub sooner_tie : (p q : ℕ × ℕ) → less (f q) (f p) ≡ false → in_order p q ≡ true → sooner p q ≡ true
  sooner_tie p q h o = or_right (less (f p) (f q)) _ (and_is (not (less (f q) (f p))) (in_order p q) (rw h) o)

  -- what is not taken before has no smaller mean, and of equal means does not come before
  pub not_sooner :
      (p q : ℕ × ℕ) → sooner p q ≡ false
      → (less (f p) (f q) ≡ false) × (less (f q) (f p) ≡ false → Before p q → ⊥)
  not_sooner p q h = (
    (or_neither (less (f p) (f q)) (not (less (f q) (f p)) && in_order p q) h).0,
    λ e b. never (sooner_tie p q e (is_order p q b)) h,
  )

  module _ (p q r : ℕ × ℕ) (zp : 0 < (f p).1) (zq : 0 < (f q).1) (zr : 0 < (f r).1) where
    pub sooner_trans : sooner p q ≡ true → sooner q r ≡ true → sooner p r ≡ true
    sooner_trans h k = elim (sooner_cases p q h) [
      | inl a ↦ elim (sooner_cases q r k) [
        | inl b ↦ sooner_less p r (less_trans (f p) (f q) (f r) zp zq zr a b)
        | inr b ↦ sooner_less p r (less_mid (f p) (f q) (f r) zq zr a b.0)
      ]
      | inr a ↦ elim (sooner_cases q r k) [
        | inl b ↦ sooner_less p r (less_low (f p) (f q) (f r) zq zp b a.0)
        | inr b ↦
            let no_less : less (f r) (f p) ≡ false = is_false (less (f r) (f p)) (λ l.
            never (less_mid (f r) (f p) (f q) zp zq l a.0) b.0) in
            sooner_tie p r no_less
            (is_order p r (before_trans p q r (order_is p q a.1) (order_is q r b.1)))
      ]
    ]

    pub later_trans : sooner p q ≡ false → sooner q r ≡ false → sooner p r ≡ false
    later_trans h k = is_false (sooner p r) (λ t. elim (sooner_cases p r t) [
      | inl a ↦
          never (less_mid (f p) (f r) (f q) zr zq a (not_sooner q r k).0) (not_sooner p q h).0
      | inr a ↦
          let no_qp : less (f q) (f p) ≡ false = is_false (less (f q) (f p)) (λ l.
          never (less_mid (f q) (f p) (f r) zp zr l a.0) (not_sooner q r k).0) in
          let no_rq : less (f r) (f q) ≡ false = is_false (less (f r) (f q)) (λ l.
          never (less_mid (f r) (f q) (f p) zq zp l (not_sooner p q h).0) a.0) in
          elim (before_split p q r (order_is p r a.1)) [
            | inl b ↦ (not_sooner p q h).1 no_qp b
            | inr b ↦ (not_sooner q r k).1 no_rq b
          ]
    ])

  -- a pair is not taken before itself
  pub sooner_irr : (p : ℕ × ℕ) → sooner p p ≡ false
  sooner_irr p = is_false (sooner p p) (λ t. elim (sooner_cases p p t) [
    | inl a ↦ never a (less_irr (f p))
    | inr a ↦ before_irr (order_is p p a.1)
  ])
    where
      before_irr : Before p p → ⊥
      before_irr (inl l) = omega arith
      before_irr (inr l) = omega (arith, l.1)
