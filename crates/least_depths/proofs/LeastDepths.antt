-- The least depth between two places, one place more at either end; and the leaf at each place keeps its own.
use mathlib.Core.Path.{◌≡◌, ◌∙◌}
use mathlib.Core.Logic.{◌⊎◌, inl, inr, ◌≢◌}
use mathlib.Core.List.{List}
use Prim.Native.Nat.{ℕ, ◌+◌, ◌-◌, ◌≤◌, ◌<◌}
use native.Mathlib.Omega.{arith}
use native.Mathlib.Decide.{ℕ_discrete}
use lib.ListN.{length, set, length-set}
use lib.Seq.{get_or-set_same, get_or-set_other}
use Rattle.limits.specs.Limits.{most_leaves}
use Rattle.leaf_orders.specs.inner.LeafOrders.{most_depth, at, LeastBetween}
use Rattle.least_depths.specs.inner.Depths.{After, Before, OwnLeaves, LeastDepths, TopsFrom, RowFound}

-- between a place and itself there is no depth
pub shallowest_none : (depths : List ℕ) (p : ℕ) → LeastBetween depths p p most_depth
shallowest_none depths p = record { bound = λ t a b. absurd (omega arith); greatest = λ z l h. l }

-- one depth more, at t
pub shallowest_more :
    {depths : List ℕ} {lo hi m t r : ℕ} → LeastBetween depths lo hi m → r ≤ m → r ≤ at depths t
    → ((z : ℕ) → z ≤ m → z ≤ at depths t → z ≤ r) → (lo' hi' : ℕ) → lo' < t → t ≤ hi'
    → ((s : ℕ) → lo < s → s ≤ hi → (lo' < s) × (s ≤ hi'))
    → ((s : ℕ) → lo' < s → s ≤ hi' → ((lo < s) × (s ≤ hi)) ⊎ (s ≡ t)) → LeastBetween depths lo' hi' r
shallowest_more {depths} {t = t} {r} h down here greatest lo' hi' a b in_it of_it = record {
  bound = λ s p q. elim (of_it s p q) [
    | inl old ↦ omega (arith, h.bound s old.0 old.1)
    | inr e ↦ rw e here
  ];
  greatest = λ z l g.
      greatest z (h.greatest z l (λ s p q. g s (in_it s p q).0 (in_it s p q).1)) (g t a b);
}

-- the leaf at a place has what was stored for it, and those at other places keep theirs
module _ {n : ℕ} {order : List ℕ} (o : OwnLeaves n order) (tops : List ℕ) (v s : ℕ) (ls : s < n) where
  pub top_here : length tops ≡ most_leaves → at (set tops (at order s) v) (at order s) ≡ v
  top_here long = get_or-set_same tops (at order s) v 0 (omega (arith, o.below s ls, o.few))

  pub top_other : (t : ℕ) → t < n → t ≢ s → at (set tops (at order s) v) (at order t) ≡ at tops (at order t)
  top_other t lt d = get_or-set_other tops (at order s) (at order t) v 0 (λ e. d (o.once t s lt ls e))

-- one place more, after p and before it; `tops'` has r stored for the leaf there
module _ (n : ℕ) (order depths tops tops' : List ℕ) (p t low r : ℕ) (o : OwnLeaves n order)
    (long : length tops ≡ most_leaves) (down : r ≤ low) (here : r ≤ at depths t)
    (greatest : (z : ℕ) → z ≤ low → z ≤ at depths t → z ≤ r) where
  pub after_more :
      p < t → t < n → LeastBetween depths p (t - 1) low → After order depths p tops t → tops' ≡ set tops (at order t) r
      → (length tops' ≡ most_leaves) × LeastBetween depths p (t + 1 - 1) r × After order depths p tops' (t + 1)
      × ((s : ℕ) → s < n → s ≢ t → at tops' (at order s) ≡ at tops (at order s))
  after_more lp ln h old e =
      let next : t + 1 - 1 ≡ t = omega arith in
      rw (next, e) (
        length-set tops (at order t) r ∙ long,
        new,
        λ s a b. elim (ℕ_discrete s t) [
          | yes q ↦ rw (q, top_here o tops r t ln long) new
          | no q ↦ rw (top_other o tops r t ln s (omega arith) q) (old s a (omega arith))
        ],
        top_other o tops r t ln,
      )
    where
      new : LeastBetween depths p t r
      new =
          shallowest_more h down here greatest p t lp (omega arith) (λ s a b. (a, omega arith)) (λ s a b.
          elim (ℕ_discrete s t) [ yes q ↦ inr q | no q ↦ inl (a, omega arith) ])

  pub before_more :
      0 < t → t ≤ p → p < n → LeastBetween depths t p low → Before order depths p tops t
      → tops' ≡ set tops (at order (t - 1)) r
      → (length tops' ≡ most_leaves) × LeastBetween depths (t - 1) p r × Before order depths p tops' (t - 1)
      × ((s : ℕ) → s < n → s ≢ t - 1 → at tops' (at order s) ≡ at tops (at order s))
  before_more lt lp ln h old e = rw e (
    length-set tops (at order (t - 1)) r ∙ long,
    new,
    λ s a b. elim (ℕ_discrete s (t - 1)) [
      | yes q ↦ rw (q, top_here o tops r (t - 1) (omega arith) long) new
      | no q ↦ rw (top_other o tops r (t - 1) (omega arith) s (omega arith) q) (old s (omega arith) b)
    ],
    top_other o tops r (t - 1) (omega arith),
  )
    where
      new : LeastBetween depths (t - 1) p r
      new =
          shallowest_more h down here greatest (t - 1) p (omega arith) lp (λ s a b. (omega arith, b)) (λ s a b.
          elim (ℕ_discrete s t) [ yes q ↦ inr q | no q ↦ inl (omega arith, b) ])

-- From place p − 1 to place p: where some depth t between is no larger than that before p, the least stays the least.
module _ {depths : List ℕ} {p t s m : ℕ} (less : at depths t ≤ at depths p) where
  pub after_still : 0 < p → p < t → t ≤ s → LeastBetween depths (p - 1) s m → LeastBetween depths p s m
  after_still some l u h = record {
    bound = λ v a b. h.bound v (omega arith) b;
    greatest = λ z c g. h.greatest z c (λ v a b. elim (ℕ_discrete v p) [
      | yes e ↦ rw e (omega (arith, g t l u))
      | no d ↦ g v (omega arith) b
    ]);
  }

  pub before_still : s < t → t < p → LeastBetween depths s (p - 1) m → LeastBetween depths s p m
  before_still l u h = record {
    bound = λ v a b. elim (ℕ_discrete v p) [
      | yes e ↦ rw e (omega (arith, h.bound t l (omega arith)))
      | no d ↦ h.bound v a (omega arith)
    ];
    greatest = λ z c g. h.greatest z c (λ v a b. g v a (omega arith));
  }

-- the leaf at p keeps its own number at last
pub topped :
    {n : ℕ} {order depths tops : List ℕ} {p own : ℕ} (tops₁ tops₂ : List ℕ) → OwnLeaves n order → p < n
    → length tops₂ ≡ most_leaves → After order depths p tops₁ n → Before order depths p tops₂ 0
    → ((s : ℕ) → p < s → s < n → at tops₂ (at order s) ≡ at tops₁ (at order s)) → tops ≡ set tops₂ (at order p) own
    → LeastDepths n order depths p own tops
topped {order = order} {p = p} {own = own} tops₁ tops₂ o lp long after before kept e = rw e (record {
  long = length-set tops₂ (at order p) own ∙ long;
  here = top_here o tops₂ own p lp long;
  after = λ s a b. rw (top_other o tops₂ own p lp s b (omega arith) ∙ kept s a b) (after s a b);
  before = λ s a. rw (top_other o tops₂ own p lp s (omega arith) (omega arith)) (before s (omega arith) a);
})

-- by the least depths from its place the row of a leaf is found
pub row_found :
    {n : ℕ} {aboves leaves depths tops : List ℕ} {p base : ℕ} → p < n → base ≡ at aboves (at leaves p)
    → TopsFrom n aboves leaves depths p tops → RowFound n p base aboves leaves depths tops
row_found lp e t = record {
  place = lp;
  above = e;
  long = t.long;
  here = rw e t.here;
  after = t.after;
  before = λ s z a. t.before s a;
}
