-- Lists gathered of numbers that pass a test: one number taken out, and the ranks of the leaves that stay.
use mathlib.Core.Path.{◌≡◌, refl}
use mathlib.Core.Logic.{inl, inr, ◌≢◌}
use mathlib.Core.Bool.{Bool, true, false, not, cond, ◌&&◌, and-true, and-false}
use mathlib.Core.List.{List, [], ◌∷◌}
use Prim.Native.Nat.{ℕ, zero, suc, ◌+◌, ◌<◌}
use native.Mathlib.Omega.{arith}
use native.Mathlib.Decide.{dec_lt, ℕ_discrete}
use borrow.Author.Tests.{ne_eqb, lt-ltb, le-ltb}
use lib.Dec.{ltb, eqb}
use Rattle.base.specs.Numbers.{indicator}
use Rattle.base.proofs.Bools.{bool?, and_both, eqb_same}
use Rattle.trees.specs.Trees.{LeafSet}
use Rattle.spanned_trees.specs.Spans.{rank}
use Rattle.spanned_trees.proofs.Ranks.{rank_zero, rank_suc}
use Rattle.rerooted_rows.specs.inner.Joining.{copies}

-- the f j of each j below k that passes
unfoldable pub gather : ℕ → (ℕ → Bool) → (ℕ → ℕ) → List ℕ
gather zero h f = []
gather (suc k) h f = cond (h k) (f k ∷ gather k h f) (gather k h f)

-- the same test, which a does not pass
unfoldable pub but : ℕ → (ℕ → Bool) → ℕ → Bool
but a h j = h j && not (eqb j a)

pub but_in : (a : ℕ) (h : ℕ → Bool) (j : ℕ) → but a h j ≡ true → h j ≡ true
unfolding but
but_in a h j t = (and_both (h j) (not (eqb j a)) t).0

pub but_same : (a : ℕ) (h : ℕ → Bool) → but a h a ≡ false
unfolding but
but_same a h = rw (eqb_same a) (and-false (h a))

pub but_other : (a : ℕ) (h : ℕ → Bool) (j : ℕ) → j ≢ a → but a h j ≡ h j
unfolding but
but_other a h j d = rw (ne_eqb j a d) (and-true (h j))

pub gather_ext :
    (k : ℕ) (h h' : ℕ → Bool) (f f' : ℕ → ℕ) → ((j : ℕ) → j < k → h j ≡ h' j)
    → ((j : ℕ) → j < k → h j ≡ true → f j ≡ f' j) → gather k h f ≡ gather k h' f'
unfolding gather
gather_ext zero h h' f f' a b = refl
gather_ext (suc k) h h' f f' a b =
    rw (← a k (omega arith), gather_ext k h h' f f' (λ j l. a j (omega arith)) (λ j l. b j (omega arith)))
    (elim (bool? (h k)) [ inl t ↦ rw (t, b k (omega arith) t) | inr g ↦ rw g ])

pub gather_none : (k : ℕ) (h : ℕ → Bool) (f : ℕ → ℕ) → ((j : ℕ) → j < k → h j ≡ false) → gather k h f ≡ []
unfolding gather
gather_none zero h f a = refl
gather_none (suc k) h f a = rw (a k (omega arith)) (gather_none k h f (λ j l. a j (omega arith)))

-- a number put before others, if a test passes
pub copies_cond :
    (x y : ℕ) (b : Bool) (l : List ℕ) → copies x (cond b (y ∷ l) l) ≡ indicator b (indicator (eqb x y) 1) + copies x l
unfolding copies
copies_cond x y true l = refl
copies_cond x y false l = omega arith

copies_suc :
    (k : ℕ) (h : ℕ → Bool) (f : ℕ → ℕ) (x : ℕ)
    → copies x (gather (suc k) h f) ≡ indicator (h k) (indicator (eqb x (f k)) 1) + copies x (gather k h f)
unfolding gather
copies_suc k h f x = copies_cond x (f k) (h k) (gather k h f)

-- one number taken out
pub gather_but :
    (k : ℕ) (h : ℕ → Bool) (f : ℕ → ℕ) (a x : ℕ) → a < k
    → copies x (gather k h f) ≡ indicator (h a) (indicator (eqb x (f a)) 1) + copies x (gather k (but a h) f)
gather_but zero h f a x l = absurd (omega arith)
gather_but (suc k) h f a x l = rw (copies_suc k h f x, copies_suc k (but a h) f x) (elim (ℕ_discrete k a) [
  | yes e ↦
      let same = gather_ext k (but k h) h f f (λ j lj. but_other k h j (omega arith)) (λ j lj t. refl) in
      rw (← e, but_same k h, same) (omega arith)
  | no d ↦ rw (but_other a h k d) (omega (arith, gather_but k h f a x (omega arith)))
])

-- what is gathered stands there
pub gather_in :
    (k : ℕ) (h : ℕ → Bool) (f : ℕ → ℕ) (a : ℕ) → a < k → h a ≡ true → 0 < copies (f a) (gather k h f)
gather_in k h f a l t = rw (gather_but k h f a (f a) l, t, eqb_same (f a)) (omega arith)

-- the ranks of the leaves that stay are the numbers below their count, each once
pub gather_ranks : (v : LeafSet) (k x : ℕ) → copies x (gather k v (rank v)) ≡ indicator (ltb x (rank v k)) 1
gather_ranks v zero x = rw (rank_zero v, le-ltb x 0 (omega arith)) (unfold gather copies in refl)
gather_ranks v (suc k) x =
    rw (copies_suc k v (rank v) x, gather_ranks v k x, rank_suc v k) (elim (bool? (v k)) [
      | inl t ↦ rw t (one_more x (rank v k))
      | inr f ↦ rw f (more_none x (rank v k))
    ])
  where
    one_more : (x y : ℕ) → indicator (eqb x y) 1 + indicator (ltb x y) 1 ≡ indicator (ltb x (y + 1)) 1
    one_more x y = elim (ℕ_discrete x y) [
      | yes e ↦ rw (e, eqb_same y, le-ltb y y (omega arith), lt-ltb y (y + 1) (omega arith))
      | no d ↦ rw (ne_eqb x y d) (elim (dec_lt x y) [
        | yes l ↦ rw (lt-ltb x y l, lt-ltb x (y + 1) (omega arith))
        | no g ↦ rw (le-ltb x y (omega arith), le-ltb x (y + 1) (omega arith))
      ])
    ]

    more_none : (x y : ℕ) → 0 + indicator (ltb x y) 1 ≡ indicator (ltb x (y + 0)) 1
    more_none x y = let e : y + 0 ≡ y = omega arith in rw e (omega arith)
