-- Renumbering in order: leaves that stay keep their order, so their new numbers differ, and every number below the
-- count of those that stay is the new number of one.
use mathlib.Core.Path.{◌≡◌, refl, ap}
use mathlib.Core.Logic.{inl, inr}
use mathlib.Core.Bool.{true}
use Prim.Native.Nat.{ℕ, zero, suc, ◌+◌, ◌≤◌, ◌<◌}
use native.Mathlib.Omega.{arith}
use native.Mathlib.Decide.{dec_lt, ℕ_discrete}
use Rattle.base.specs.Numbers.{indicator, count_below}
use Rattle.base.proofs.Bools.{bool?}
use Rattle.base.proofs.Counts.{count_le, count_ext}
use Rattle.trees.specs.Trees.{LeafSet}
use Rattle.spanned_trees.specs.Spans.{Stays, rank}

module _ (v : LeafSet) where
  pub rank_zero : rank v 0 ≡ 0
  unfolding rank count_below
  rank_zero = refl

  pub rank_suc : (k : ℕ) → rank v (suc k) ≡ rank v k + indicator (v k) 1
  unfolding rank count_below
  rank_suc k = refl

  pub rank_most : (k : ℕ) → rank v k ≤ k
  unfolding rank
  rank_most k = count_le k v

  pub rank_same : (w : LeafSet) (k : ℕ) → ((j : ℕ) → j < k → v j ≡ w j) → rank v k ≡ rank w k
  unfolding rank
  rank_same w k e = count_ext k v w e

  pub rank_less : (j k : ℕ) → j < k → v j ≡ true → rank v j < rank v k
  rank_less j zero l t = absurd (omega arith)
  rank_less j (suc k) l t = elim (ℕ_discrete j k) [
    | yes e ↦ (let tk : v k ≡ true = rw e at t in omega (arith, rw tk at (rank_suc k), ap (rank v) e))
    | no d ↦ omega (arith, rank_less j k (omega arith) t, rank_suc k)
  ]

  pub rank_one : (j k : ℕ) → v j ≡ true → v k ≡ true → rank v j ≡ rank v k → j ≡ k
  rank_one j k tj tk e = elim (dec_lt j k) [
    | yes l ↦ absurd (omega (arith, rank_less j k l tj))
    | no g ↦ elim (dec_lt k j) [ yes l ↦ absurd (omega (arith, rank_less k j l tk)) | no g' ↦ omega arith ]
  ]

  -- the leaf whose new number is m
  pub rank_onto : (n m : ℕ) → m < rank v n → (k : ℕ) × Stays n v k × (rank v k ≡ m)
  rank_onto zero m l = absurd (omega (arith, rank_zero))
  rank_onto (suc n) m l = elim (dec_lt m (rank v n)) [
    | yes l' ↦ (let r = rank_onto n m l' in (r.0, (omega (arith, r.1.0), r.1.1), r.2))
    | no g ↦ elim (bool? (v n)) [
      | inl t ↦ (n, (omega arith, t), omega (arith, rw t at (rank_suc n)))
      | inr f ↦ absurd (omega (arith, rw f at (rank_suc n)))
    ]
  ]
