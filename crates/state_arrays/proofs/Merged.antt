-- A merge of two subtrees in the arrays: leaf after leaf, labels and m are filled by their rules.
use mathlib.Core.Path.{◌≡◌, refl, sym, ◌∙◌}
use mathlib.Core.Logic.{inl, inr}
use mathlib.Core.List.{List}
use Prim.Native.Nat.{ℕ, ◌+◌, ◌≤◌, ◌<◌}
use native.Mathlib.Omega.{arith}
use lib.Dec.{eqb}
use lib.ListN.{length, get_or, set}
use Rattle.base.proofs.Bools.{bool?}
use Rattle.base.proofs.Filling.{filled_none, filled_more, getD_next}
use Rattle.state_arrays.specs.inner.Fits.{largest_sum}
use Rattle.state_arrays.specs.inner.Merged.{relabelled, growth, label_at, m_at, Gathered, MergeReady}

pub growth_le : (l a b pa pb : ℕ) (z : ℕ) → pa ≤ z → pb ≤ z → growth l a b pa pb ≤ z
unfolding growth
growth_le l a b pa pb z ha hb = elim (bool? (eqb l a)) [
  | inl t ↦ rw t hb
  | inr f ↦ elim (bool? (eqb l b)) [ inl t ↦ rw (f, t) ha | inr g ↦ rw (f, g) (omega arith) ]
]

-- The loop over the leaves: nothing is done yet, leaf x is next, and all are done.
module _ (label m : List ℕ) (a b pa pb : ℕ) where
  pub gather_none : Gathered 0 label m label m a b pa pb
  gather_none = record { labels = sym (filled_none _ label); sums = sym (filled_none _ m) }

  module _ {x : ℕ} {label' m' : List ℕ} (g : Gathered x label m label' m' a b pa pb) where
    -- leaf x is as it was
    pub label_next : x < length label → get_or label' x 0 ≡ get_or label x 0
    label_next h = rw g.labels (getD_next (label_at label a b) label x 0 h)

    pub m_next : x < length m → get_or m' x 0 ≡ get_or m x 0
    m_next h = rw g.sums (getD_next (m_at label m a b pa pb) m x 0 h)

    pub gather_turn :
        (v w : ℕ) → x < length label → x < length m → v ≡ relabelled (get_or label' x 0) a b
        → w ≡ get_or m' x 0 + growth (get_or label' x 0) a b pa pb
        → Gathered (x + 1) label m (set label' x v) (set m' x w) a b pa pb
    gather_turn v w hl hm ev ew = record {
      labels =
          let rule : v ≡ label_at label a b x = ev ∙ rw (label_next hl) (unfold label_at in refl) in
          filled_more (label_at label a b) label g.labels hl rule;
      sums =
          let rule : w ≡ m_at label m a b pa pb x = ew ∙ rw (label_next hl, m_next hm) (unfold m_at in refl) in
          filled_more (m_at label m a b pa pb) m g.sums hm rule;
    }

    pub gather_end : (n : ℕ) → x ≡ n → Gathered n label m label' m' a b pa pb
    gather_end n e = rw e at g

-- The pair counts of the two sizes.
pub pairs_small :
    {n : ℕ} {label m sizes p : List ℕ} {a b : ℕ} → MergeReady n label m sizes p a b
    → (get_or p (get_or sizes a 0) 0 ≤ largest_sum) × (get_or p (get_or sizes b 0) 0 ≤ largest_sum)
pairs_small w = (w.small_counts _ (omega (arith, w.room)), w.small_counts _ (omega (arith, w.room)))
