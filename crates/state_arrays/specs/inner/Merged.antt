-- What a merge of the subtrees labelled a and b makes of a rebuild's arrays: the leaves of both get the label a.
use Rattle.std.specs.Prelude.{◌≡◌, cond, List, ℕ, ◌+◌, ◌≤◌, ◌<◌, eqb, length, get_or, set}
use Rattle.base.specs.Lists.{filled}
use Rattle.limits.specs.Limits.{most_leaves}
use Rattle.state_arrays.specs.inner.Fits.{SmallSums}

-- the label l afterwards
unfoldable pub relabelled : ℕ → ℕ → ℕ → ℕ
relabelled l a b = cond (eqb l b) a l

-- what m of a leaf labelled l grows by: pb in a, pa in b
unfoldable pub growth : ℕ → ℕ → ℕ → ℕ → ℕ → ℕ
growth l a b pa pb = cond (eqb l a) pb (cond (eqb l b) pa 0)

-- leaf k afterwards: its label, and its m
unfoldable pub label_at : List ℕ → ℕ → ℕ → ℕ → ℕ
label_at label a b k = relabelled (get_or label k 0) a b

unfoldable pub m_at : List ℕ → List ℕ → ℕ → ℕ → ℕ → ℕ → ℕ → ℕ
m_at label m a b pa pb k = get_or m k 0 + growth (get_or label k 0) a b pa pb

-- the labels and the m of n leaves afterwards
pub record Gathered (n : ℕ) (label m label' m' : List ℕ) (a b pa pb : ℕ) : Type 0 where
  pub labels : label' ≡ filled n (label_at label a b) label
  pub sums : m' ≡ filled n (m_at label m a b pa pb) m

-- two labels, whose subtrees are to be merged
pub record MergeReady (n : ℕ) (label m sizes p : List ℕ) (a b : ℕ) : Type 0 where
  pub few : n ≤ most_leaves
  pub label_long : length label ≡ most_leaves
  pub m_long : length m ≡ most_leaves
  pub small : SmallSums n m
  pub small_counts : SmallSums (n + 1) p
  pub first : a < n
  pub second : b < n
  pub room : get_or sizes a 0 + get_or sizes b 0 ≤ n

-- all arrays afterwards
pub record Merged (n : ℕ) (label m sizes p label' m' sizes' : List ℕ) (a b : ℕ) : Type 0 where
  pub gathered : Gathered n label m label' m' a b (get_or p (get_or sizes a 0) 0) (get_or p (get_or sizes b 0) 0)
  pub summed : sizes' ≡ set sizes a (get_or sizes a 0 + get_or sizes b 0)
