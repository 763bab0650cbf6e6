-- What the arrays of our own rebuild stand for: a state that merging reaches, and rows for the subtrees in it.
use Rattle.std.specs.Prelude.{◌≡◌, true, false, List, ℕ, ◌+◌, ◌*◌, ◌≤◌, ◌<◌, length, get_or, take}
use Rattle.limits.specs.Limits.{most_leaves}
use Rattle.trees.specs.Trees.{Tree, leaf, leaves, least}
use Rattle.trees.specs.Listings.{subtree_at}
use Rattle.trees.specs.Tables.{cell}
use Rattle.trees.specs.inner.Forests.{unused, uses, lawful}
use Rattle.merging.specs.Merging.{State, start}
use Rattle.merging.specs.MergeLists.{subtrees}
use Rattle.merging.specs.inner.Runs.{Eligible, Runs}
use Rattle.state_arrays.specs.inner.StateArrays.{HoldsState}

-- the rows l have not used the number v, and the subtree T stands under it
abbrev pub UnusedNumber : ℕ → List ℕ → ℕ → Tree → Type 0
UnusedNumber n l v T = (uses (unused n) n l v ≡ true) × (subtree_at n l v ≡ T)

-- r rows are written, one for each merge so far, and they are lawful; each label but 0 has the number of its subtree
pub record Listed (n : ℕ) (label names rows : List ℕ) (r : ℕ) (S : State) : Type 0 where
  pub names_long : length names ≡ most_leaves
  pub rows_long : length rows ≡ 2 * most_leaves
  pub kept : lawful (unused n) n (take (2 * r) rows) ≡ true
  pub named :
      (k : ℕ) → 0 < k → k < n → get_or label k 0 ≡ k → UnusedNumber n (take (2 * r) rows) (get_or names k 0) (S.tree k)
  pub counted : r + subtrees n S ≡ n

-- leaf t's subtree, not leaf 0's, is the current one: leaves below t are single, t is its least leaf, and no two of the
-- other subtrees are eligible
pub record Current (n s : ℕ) (table : List ℕ) (t : ℕ) (S : State) : Type 0 where
  pub positive : 0 < t
  pub low : (k : ℕ) → k < t → S.tree k ≡ leaf k
  pub own : least (S.tree t) ≡ t
  pub spent :
      (a b : ℕ) → t < a → t < b → leaves (S.tree t) a ≡ false → leaves (S.tree t) b ≡ false
      → Eligible n s (cell n table) S a b → ⊥

-- no leaf's subtree is the current one: leaves below t are single, and no two subtrees of the others are eligible
pub record NoneEligible (n s : ℕ) (table : List ℕ) (t : ℕ) (S : State) : Type 0 where
  pub low : (k : ℕ) → k < t → S.tree k ≡ leaf k
  pub spent : (a b : ℕ) → t ≤ a → t ≤ b → Eligible n s (cell n table) S a b → ⊥

-- the arrays after r merges, and the state S that these reached
pub record ArraysAfter (n s : ℕ) (table label m sizes names rows : List ℕ) (r : ℕ) (S : State) : Type 0 where
  pub came : Runs n s (cell n table) start S
  pub holds : HoldsState n s label m sizes S
  pub listed : Listed n label names rows r S

-- while the subtree of leaf t is merged
pub record MergingLeaf (n s : ℕ) (table label m sizes names rows : List ℕ) (r t : ℕ) : Type 0 where
  pub state : State
  pub forest : ArraysAfter n s table label m sizes names rows r state
  pub current : Current n s table t state

-- when the subtrees of the leaves from t on have been merged
pub record LeavesMerged (n s : ℕ) (table label m sizes names rows : List ℕ) (r t : ℕ) : Type 0 where
  pub state : State
  pub forest : ArraysAfter n s table label m sizes names rows r state
  pub done : NoneEligible n s table t state
