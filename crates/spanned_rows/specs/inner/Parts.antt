-- What stays of the subtrees of a listing, joined row by row: what the functions ask of one another. No public contract
-- cites this.
use Rattle.std.specs.Prelude.{◌≡◌, ◌≢◌, Bool, true, List, [], ◌∷◌, ℕ, length}
use Rattle.limits.specs.Limits.{IsLeafCount, most_leaves, most_numbers}
use Rattle.trees.specs.Trees.{Tree, LeafSet}
use Rattle.trees.specs.Listings.{KeepsRules, subtree_at}
use Rattle.trees.specs.Renumbering.{renumbered}
use Rattle.spanned_trees.specs.Spans.{kept, rank}
use Rattle.rerooted_rows.specs.declared.Rerooting.{Rerooting}
use Rattle.rerooted_rows.specs.inner.Joining.{Stands, Accounted}
use Rattle.rerooted_rows.specs.inner.Arrays.{rows_made, chain_kept, JoinFits, Joins}
use Rattle.spanned_rows.specs.inner.Marks.{nothing, LeavesNumbered}

-- what stays of a subtree, renumbered
abbrev pub part : LeafSet → Tree → Tree
part v S = renumbered (rank v) (kept v S)

-- every leaf has come
abbrev pub all_come : ℕ → Bool
all_come k = true

-- What stays of two subtrees is joined, whose numbers are x and y: where nothing stays of one, it is the other.
pub record JoinsKept (m x y : ℕ) (R R' : Rerooting) (number : ℕ) : Type 0 where
  pub first_gone : x ≡ nothing → (number ≡ y) × (R' ≡ R)
  pub second_gone : x ≢ nothing → y ≡ nothing → (number ≡ x) × (R' ≡ R)
  pub both : x ≢ nothing → y ≢ nothing → Joins m x y R R' number

-- the arrays have room for it
abbrev pub JoinKeptFits : (m x y : ℕ) → Rerooting → Type 0
JoinKeptFits m x y R = x ≢ nothing → y ≢ nothing → JoinFits m x y R

-- the leaves are numbered, and nothing is joined yet
pub record MayJoinRows (n m : ℕ) (l numbers : List ℕ) (R : Rerooting) : Type 0 where
  pub count : IsLeafCount n
  pub new_count : IsLeafCount m
  pub keeps : KeepsRules n l
  pub stay : LeafSet
  pub leaves : LeavesNumbered n stay numbers
  pub as_many : m ≡ rank stay n
  pub rows_long : length R.rows ≡ most_numbers
  pub chain_long : length R.chain ≡ most_leaves

-- all is joined: what stays of the whole tree stands under 0
pub record RowsJoined (m : ℕ) (W : Tree) (R : Rerooting) : Type 0 where
  pub rows_long : length R.rows ≡ most_numbers
  pub chain_long : length R.chain ≡ most_leaves
  pub accounted : Accounted m R.made (rows_made R) (chain_kept R) (0 ∷ []) all_come
  pub stands : Stands (subtree_at m (rows_made R)) (chain_kept R) 0 W
