-- The rows of a tree rerooted at leaf 0, as they are written while subtrees are joined. Each subtree has a number. Two
-- subtrees without leaf 0 are joined by a row. If one of the two has leaf 0, no row is written: what they make has the
-- number 0, and the number of the other is put before the chain. When all is joined, the chain holds the subtrees
-- beside the way from leaf 0 to the top, and the rows of the tree rerooted at leaf 0 are made of it. No public contract
-- cites this.
use Rattle.std.specs.Prelude.{◌≡◌, ◌⊎◌, Bool, true, false, not, cond, ◌&&◌, ◌||◌, List, [], ◌∷◌, ◌++◌, ℕ, suc, ◌+◌}
use Rattle.std.specs.Prelude.{◌*◌, ltb, eqb, length}
use Rattle.base.specs.Numbers.{indicator}
use Rattle.trees.specs.Trees.{Tree, leaf, node, leaves}
use Rattle.trees.specs.inner.Forests.{unused, uses, lawful}

-- how often a number stands in a list
unfoldable pub copies : ℕ → List ℕ → ℕ
copies x [] = 0
copies x (y ∷ l) = indicator (eqb x y) 1 + copies x l

-- Two subtrees with the numbers a and b are joined, after m rows: the number of what they make, and then the chain, the
-- rows and how many of them there are.
unfoldable pub joined_number : (n m a b : ℕ) → ℕ
joined_number n m a b = cond (eqb a 0) 0 (cond (eqb b 0) 0 (n + m))

unfoldable pub joined_chain : (a b : ℕ) → List ℕ → List ℕ
joined_chain a b chain = cond (eqb a 0) (b ∷ chain) (cond (eqb b 0) (a ∷ chain) chain)

unfoldable pub joined_rows : (a b : ℕ) → List ℕ → List ℕ
joined_rows a b rows = cond (eqb a 0) rows (cond (eqb b 0) rows (rows ++ (a ∷ b ∷ [])))

unfoldable pub joined_count : (a b m : ℕ) → ℕ
joined_count a b m = cond (eqb a 0) m (cond (eqb b 0) m (m + 1))

-- the rows that a chain makes at the end, the first of them node r's: what lies above is joined to one number after the
-- other
unfoldable pub chain_rows : (r above : ℕ) → List ℕ → List ℕ
chain_rows r above [] = []
chain_rows r above (c ∷ chain) = above ∷ c ∷ chain_rows (suc r) r chain

-- the tree that these rows make
unfoldable pub grown : (ℕ → Tree) → Tree → List ℕ → Tree
grown f above [] = above
grown f above (c ∷ chain) = grown f (node above (f c)) chain

-- a subtree that has leaf 0 hangs off the chain: of each node on the way from its top to leaf 0 the other child has a
-- number there, the topmost the first
abbrev pub Hangs : (ℕ → Tree) → List ℕ → Tree → Type 0
Hangs f chain (leaf i) = (i ≡ 0) × (chain ≡ [])
Hangs f chain (node A B) =
    (c : ℕ) × (older : List ℕ) × (chain ≡ c ∷ older)
    × (((leaves A 0 ≡ true) × Hangs f older A × (f c ≡ B)) ⊎ ((leaves A 0 ≡ false) × Hangs f older B × (f c ≡ A)))

-- a number stands for a subtree: it is the number of that, or 0 where that hangs off the chain
abbrev pub Stands : (ℕ → Tree) → List ℕ → ℕ → Tree → Type 0
Stands f chain x T =
    ((leaves T 0 ≡ false) × (f x ≡ T)) ⊎ ((leaves T 0 ≡ true) × (x ≡ 0) × Hangs f chain T)

-- a leaf that has not come yet
unfoldable pub unseen : ℕ → (ℕ → Bool) → ℕ → Bool
unseen n seen x = ltb x n && not (seen x)

-- After m rows: they are lawful, and each number that they have not used, and leaf 0, is one of these: a leaf that has
-- not come, a number of the chain, or one of the others; and it is that once.
pub record Accounted (n m : ℕ) (rows chain others : List ℕ) (seen : ℕ → Bool) : Type 0 where
  pub long : length rows ≡ 2 * m
  pub kept : lawful (unused n) n rows ≡ true
  pub each_once :
      (x : ℕ) → copies x others + copies x chain + indicator (unseen n seen x) 1
      ≡ indicator (eqb x 0 || uses (unused n) n rows x) 1
  pub no_zero : copies 0 chain ≡ 0
  pub fresh : seen 0 ≡ false → chain ≡ []
