-- How the standard listing is written: what the inner functions require and ensure. No public contract cites it.
use Rattle.std.specs.Prelude.{◌≡◌, cond, List, ℕ, ◌+◌, ◌-◌, ◌*◌, ◌≤◌, ◌<◌, ltb, length, get_or, set}
use Rattle.std.proofs.lemmas.List.Edits.{sets}
use Rattle.limits.specs.Limits.{IsLeafCount, most_rows, most_numbers}
use Rattle.trees.specs.Trees.{Tree, size, least, ordered}
use Rattle.trees.specs.Listings.{KeepsRules, subtree_at, post_order}
use Rattle.listings.specs.inner.Children.{row_first, row_second}

-- what stands under a number of a listing, in standard order
abbrev pub part : ℕ → List ℕ → ℕ → Tree
part n l v = ordered (subtree_at n l v)

-- of a and b the one that goes with the smaller of x and y: a if x is less, else b
unfoldable pub pick : ℕ → ℕ → ℕ → ℕ → ℕ
pick x y a b = cond (ltb x y) a b

-- the two children of node v in standard order, the one with the smaller least leaf first
abbrev pub standard_first : ℕ → List ℕ → ℕ → ℕ
standard_first n l v =
    let a = row_first n l v in
    let b = row_second n l v in
    pick (least (part n l a)) (least (part n l b)) a b

abbrev pub standard_second : ℕ → List ℕ → ℕ → ℕ
standard_second n l v =
    let a = row_first n l v in
    let b = row_second n l v in
    pick (least (part n l a)) (least (part n l b)) b a

-- the least leaf under number x, where an array has it of each node: a leaf is its own
unfoldable pub known_least : ℕ → List ℕ → ℕ → ℕ
known_least n leasts x = cond (ltb x n) x (get_or leasts (x - n) 0)

-- an array that has the least leaf under each node below m
pub record Leasts (n : ℕ) (l : List ℕ) (m : ℕ) (leasts : List ℕ) : Type 0 where
  pub long : length leasts ≡ most_rows
  pub is : (x : ℕ) → x < m → known_least n leasts x ≡ least (part n l x)

-- an array that has the children of the nodes below m in standard order, two numbers a node
pub record InOrder (n : ℕ) (l : List ℕ) (m : ℕ) (sorted : List ℕ) : Type 0 where
  pub long : length sorted ≡ most_numbers
  pub firsts : (v : ℕ) → n ≤ v → v < m → get_or sorted (2 * (v - n)) 0 ≡ standard_first n l v
  pub seconds : (v : ℕ) → n ≤ v → v < m → get_or sorted (2 * (v - n) + 1) 0 ≡ standard_second n l v

-- node v of a listing that keeps the rules
pub record AtNode (n : ℕ) (l : List ℕ) (v : ℕ) : Type 0 where
  pub count : IsLeafCount n
  pub keeps : KeepsRules n l
  pub low : n ≤ v
  pub high : v < 2 * n - 2

-- the number that a row gives to its child x, of whose rows s is the next: a leaf's own, or its last row's
unfoldable pub child_number : ℕ → ℕ → ℕ → ℕ
child_number n x s = cond (ltb x n) x (n + s - 1)

-- row t may be written, for two children of whose rows s and t are the next
pub record RowFits (n s t : ℕ) (out : List ℕ) : Type 0 where
  pub count : IsLeafCount n
  pub first_ends : s < n
  pub second_ends : t < n
  pub room : 2 * t + 1 < length out

-- the buffer once it is: row t names a and b
abbrev pub with_row : (n a s b t : ℕ) → List ℕ → List ℕ
with_row n a s b t out = set (set out (2 * t) (child_number n a s)) (2 * t + 1) (child_number n b t)

-- the rows of the subtree under v may be written from row s on
pub record SubtreeRowsFit (n : ℕ) (l sorted : List ℕ) (v s : ℕ) (out : List ℕ) : Type 0 where
  pub count : IsLeafCount n
  pub keeps : KeepsRules n l
  pub order : InOrder n l (2 * n - 2) sorted
  pub inside : v < 2 * n - 2
  pub below : s + size (part n l v) < n
  pub room : 2 * (n - 2) ≤ length out

-- so it is of some listing
pub record SubtreeFits (n : ℕ) (sorted : List ℕ) (v s : ℕ) (out : List ℕ) : Type 0 where
  pub listing : List ℕ
  pub fits : SubtreeRowsFit n listing sorted v s out

-- the rows of the subtree Y have been written from row s on, in post-order, and r is the next row
pub record RowsWritten (n : ℕ) (Y : Tree) (s : ℕ) (out out' : List ℕ) (r : ℕ) : Type 0 where
  pub next : r + 1 ≡ s + size Y
  pub rows : out' ≡ sets out (2 * s) (post_order Y (n + s))

-- those of the subtree under v, in standard order
abbrev pub SubtreeRowsWritten : ℕ → List ℕ → ℕ → ℕ → List ℕ → List ℕ → ℕ → Type 0
SubtreeRowsWritten n l v s out out' r = RowsWritten n (part n l v) s out out' r
