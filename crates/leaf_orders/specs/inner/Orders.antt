-- What the functions that order the leaves of a tree promise to each other, and how the leaves are laid out at last.
use Rattle.std.specs.Prelude.{◌≡◌, List, ℕ, ◌+◌, ◌-◌, ◌*◌, ◌≤◌, ◌<◌, length, get_or}
use Rattle.limits.specs.Limits.{most_nodes, IsLeafCount}
use Rattle.pair_counts.specs.Pairs.{P}
use Rattle.trees.specs.Trees.{Tree, leaf, node, size}
use Rattle.listings.specs.inner.Children.{row_first, row_second}
use Rattle.trees.specs.Listings.{KeepsRules, subtree_at}
use Rattle.leaf_orders.specs.declared.Place.{Place}
use Rattle.leaf_orders.specs.inner.LeafOrders.{whole, at}

-- the number of leaves under each number of a listing
abbrev pub Sized : ℕ → List ℕ → List ℕ → Type 0
Sized n l sizes = (c : ℕ) → c < 2 * n - 2 → get_or sizes c 0 ≡ size (subtree_at n l c)

-- a listing that keeps the rules, and the size under each of its numbers
pub record Prepared (n : ℕ) (l sizes : List ℕ) : Type 0 where
  pub leaf_count : IsLeafCount n
  pub listing : KeepsRules n l
  pub sized : Sized n l sizes

-- the depth of a node over A and B, `above` being the number of pairs that branch off on the way down to it: the pairs
-- outside of it, and a whole less what branches off on the way to A and to B
unfoldable pub depth : (n : ℕ) (A B : Tree) (above : ℕ) → ℕ
depth n A B above = P (n - (size A + size B)) + (whole - ((above + P (size B)) + (above + P (size A))))

-- the place of a number's leaves and what branches off above it are among those of n leaves
abbrev pub Fits : (n : ℕ) (l : List ℕ) (c : ℕ) (p : Place) → Type 0
Fits n l c p = (p.place + size (subtree_at n l c) ≤ n) × (p.above + P (size (subtree_at n l c)) ≤ P n)

-- where the children of number c stand, if it stands at p: the first from there on, the second beside it
abbrev pub left_of : (n : ℕ) (l : List ℕ) (c : ℕ) → Place → Place
left_of n l c p = record {
  place = p.place;
  above = p.above + P (size (subtree_at n l (row_second n l c)));
  before = p.before;
}

abbrev pub right_of : (n : ℕ) (l : List ℕ) (c : ℕ) → Place → Place
right_of n l c p =
    let A = subtree_at n l (row_first n l c) in
    let B = subtree_at n l (row_second n l c) in
    record { place = p.place + size A; above = p.above + P (size A); before = depth n A B p.above }

-- the children of number c, which stands at p: the first, where it stands, the second, and where that does
pub record ChildrenTold (n : ℕ) (l : List ℕ) (c : ℕ) (p : Place) (first : ℕ) (left : Place) (second : ℕ)
    (right : Place) : Type 0 where
  pub first_is : first ≡ row_first n l c
  pub second_is : second ≡ row_second n l c
  pub left_is : left ≡ left_of n l c p
  pub right_is : right ≡ right_of n l c p

-- where a number stands
abbrev pub nowhere : Place
nowhere = record { place = 0; above = 0; before = 0 }

abbrev pub stands : List Place → ℕ → Place
stands numbers c = get_or numbers c nowhere

-- the last number and leaf 0 have their places, and so have the children of the numbers from c on
pub record NumbersPlaced (n : ℕ) (l : List ℕ) (numbers : List Place) (c : ℕ) : Type 0 where
  pub long : length numbers ≡ most_nodes
  pub inside : (d : ℕ) → d < 2 * n - 2 → Fits n l d (stands numbers d)
  pub leaf_0 : stands numbers 0 ≡ record { place = 0; above = P (n - 1); before = 0 }
  pub root : stands numbers (2 * n - 3) ≡ record { place = 1; above = 0; before = whole - P (n - 1) }
  pub firsts : (d : ℕ) → c ≤ d → d < 2 * n - 2 → stands numbers (row_first n l d) ≡ left_of n l d (stands numbers d)
  pub seconds : (d : ℕ) → c ≤ d → d < 2 * n - 2 → stands numbers (row_second n l d) ≡ right_of n l d (stands numbers d)

-- a number's place, the pairs that branch off above it, and the depth before its first leaf are p, u and w
abbrev pub PlacedAt : (place above before : ℕ → ℕ) (c p u w : ℕ) → Type 0
PlacedAt place above before c p u w = (place c ≡ p) × (above c ≡ u) × (before c ≡ w)

-- the leaves of a subtree follow one another from place p on
abbrev pub LaidOut : (n : ℕ) (place above before : ℕ → ℕ) → Tree → (p u w : ℕ) → Type 0
LaidOut n place above before (leaf k) p u w = PlacedAt place above before k p u w
LaidOut n place above before (node A B) p u w =
    LaidOut n place above before A p (u + P (size B)) w
    × LaidOut n place above before B (p + size A) (u + P (size A)) (depth n A B u)

-- the order of the leaves of a tree, leaf 0 put on, and the depths between them
pub record IsPlan (n : ℕ) (T : Tree) (places aboves order depths : List ℕ) : Type 0 where
  pub laid : LaidOut n (at places) (at aboves) (λ k. at depths (at places k)) (node (leaf 0) T) 0 0 0
  pub placed : (k : ℕ) → k < n → at order (at places k) ≡ k
  pub small : (k : ℕ) → k < n → at aboves k ≤ P n
