-- Numbers take their places from the last row down: each row gives its two children theirs, and no other row does, as
-- each number is named once. So what a row gave stays.
use mathlib.Core.Path.{◌≡◌, refl, ap, sym, ◌∙◌}
use mathlib.Core.Logic.{◌≢◌}
use mathlib.Core.List.{List}
use Prim.Native.Nat.{ℕ, zero, suc, ◌+◌, ◌-◌, ◌*◌, ◌≤◌, ◌<◌}
use native.Mathlib.Omega.{arith}
use native.Mathlib.Decide.{dec_lt, ℕ_discrete}
use lib.ListN.{length, get_or, set, replicate, length-set, length-replicate, get_or-replicate}
use lib.Seq.{get_or-set_same, get_or-set_other}
use Rattle.limits.specs.Limits.{most_nodes, IsLeafCount}
use Rattle.pair_counts.specs.Pairs.{P}
use Rattle.pair_counts.proofs.Pairs.{P_one, P_le, P_mono}
use Rattle.trees.specs.Trees.{Tree, size}
use Rattle.trees.specs.Listings.{KeepsRules, subtree_at}
use Rattle.trees.proofs.Trees.{size_node}
use Rattle.trees.proofs.SubtreesByRow.{subtree_at_leaf, child_positive, named_once}
use Rattle.listings.specs.inner.Children.{row_first, row_second}
use Rattle.leaf_orders.specs.declared.Place.{Place}
use Rattle.leaf_orders.specs.inner.LeafOrders.{whole}
use Rattle.leaf_orders.specs.inner.Orders.{Prepared, Fits, left_of, right_of, ChildrenTold, nowhere, stands}
use Rattle.leaf_orders.specs.inner.Orders.{NumbersPlaced, LaidOut}
use Rattle.leaf_orders.proofs.Rows.{Row, row_subtree_at, size_le}

-- A list with two entries stored.
module _ (xs : List Place) (a b : ℕ) (v w : Place) where
  abbrev pub stored : List Place
  stored = set (set xs a v) b w

  stored_length : length stored ≡ length xs
  stored_length = length-set (set xs a v) b w ∙ length-set xs a v

  stored_first : a ≢ b → a < length xs → stands stored a ≡ v
  stored_first d l = get_or-set_other (set xs a v) b a w nowhere d ∙ get_or-set_same xs a v nowhere l

  stored_second : b < length xs → stands stored b ≡ w
  stored_second l = get_or-set_same (set xs a v) b w nowhere (rw length-set l)

  stored_other : (k : ℕ) → k ≢ a → k ≢ b → stands stored k ≡ stands xs k
  stored_other k da db =
      get_or-set_other (set xs a v) b k w nowhere db ∙ get_or-set_other xs a k v nowhere da

-- A row that is next: its children a and b are told, and where they stand.
pub record Next (n : ℕ) (l sizes : List ℕ) (numbers : List Place) (c a : ℕ) (left : Place) (b : ℕ) (right : Place)
    : Type 0 where
  pub asked : Prepared n l sizes
  pub low : n ≤ c
  pub high : c < 2 * n - 2
  pub so_far : NumbersPlaced n l numbers (c + 1)
  pub children : ChildrenTold n l c (stands numbers c) a left b right

module _ {n : ℕ} {l sizes : List ℕ} {numbers : List Place} {c a : ℕ} {left : Place} {b : ℕ} {right : Place}
    (f : Next n l sizes numbers c a left b right) where
  abbrev A : Tree
  A = subtree_at n l (row_first n l c)

  abbrev B : Tree
  B = subtree_at n l (row_second n l c)

  row : Row n l c
  row = row_subtree_at n l c f.asked.leaf_count f.asked.listing f.low f.high

  -- the numbers are places of the array
  pub first_below : a < c
  first_below = rw f.children.first_is row.first

  pub second_below : b < c
  second_below = rw f.children.second_is row.second

  pub few : c < most_nodes
  few = omega (arith, f.high, f.asked.leaf_count.1)

  total : size (subtree_at n l c) ≡ size A + size B
  total = rw (row.is, size_node)

  -- all places are below n, and all that branches off is small
  in_place : (stands numbers c).place + (size A + size B) ≤ n
  in_place = omega (arith, (f.so_far.inside c f.high).0, total)

  branches : (stands numbers c).above + (P (size A) + P (size B)) ≤ P n
  branches = omega (arith, (f.so_far.inside c f.high).1, ap P total, P_le (size A) (size B))

  -- after the row
  abbrev numbers' : List Place
  numbers' = stored numbers a b left right

  -- the children stand at places of the listing
  named : (2 * (c - n) < length l) × (2 * (c - n) + 1 < length l)
  named = (
    omega (arith, f.asked.listing.numbers, f.high, f.low),
    omega (arith, f.asked.listing.numbers, f.high, f.low),
  )

  positive : 0 < n
  positive = omega (arith, f.asked.leaf_count.0)

  differ : a ≢ b
  differ =
      rw (f.children.first_is, f.children.second_is)
      (named_once n l positive f.asked.listing (2 * (c - n)) (2 * (c - n) + 1) named.0 named.1
      (omega arith))

  -- what stands at another number stays
  same : (k : ℕ) → k ≢ a → k ≢ b → stands numbers' k ≡ stands numbers k
  same = stored_other numbers a b left right

  -- the two children of this row
  first_stands : stands numbers' a ≡ left
  first_stands =
      stored_first numbers a b left right differ (omega (arith, first_below, few, f.so_far.long))

  second_stands : stands numbers' b ≡ right
  second_stands = stored_second numbers a b left right (omega (arith, second_below, few, f.so_far.long))

  -- the child at a place of another row is none of these
  other_child : (q : ℕ) → q < length l → q ≢ 2 * (c - n) → q ≢ 2 * (c - n) + 1 → (get_or l q 0 ≢ a) × (get_or l q 0 ≢ b)
  other_child q lq d e =
      rw (f.children.first_is, f.children.second_is) (
        named_once n l positive f.asked.listing q (2 * (c - n)) lq named.0 d,
        named_once n l positive f.asked.listing q (2 * (c - n) + 1) lq named.1 e,
      )

  -- a row that is placed, this one or one before it: where its node stands, and its children
  Placed : ℕ → Type 0
  Placed d =
      (stands numbers' (row_first n l d) ≡ left_of n l d (stands numbers' d))
      × (stands numbers' (row_second n l d) ≡ right_of n l d (stands numbers' d))

  old_row : (d : ℕ) → c + 1 ≤ d → d < 2 * n - 2 → Placed d
  unfolding Placed
  old_row d ld hd =
      let here = same d (omega (arith, first_below)) (omega (arith, second_below)) in
      let long = f.asked.listing.numbers in
      let one =
      other_child (2 * (d - n)) (omega (arith, long, f.low)) (omega (arith, f.low)) (omega (arith, f.low)) in
      let two =
      other_child (2 * (d - n) + 1) (omega (arith, long, f.low)) (omega (arith, f.low)) (omega (arith, f.low)) in
      rw here (
        same (row_first n l d) one.0 one.1 ∙ f.so_far.firsts d ld hd,
        same (row_second n l d) two.0 two.1 ∙ f.so_far.seconds d ld hd,
      )

  this_row : Placed c
  unfolding Placed
  this_row =
      let here = same c (omega (arith, first_below)) (omega (arith, second_below)) in
      rw here (
        ap (stands numbers') (sym f.children.first_is) ∙ first_stands ∙ f.children.left_is,
        ap (stands numbers') (sym f.children.second_is) ∙ second_stands ∙ f.children.right_is,
      )

  each_row : (d : ℕ) → c ≤ d → d < 2 * n - 2 → Placed d
  each_row d ld hd = elim (ℕ_discrete d c) [
    | yes e ↦ rw e this_row
    | no e ↦ old_row d (omega (arith, e)) hd
  ]

  pub children_placed : NumbersPlaced n l numbers' c
  unfolding Placed
  children_placed = record {
    long = stored_length numbers a b left right ∙ f.so_far.long;
    inside = λ d h. elim (ℕ_discrete d a) [
      | yes e ↦
          rw (e, first_stands, f.children.left_is, f.children.first_is)
          (omega (arith, in_place), omega (arith, branches))
      | no da ↦ elim (ℕ_discrete d b) [
        | yes e ↦
            rw (e, second_stands, f.children.right_is, f.children.second_is)
            (omega (arith, in_place), omega (arith, branches))
        | no db ↦ rw (same d da db) (f.so_far.inside d h)
      ]
    ];
    leaf_0 = same 0 (omega (arith, nonzero.0)) (omega (arith, nonzero.1)) ∙ f.so_far.leaf_0;
    root =
        same (2 * n - 3) (omega (arith, first_below, f.high)) (omega (arith, second_below, f.high)) ∙ f.so_far.root;
    firsts = λ d ld hd. (each_row d ld hd).0;
    seconds = λ d ld hd. (each_row d ld hd).1;
  }
    where
      nonzero : (0 < a) × (0 < b)
      nonzero = rw (f.children.first_is, f.children.second_is) (
        child_positive n l positive f.asked.listing (2 * (c - n)) named.0,
        child_positive n l positive f.asked.listing (2 * (c - n) + 1) named.1,
      )

-- before the first row: leaf 0 has its place, and the last number
module _ (n : ℕ) (l : List ℕ) (count : IsLeafCount n) (keeps : KeepsRules n l) (others : ℕ) (eo : others ≡ P (n - 1))
    (under_zero : size (subtree_at n l (2 * n - 3)) ≡ n - 1) where
  abbrev none : List Place
  none = replicate most_nodes nowhere

  abbrev leaf_0 : Place
  leaf_0 = record { place = 0; above = others; before = 0 }

  abbrev last : Place
  last = record { place = 1; above = 0; before = whole - others }

  abbrev pub begun : List Place
  begun = stored none 0 (2 * n - 3) leaf_0 last

  none_long : length none ≡ most_nodes
  none_long = length-replicate {A = Place} most_nodes nowhere

  has_first : stands begun 0 ≡ leaf_0
  has_first = stored_first none 0 (2 * n - 3) leaf_0 last (omega arith) (omega (arith, none_long))

  has_last : stands begun (2 * n - 3) ≡ last
  has_last = stored_second none 0 (2 * n - 3) leaf_0 last (omega (arith, none_long))

  has_none : (d : ℕ) → d < 2 * n - 2 → d ≢ 0 → d ≢ 2 * n - 3 → stands begun d ≡ nowhere
  has_none d h da db =
      stored_other none 0 (2 * n - 3) leaf_0 last d da db
      ∙ get_or-replicate {A = Place} most_nodes d nowhere nowhere (omega arith)

  leaf_one : size (subtree_at n l 0) ≡ 1
  leaf_one = rw (subtree_at_leaf n l 0 (omega arith)) (unfold size in refl)

  fits : (d : ℕ) → d < 2 * n - 2 → Fits n l d (stands begun d)
  fits d h =
      let few = size_le n l d count keeps h in
      elim (ℕ_discrete d 0) [
        | yes e ↦
            rw (e, has_first, leaf_one)
            (omega arith, rw P_one (omega (arith, eo, P_mono (n - 1) n (omega arith))))
        | no da ↦ elim (ℕ_discrete d (2 * n - 3)) [
          | yes e ↦ rw (e, has_last, under_zero) (omega arith, omega (arith, P_mono (n - 1) n (omega arith)))
          | no db ↦ rw (has_none d h da db) (omega (arith, few), omega (arith, P_mono (size (subtree_at n l d)) n few))
        ]
      ]

  pub placing_starts : NumbersPlaced n l begun (2 * n - 2)
  placing_starts = record {
    long = stored_length none 0 (2 * n - 3) leaf_0 last ∙ none_long;
    inside = fits;
    leaf_0 = rw (has_first, eo) refl;
    root = rw (has_last, eo) refl;
    firsts = λ d ld hd. absurd (omega arith);
    seconds = λ d ld hd. absurd (omega arith);
  }

-- where the numbers stand, entry by entry
abbrev pub place_of : List Place → ℕ → ℕ
place_of numbers c = (stands numbers c).place

abbrev pub above_of : List Place → ℕ → ℕ
above_of numbers c = (stands numbers c).above

abbrev pub before_of : List Place → ℕ → ℕ
before_of numbers c = (stands numbers c).before

-- every number has its place: so each subtree's leaves follow one another
pub laid_under :
    {n : ℕ} {l sizes : List ℕ} {numbers : List Place} → Prepared n l sizes → NumbersPlaced n l numbers n → (m d : ℕ)
    → d < m → d < 2 * n - 2
    → LaidOut n (place_of numbers) (above_of numbers) (before_of numbers) (subtree_at n l d) (place_of numbers d)
    (above_of numbers d) (before_of numbers d)
laid_under g h zero d lm ln = absurd (omega arith)
laid_under {n} {l} g h (suc m) d lm ln = elim (dec_lt d n) [
  | yes low ↦ rw (subtree_at_leaf n l d low) (refl, refl, refl)
  | no low ↦
      let row = row_subtree_at n l d g.leaf_count g.listing (omega arith) ln in
      let one = laid_under g h m (row_first n l d) (omega (arith, row.first)) (omega (arith, row.first)) in
      let two = laid_under g h m (row_second n l d) (omega (arith, row.second)) (omega (arith, row.second)) in
      rw row.is (
        rw (h.firsts d (omega arith) ln, place_of, above_of, before_of) at one,
        rw (h.seconds d (omega arith) ln, place_of, above_of, before_of) at two,
      )
]
