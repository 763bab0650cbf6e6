-- Subtrees joined one after the other: the numbers stay accounted for, and stand for what was joined. The idea: each
-- number that no row has used is accounted for once, so two subtrees that are joined have different numbers, not yet
-- used unless leaf 0's, and at most one of them is leaf 0's.
use mathlib.Core.Path.{◌≡◌, refl, sym, ◌∙◌}
use mathlib.Core.Logic.{◌⊎◌, inl, inr, ◌≢◌}
use mathlib.Core.Bool.{Bool, true, false, not, ◌&&◌, ◌||◌, and-true, and-false}
use mathlib.Core.List.{List, [], ◌∷◌, ◌++◌}
use Prim.Native.Nat.{ℕ, ◌+◌, ◌*◌, ◌≤◌, ◌<◌}
use native.Mathlib.Omega.{arith}
use native.Mathlib.Decide.{ℕ_discrete}
use borrow.Author.Tests.{eqb-true, ne_eqb, lt-ltb}
use lib.Dec.{eqb}
use lib.ListN.{length, length-append}
use Rattle.base.specs.Numbers.{indicator}
use Rattle.base.proofs.Bools.{bool?, never, or_cases, eqb_same}
use Rattle.base.proofs.Counts.{indicator_le, count_two}
use Rattle.trees.specs.Trees.{Tree, leaf, node, leaves}
use Rattle.trees.specs.Listings.{with_rows, subtree_at}
use Rattle.trees.specs.Rerooting.{reroot_along, rerooted}
use Rattle.trees.specs.inner.Forests.{unused, use_row, uses}
use Rattle.trees.proofs.Trees.{leaves_node}
use Rattle.trees.proofs.Forests.{Forest, forest_start, lawful_forest}
use Rattle.trees.proofs.SubtreesByRow.{subtree_at_leaf}
use Rattle.trees.proofs.AddedRows.{row_kept, after_row, subtree_at_new, subtree_at_old}
use Rattle.rerooted_rows.specs.inner.Joining.{copies, joined_number, joined_chain, joined_rows, joined_count}
use Rattle.rerooted_rows.specs.inner.Joining.{grown, Hangs, Stands, unseen, Accounted}

-- Numbers in a list: the first stands in it, and so does one of the rest.
pub copies_here : (x : ℕ) (l : List ℕ) → 0 < copies x (x ∷ l)
unfolding copies
copies_here x l = rw (eqb_same x) (omega arith)

pub copies_more : (x c : ℕ) (l : List ℕ) → 0 < copies x l → 0 < copies x (c ∷ l)
unfolding copies
copies_more x c l h = omega arith

-- what is counted is true
pub counted_true : (b : Bool) → 0 < indicator b 1 → b ≡ true
counted_true true h = refl
counted_true false h = absurd (omega arith)

-- A subtree that hangs off the chain, rerooted at leaf 0, is what the chain makes.
hangs_along :
    (f : ℕ → Tree) (T : Tree) (chain : List ℕ) → Hangs f chain T → (X : Tree) → reroot_along T X ≡ grown f X chain
unfolding reroot_along grown
hangs_along f (leaf i) chain h X = rw h.1
hangs_along f (node A B) chain h X = elim h.3 [
  | inl q ↦ rw (h.2, q.0, q.2) (hangs_along f A h.1 q.1 (node X B))
  | inr q ↦ rw (h.2, q.0, q.2) (hangs_along f B h.1 q.1 (node X A))
]

-- the chain of a tree that is held at an edge: its latest number lies on the other side of that edge
pub hangs_rerooted :
    (f : ℕ → Tree) (A B : Tree) (chain : List ℕ) (h : Hangs f chain (node A B))
    → rerooted (node A B) ≡ grown f (f h.0) h.1
unfolding rerooted
hangs_rerooted f A B chain h = elim h.3 [
  | inl q ↦ rw (q.0, q.2) (hangs_along f A h.1 q.1 B)
  | inr q ↦ rw (q.0, q.2) (hangs_along f B h.1 q.1 A)
]

-- g has the same subtrees as f under these numbers
abbrev pub Agree : (f g : ℕ → Tree) → List ℕ → Type 0
Agree f g l = (x : ℕ) → 0 < copies x l → g x ≡ f x

-- so what hangs off the chain or stands for a subtree by f does so by g
hangs_keep : (f g : ℕ → Tree) (T : Tree) (chain : List ℕ) → Agree f g chain → Hangs f chain T → Hangs g chain T
hangs_keep f g (leaf i) chain a h = h
hangs_keep f g (node A B) chain a h = elim h.3 [
  | inl q ↦ (h.0, h.1, h.2, inl (q.0, hangs_keep f g A h.1 older q.1, here ∙ q.2))
  | inr q ↦ (h.0, h.1, h.2, inr (q.0, hangs_keep f g B h.1 older q.1, here ∙ q.2))
]
  where
    older : Agree f g h.1
    older x l = a x (rw h.2 (copies_more x h.0 h.1 l))

    here : g h.0 ≡ f h.0
    here = a h.0 (rw h.2 (copies_here h.0 h.1))

stands_keep :
    (f g : ℕ → Tree) (chain : List ℕ) (x : ℕ) (T : Tree) → Agree f g chain → g x ≡ f x → Stands f chain x T
    → Stands g chain x T
stands_keep f g chain x T a e h = elim h [
  | inl q ↦ inl (q.0, e ∙ q.1)
  | inr q ↦ inr (q.0, q.1, hangs_keep f g T chain a q.2)
]

leaf_zero : leaves (leaf 0) 0 ≡ true
unfolding leaves
leaf_zero = refl

-- what 0 stands for has leaf 0, and what another number stands for has not
pub zero_stands :
    (f : ℕ → Tree) (chain : List ℕ) (T : Tree) → f 0 ≡ leaf 0 → Stands f chain 0 T
    → (leaves T 0 ≡ true) × Hangs f chain T
zero_stands f chain T z h = elim h [
  | inl q ↦ absurd (never leaf_zero (rw (sym q.1 ∙ z) at q.0))
  | inr q ↦ (q.0, q.2)
]

other_stands :
    (f : ℕ → Tree) (chain : List ℕ) (x : ℕ) (T : Tree) → x ≢ 0 → Stands f chain x T
    → (leaves T 0 ≡ false) × (f x ≡ T)
other_stands f chain x T d h = elim h [ inl q ↦ q | inr q ↦ absurd (d q.1) ]

-- The numbers are accounted for.
module _ {n m : ℕ} {rows chain others : List ℕ} {seen : ℕ → Bool} (z : 0 < n)
    (W : Accounted n m rows chain others seen) where
  abbrev live : ℕ → Bool
  live = uses (unused n) n rows

  pub forest : Forest n (n + m) (with_rows leaf n rows) (uses (unused n) n rows)
  forest = lawful_forest (forest_start n z) m rows W.long W.kept

  -- whatever the rows, 0 is leaf 0's number
  pub zero_is_leaf : subtree_at n rows 0 ≡ leaf 0
  zero_is_leaf = subtree_at_leaf n rows 0 z

  -- a number that is held, and is not 0, is not yet used
  pub held_live : (x : ℕ) → x ≢ 0 → 0 < copies x others + copies x chain → uses (unused n) n rows x ≡ true
  held_live x d h =
      elim (or_cases (eqb x 0) (live x) (counted_true (eqb x 0 || live x) (omega (arith, W.each_once x)))) [
        | inl e ↦ absurd (d (eqb-true x 0 e))
        | inr e ↦ e
      ]

  -- nor is it a number that the next rows get
  pub held_below : (x : ℕ) → 0 < copies x others + copies x chain → x < n + m
  held_below x h = elim (ℕ_discrete x 0) [ yes e ↦ omega arith | no d ↦ forest.below x (held_live x d h) ]

  -- each number is held once at most
  held_once : (x : ℕ) → copies x others + copies x chain + indicator (unseen n seen x) 1 ≤ 1
  held_once x = omega (arith, W.each_once x, indicator_le (eqb x 0 || live x) 1)

  -- the next row's number is not in use
  new_unused : uses (unused n) n rows (n + m) ≡ false
  new_unused = elim (bool? (live (n + m))) [
    | inl t ↦ absurd (omega (arith, forest.below (n + m) t))
    | inr f ↦ f
  ]

  -- the others in another order
  pub accounted_like :
      (others' : List ℕ) → ((x : ℕ) → copies x others' ≡ copies x others) → Accounted n m rows chain others' seen
  accounted_like others' e = record {
    long = W.long;
    kept = W.kept;
    each_once = λ x. rw (e x) (W.each_once x);
    no_zero = W.no_zero;
    fresh = W.fresh;
  }

-- Two subtrees are joined, whose numbers are accounted for.
copies_swap : (a b : ℕ) (rest : List ℕ) (x : ℕ) → copies x (b ∷ a ∷ rest) ≡ copies x (a ∷ b ∷ rest)
unfolding copies
copies_swap a b rest x = omega arith

module _ {n m : ℕ} {rows chain : List ℕ} {seen : ℕ → Bool} (z : 0 < n) (rest : List ℕ) where
  -- leaf 0's, and another
  module _ (b : ℕ) (W : Accounted n m rows chain (b ∷ 0 ∷ rest) seen) where
    -- leaf 0 is held once, and is named
    zero_once : (copies 0 (b ∷ []) ≡ 0) × (copies 0 rest ≡ 0) × (indicator (unseen n seen 0) 1 ≡ 0)
    unfolding copies
    zero_once = (omega (arith, held_once z W 0), omega (arith, held_once z W 0), omega (arith, held_once z W 0))

    zero_seen : seen 0 ≡ true
    unfolding unseen
    zero_seen = elim (bool? (seen 0)) [
      | inl t ↦ t
      | inr f ↦ absurd (omega (arith, rw (lt-ltb 0 n z, f) at zero_once.2))
    ]

    -- the other goes to the chain
    pub chained : Accounted n m rows (b ∷ chain) (0 ∷ rest) seen
    chained = record {
      long = W.long;
      kept = W.kept;
      each_once = λ x. unfold copies in omega (arith, W.each_once x);
      no_zero = unfold copies in omega (arith, W.no_zero, zero_once.0);
      fresh = λ f. absurd (never zero_seen f);
    }

  -- two others: a row is written
  module _ (a b : ℕ) (da : a ≢ 0) (db : b ≢ 0) (W : Accounted n m rows chain (b ∷ a ∷ rest) seen) where
    abbrev rows' : List ℕ
    rows' = rows ++ (a ∷ b ∷ [])

    a_live : uses (unused n) n rows a ≡ true
    a_live = held_live z W a da (omega (arith, copies_more a b (a ∷ rest) (copies_here a rest)))

    b_live : uses (unused n) n rows b ≡ true
    b_live = held_live z W b db (omega (arith, copies_here b (a ∷ rest)))

    differ : a ≢ b
    unfolding copies
    differ e = omega (arith, held_once z W b, rw (e, eqb_same b) at (held_once z W b))

    -- so there is room for a row
    pub row_fits : m + 3 ≤ n
    row_fits =
        let w = forest z W in
        let two = count_two (n + m) (uses (unused n) n rows) a b (w.below a a_live) (w.below b b_live)
        a_live b_live differ in
        omega (arith, two, w.number)

    -- Which numbers are in use after the row: those before but a and b, and its own.
    old_number : (x : ℕ) → x ≢ n + m → x ≢ a → x ≢ b → uses (unused n) n rows' x ≡ uses (unused n) n rows x
    unfolding use_row
    old_number x dn d e =
        let was = uses (unused n) n rows x in
        rw (after_row n m rows W.long a b x, ne_eqb x (n + m) dn, ne_eqb x a d, ne_eqb x b e)
        (and-true (was && true) ∙ and-true was)

    used_number : (x : ℕ) → x ≢ n + m → (x ≡ a) ⊎ (x ≡ b) → uses (unused n) n rows' x ≡ false
    unfolding use_row
    used_number x dn h = elim h [
      | inl e ↦
          rw (after_row n m rows W.long a b x, ne_eqb x (n + m) dn, e, eqb_same a, and-false (live z W a))
      | inr e ↦ rw (after_row n m rows W.long a b x, ne_eqb x (n + m) dn, e, eqb_same b)
          (and-false (live z W b && not (eqb b a)))
    ]

    new_number : uses (unused n) n rows' (n + m) ≡ true
    unfolding use_row
    new_number = rw (after_row n m rows W.long a b (n + m), eqb_same (n + m))

    -- so each is accounted for once
    row_each_once :
        (x : ℕ) → copies x ((n + m) ∷ rest) + copies x chain + indicator (unseen n seen x) 1
        ≡ indicator (eqb x 0 || uses (unused n) n rows' x) 1
    unfolding copies
    row_each_once x =
        let was = W.each_once x in
        elim (ℕ_discrete x (n + m)) [
          | yes e ↦
              let zero_not : eqb (n + m) 0 ≡ false = ne_eqb (n + m) 0 (λ q. omega arith) in
              let before = rw (e, new_unused z W, zero_not) at was in
              rw (e, new_number, eqb_same (n + m), zero_not) (omega (arith, before))
          | no dn ↦ rw (ne_eqb x (n + m) dn) (elim (ℕ_discrete x a) [
            | yes e ↦
                let here = rw (e, eqb_same a, a_live, ne_eqb a b differ, ne_eqb a 0 da) at was in
                rw (used_number x dn (inl e), e, ne_eqb a 0 da) (omega (arith, here))
            | no d ↦ elim (ℕ_discrete x b) [
              | yes e ↦
                  let here = rw (e, eqb_same b, b_live, ne_eqb b 0 db) at was in
                  rw (used_number x dn (inr e), e, ne_eqb b 0 db) (omega (arith, here))
              | no e ↦ rw (old_number x dn d e) (omega (arith, rw (ne_eqb x a d, ne_eqb x b e) at was))
            ]
          ])
        ]

    pub row_added : Accounted n (m + 1) rows' chain ((n + m) ∷ rest) seen
    row_added = record {
      long = row_long;
      kept = row_kept n m rows W.long a b W.kept a_live b_live differ;
      each_once = row_each_once;
      no_zero = W.no_zero;
      fresh = W.fresh;
    }
      where
        row_long : length rows' ≡ 2 * (m + 1)
        row_long = rw (length-append, W.long) (omega arith)

-- What two joined subtrees A and B leave: m' rows and a chain with all numbers accounted for, r for what they make, and
-- each other number standing for what it stood for.
pub record Joint (n m : ℕ) (rows chain rest : List ℕ) (seen : ℕ → Bool) (A B : Tree) (m' : ℕ) (rows' chain' : List ℕ)
    (r : ℕ) : Type 0 where
  pub accounted : Accounted n m' rows' chain' (r ∷ rest) seen
  pub stands : Stands (subtree_at n rows') chain' r (node A B)
  pub others :
      (y : ℕ) (T : Tree) → 0 < copies y rest → Stands (subtree_at n rows) chain y T
      → Stands (subtree_at n rows') chain' y T

module _ {n m : ℕ} {rows chain : List ℕ} {seen : ℕ → Bool} (z : 0 < n) (rest : List ℕ) (A B : Tree) where
  -- X has leaf 0 and Y has not: Y goes to the chain
  module _ (y : ℕ) (X Y : Tree) (W : Accounted n m rows chain (y ∷ 0 ∷ rest) seen)
      (sx : Stands (subtree_at n rows) chain 0 X) (sy : Stands (subtree_at n rows) chain y Y) where
    y_other : y ≢ 0
    unfolding copies
    y_other e = omega (arith, rw e at (zero_once z rest y W).0)

    x_zero : (leaves X 0 ≡ true) × Hangs (subtree_at n rows) chain X
    x_zero = zero_stands (subtree_at n rows) chain X (zero_is_leaf z W) sx

    y_none : (leaves Y 0 ≡ false) × (subtree_at n rows y ≡ Y)
    y_none = other_stands (subtree_at n rows) chain y Y y_other sy

    -- no other number is leaf 0's, so the chain is nothing to them
    others_none :
        (k : ℕ) (T : Tree) → 0 < copies k rest → Stands (subtree_at n rows) chain k T
        → Stands (subtree_at n rows) (y ∷ chain) k T
    others_none k T h st = inl (other_stands (subtree_at n rows) chain k T not_zero st)
      where
        not_zero : k ≢ 0
        not_zero e = omega (arith, rw e at h, (zero_once z rest y W).1)

  -- The three cases: leaf 0 under a, under b, under neither.
  first_zero :
      (b : ℕ) → Accounted n m rows chain (b ∷ 0 ∷ rest) seen → Stands (subtree_at n rows) chain 0 A
      → Stands (subtree_at n rows) chain b B → Joint n m rows chain rest seen A B m rows (b ∷ chain) 0
  first_zero b W sa sb =
      let x = x_zero b A B W sa sb in
      let y = y_none b A B W sa sb in
      record {
        accounted = chained z rest b W;
        stands = inr (rw (leaves_node 0 A B, x.0), refl, (b, chain, refl, inl (x.0, x.1, y.1)));
        others = others_none b A B W sa sb;
      }

  second_zero :
      (a : ℕ) → Accounted n m rows chain (0 ∷ a ∷ rest) seen → Stands (subtree_at n rows) chain a A
      → Stands (subtree_at n rows) chain 0 B → Joint n m rows chain rest seen A B m rows (a ∷ chain) 0
  second_zero a W sa sb =
      let W' = accounted_like z W (a ∷ 0 ∷ rest) (copies_swap 0 a rest) in
      let x = x_zero a B A W' sb sa in
      let y = y_none a B A W' sb sa in
      record {
        accounted = chained z rest a W';
        stands = inr (rw (leaves_node 0 A B, y.0) x.0, refl, (a, chain, refl, inr (y.0, x.1, y.1)));
        others = others_none a B A W' sb sa;
      }

  neither_zero :
      (a b : ℕ) → a ≢ 0 → b ≢ 0 → Accounted n m rows chain (b ∷ a ∷ rest) seen → Stands (subtree_at n rows) chain a A
      → Stands (subtree_at n rows) chain b B
      → Joint n m rows chain rest seen A B (m + 1) (rows ++ (a ∷ b ∷ [])) chain (n + m)
  neither_zero a b da db W sa sb = record {
    accounted = row_added z rest a b da db W;
    stands = inl (
      rw (leaves_node 0 A B, ha.0, hb.0),
      subtree_at_new n m rows W.long a b ∙ rw (ha.1, hb.1),
    );
    others = λ y T h st.
        stands_keep (subtree_at n rows) (subtree_at n (rows ++ (a ∷ b ∷ []))) chain y T in_chain
        (still y (omega (arith, copies_more y b (a ∷ rest) (copies_more y a rest h)))) st;
  }
    where
      ha : (leaves A 0 ≡ false) × (subtree_at n rows a ≡ A)
      ha = other_stands (subtree_at n rows) chain a A da sa

      hb : (leaves B 0 ≡ false) × (subtree_at n rows b ≡ B)
      hb = other_stands (subtree_at n rows) chain b B db sb

      still :
          (y : ℕ) → 0 < copies y (b ∷ a ∷ rest) + copies y chain
          → subtree_at n (rows ++ (a ∷ b ∷ [])) y ≡ subtree_at n rows y
      still y h = subtree_at_old n m rows W.long a b y (held_below z W y h)

      in_chain : Agree (subtree_at n rows) (subtree_at n (rows ++ (a ∷ b ∷ []))) chain
      in_chain y h = still y (omega arith)

  pub joint :
      (a b : ℕ) → Accounted n m rows chain (b ∷ a ∷ rest) seen → Stands (subtree_at n rows) chain a A
      → Stands (subtree_at n rows) chain b B
      → Joint n m rows chain rest seen A B (joined_count a b m) (joined_rows a b rows) (joined_chain a b chain)
      (joined_number n m a b)
  unfolding joined_count joined_rows joined_chain joined_number
  joint a b W sa sb = elim (ℕ_discrete a 0) [
    | yes e ↦ rw e (first_zero b (rw e at W) (rw e at sa) sb)
    | no da ↦ elim (ℕ_discrete b 0) [
      | yes e ↦ rw (ne_eqb a 0 da, e) (second_zero a (rw e at W) sa (rw e at sb))
      | no db ↦ rw (ne_eqb a 0 da, ne_eqb b 0 db) (neither_zero a b da db W sa sb)
    ]
  ]
