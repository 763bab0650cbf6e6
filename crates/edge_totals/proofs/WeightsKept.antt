-- The weights as they are kept by number, row after row. No two rows name one number, so what was kept stays.
use mathlib.Core.Path.{◌≡◌, refl, ap, ◌∙◌}
use mathlib.Core.Logic.{◌≢◌}
use mathlib.Core.List.{List, map}
use Prim.Native.Nat.{ℕ, ◌+◌, ◌-◌, ◌*◌, ◌<◌}
use native.Mathlib.Omega.{arith}
use native.Mathlib.Decide.{ℕ_discrete}
use lib.ListN.{length, get_or, set, length-set}
use lib.Seq.{get_or-set_same, get_or-set_other}
use Rattle.limits.specs.Limits.{most_nodes}
use Rattle.trees.specs.Listings.{subtree_at, tree_of}
use Rattle.grafted_cells.specs.inner.Moves.{new_row_gap}
use Rattle.std.proofs.Math.Seq.{map-set_same}
use Rattle.std.proofs.lemmas.List.{map-set}
use Rattle.edge_weights.specs.declared.Weight.{Weight}
use Rattle.edge_weights.specs.inner.Rows.{Given}
use Rattle.edge_weights.specs.inner.Weights.{Weighed, RowWeighed}
use Rattle.edge_weights.proofs.FreeNumbers.{child_range, children_differ}
use Rattle.edge_totals.specs.inner.Kept.{unweighed, gains, losses, rows, RowsWeighed, AllWeighed}

-- two entries of a list set, at different places
module _ (l : List ℕ) (x y a b : ℕ) (long : length l ≡ most_nodes) where
  two_long : length (set (set l x a) y b) ≡ most_nodes
  two_long = simp length-set long

  at_first : x ≢ y → x < most_nodes → get_or (set (set l x a) y b) x 0 ≡ a
  at_first d h = get_or-set_other (set l x a) y x b 0 d ∙ get_or-set_same l x a 0 (omega arith)

  at_second : y < most_nodes → get_or (set (set l x a) y b) y 0 ≡ b
  at_second h = get_or-set_same (set l x a) y b 0 (simp length-set (omega arith))

  at_other : (e : ℕ) → e ≢ x → e ≢ y → get_or (set (set l x a) y b) e 0 ≡ get_or l e 0
  at_other e dx dy = get_or-set_other (set l x a) y e b 0 dy ∙ get_or-set_other l x e a 0 dx

-- two weights kept, entry by entry
pub kept_two :
    (f : Weight → ℕ) (ws : List Weight) (x y : ℕ) (a b : Weight)
    → map f (set (set ws x a) y b) ≡ set (set (map f ws) x (f a)) y (f b)
kept_two f ws x y a b = map-set f (set ws x a) y b ∙ ap (λ l. set l y (f b)) (map-set f ws x a)

-- and the row of one alone
pub kept_row :
    (ws : List Weight) (i r : ℕ)
    → let w = get_or ws i unweighed in
    let ws' = set ws i (record { gain = w.gain; loss = w.loss; row = r }) in
    (gains ws' ≡ gains ws) × (losses ws' ≡ losses ws) × (rows ws' ≡ set (rows ws) i r)
kept_row ws i r = (
  map-set_same (λ w. w.gain) ws i _ unweighed refl,
  map-set_same (λ w. w.loss) ws i _ unweighed refl,
  map-set (λ w. w.row) ws i _,
)

pub weights_begun :
    {n s : ℕ} {l t u gains losses rows : List ℕ} → length gains ≡ most_nodes → length losses ≡ most_nodes
    → length rows ≡ most_nodes → RowsWeighed n s l t u 0 gains losses rows
weights_begun a b c = record {
  gains_long = a;
  losses_long = b;
  rows_long = c;
  first = λ q h. absurd (omega arith);
  second = λ q h. absurd (omega arith);
}

module _ {n s : ℕ} {l t u p : List ℕ} (g : Given n s l t u p) where
  -- no place names the number that another names
  apart : (q r : ℕ) → q < 2 * (n - 2) → r < 2 * (n - 2) → q ≢ r → get_or l q 0 ≢ get_or l r 0
  apart = children_differ n l g.count g.keeps

  module _ {k : ℕ} (row : k < n - 2) {gains losses rows : List ℕ} (w : RowsWeighed n s l t u k gains losses rows)
      {g₁ l₁ r₁ g₂ l₂ r₂ : ℕ} (new : RowWeighed n s l t u k g₁ l₁ r₁ g₂ l₂ r₂) where
    abbrev x : ℕ
    x = get_or l (2 * k) 0

    abbrev y : ℕ
    y = get_or l (2 * k + 1) 0

    -- a list of weights afterwards
    abbrev after : List ℕ → ℕ → ℕ → List ℕ
    after v a b = set (set v x a) y b

    x_low : x < most_nodes
    x_low = omega (arith, child_range n l g.count g.keeps (2 * k) (omega arith), g.count)

    y_low : y < most_nodes
    y_low = omega (arith, child_range n l g.count g.keeps (2 * k + 1) (omega arith), g.count)

    differ : x ≢ y
    differ = apart (2 * k) (2 * k + 1) (omega arith) (omega arith) (omega arith)

    -- the number at an earlier place keeps its weight
    kept :
        (q r : ℕ) → q < 2 * k
        → Weighed n s t u (tree_of n l) (get_or l q 0) (subtree_at n l (get_or l q 0)) (subtree_at n l (get_or l r 0))
        (get_or gains (get_or l q 0) 0) (get_or losses (get_or l q 0) 0) (get_or rows (get_or l q 0) 0)
        → Weighed n s t u (tree_of n l) (get_or l q 0) (subtree_at n l (get_or l q 0)) (subtree_at n l (get_or l r 0))
        (get_or (after gains g₁ g₂) (get_or l q 0) 0) (get_or (after losses l₁ l₂) (get_or l q 0) 0)
        (get_or (after rows r₁ r₂) (get_or l q 0) 0)
    kept q r h old =
        let dx = apart q (2 * k) (omega arith) (omega arith) (omega arith) in
        let dy = apart q (2 * k + 1) (omega arith) (omega arith) (omega arith) in
        rw (
          at_other gains x y g₁ g₂ w.gains_long (get_or l q 0) dx dy,
          at_other losses x y l₁ l₂ w.losses_long (get_or l q 0) dx dy,
          at_other rows x y r₁ r₂ w.rows_long (get_or l q 0) dx dy,
        )
        old

    pub weights_more : RowsWeighed n s l t u (k + 1) (after gains g₁ g₂) (after losses l₁ l₂) (after rows r₁ r₂)
    weights_more = record {
      gains_long = two_long gains x y g₁ g₂ w.gains_long;
      losses_long = two_long losses x y l₁ l₂ w.losses_long;
      rows_long = two_long rows x y r₁ r₂ w.rows_long;
      first = λ q h. elim (ℕ_discrete q k) [
        | yes e ↦
            rw (
              e,
              at_first gains x y g₁ g₂ w.gains_long differ x_low,
              at_first losses x y l₁ l₂ w.losses_long differ x_low,
              at_first rows x y r₁ r₂ w.rows_long differ x_low,
            )
            new.first
        | no d ↦ kept (2 * q) (2 * q + 1) (omega arith) (w.first q (omega arith))
      ];
      second = λ q h. elim (ℕ_discrete q k) [
        | yes e ↦
            rw (
              e,
              at_second gains x y g₁ g₂ w.gains_long y_low,
              at_second losses x y l₁ l₂ w.losses_long y_low,
              at_second rows x y r₁ r₂ w.rows_long y_low,
            )
            new.second
        | no d ↦ kept (2 * q + 1) (2 * q) (omega arith) (w.second q (omega arith))
      ];
    }

  -- all rows, and the gaps in the row of leaf n at the edge above the last number
  pub weights_all :
      {k : ℕ} {gains losses rows : List ℕ} {r : ℕ} → k ≡ n - 2 → RowsWeighed n s l t u k gains losses rows
      → r ≡ new_row_gap n s u (tree_of n l) (2 * n - 3) → AllWeighed n s l t u gains losses (set rows (2 * n - 3) r)
  weights_all {k} {gains} {losses} {rows} {r} e w is = record {
    weighed = record {
      gains_long = w.gains_long;
      losses_long = w.losses_long;
      rows_long = simp length-set w.rows_long;
      first = λ q h. rw (other (2 * q) (omega arith)) (w.first q (omega arith));
      second = λ q h. rw (other (2 * q + 1) (omega arith)) (w.second q (omega arith));
    };
    at_last = get_or-set_same rows (2 * n - 3) r 0 (omega (arith, w.rows_long, g.count)) ∙ is;
  }
    where
      other : (q : ℕ) → q < 2 * (n - 2) → get_or (set rows (2 * n - 3) r) (get_or l q 0) 0
          ≡ get_or rows (get_or l q 0) 0
      other q h =
          get_or-set_other rows (2 * n - 3) (get_or l q 0) r 0
          (omega (arith, child_range n l g.count g.keeps q h))
