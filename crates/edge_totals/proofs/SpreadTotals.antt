-- The totals found from the last row down: those for the last edge and for the edges above the children of the rows
-- from row k on are there. Each number but the last is a child of a row behind its own, so that the total at a row's
-- node is there before those at its children, and in the end all are.
use mathlib.Core.Path.{◌≡◌, refl, ◌∙◌}
use mathlib.Core.Logic.{◌⊎◌, inl, inr, ◌≢◌}
use mathlib.Core.List.{List}
use Prim.Native.Nat.{ℕ, zero, suc, ◌+◌, ◌-◌, ◌*◌, ◌≤◌, ◌<◌}
use native.Mathlib.Omega.{arith}
use native.Mathlib.Decide.{ℕ_discrete, dec_lt}
use lib.ListN.{length, get_or, set, length-set}
use lib.Seq.{get_or-set_same, get_or-set_other}
use Rattle.base.specs.Lists.{filled}
use Rattle.base.proofs.Filling.{known_filled}
use Rattle.limits.specs.Limits.{IsLeafCount}
use Rattle.trees.specs.Listings.{KeepsRules}
use Rattle.trees.proofs.SubtreesByRow.{child_before}
use Rattle.edge_weights.proofs.FreeNumbers.{only_last_free, child_range, children_differ}
use Rattle.edge_totals.specs.inner.Totals.{MovesTo, Moves, MoveFits, SpreadReady}

-- e is the last number, or a row from row k on names it
abbrev pub Found : (n : ℕ) (l : List ℕ) (k e : ℕ) → Type 0
Found n l k e = (e ≡ 2 * n - 3) ⊎ ((q : ℕ) × (2 * k ≤ q) × (q < 2 * (n - 2)) × (get_or l q 0 ≡ e))

-- the totals from row k on are there, and what lies behind the last is as it was
pub record SpreadFrom (n : ℕ) (l gains losses rows out₀ out : List ℕ) (k : ℕ) : Type 0 where
  pub long : length out ≡ length out₀
  pub behind : (j : ℕ) → 2 * n - 3 ≤ j → get_or out j 0 ≡ get_or out₀ j 0
  pub there :
      (f : ℕ → ℕ) → Moves n l gains losses rows f → get_or out₀ (2 * n - 4) 0 ≡ f (2 * n - 3) → (e : ℕ) → Found n l k e
      → get_or out (e - 1) 0 ≡ f e

-- one less, different numbers are different
less_one : (a b : ℕ) → 0 < a → 0 < b → a ≢ b → a - 1 ≢ b - 1
less_one a b pa pb d = omega arith

-- some place below m names e, or none does
named? :
    (l : List ℕ) (e m : ℕ) → ((q : ℕ) × (q < m) × (get_or l q 0 ≡ e)) ⊎ ((q : ℕ) → q < m → get_or l q 0 ≢ e)
named? l e zero = inr (λ q h. absurd (omega arith))
named? l e (suc m) = elim (ℕ_discrete (get_or l m 0) e) [
  | yes h ↦ inl (m, omega arith, h)
  | no d ↦ elim (named? l e m) [
    | inl w ↦ inl (w.0, omega (arith, w.1), w.2)
    | inr none ↦ inr (λ q h. elim (dec_lt q m) [
      | yes low ↦ none q low
      | no high ↦ (let same : q ≡ m = omega arith in rw same d)
    ])
  ]
]

module _ (n : ℕ) (l : List ℕ) (c : IsLeafCount n) (keeps : KeepsRules n l) where
  -- every number but 0 is the last, or some row names it
  found_all : (e : ℕ) → 0 < e → e ≤ 2 * n - 3 → Found n l 0 e
  found_all e positive h = elim (named? l e (2 * (n - 2))) [
    | inl w ↦ inr (w.0, omega arith, w.1, w.2)
    | inr none ↦
        inl (only_last_free n l c keeps e positive (record { made = omega (arith, c); unnamed = none }))
  ]

  -- a row's node is the last number, or a row behind it names it
  pub found_node : (k : ℕ) → k < n - 2 → Found n l (k + 1) (n + k)
  found_node k h = elim (found_all (n + k) (omega (arith, c)) (omega (arith, c))) [
    | inl last ↦ inl last
    | inr w ↦
        let before = child_before n l c keeps w.0 (omega (arith, keeps.numbers, w.2)) in
        inr (w.0, omega (arith, before, w.3), w.2, w.3)
  ]

  module _ {gains losses rows out₀ : List ℕ} where
    pub spread_begun : SpreadFrom n l gains losses rows out₀ out₀ (n - 2)
    spread_begun = record {
      long = refl;
      behind = λ j h. refl;
      there = λ f moves last e found. elim found [
        | inl same ↦ (let place : 2 * n - 3 - 1 ≡ 2 * n - 4 = omega arith in rw (same, place) last)
        | inr w ↦ absurd (omega (arith, w.1, w.2))
      ];
    }

    -- Row k: the totals at its children are written, from that at its node.
    module _ {k : ℕ} (row : k < n - 2) (room : 2 * n - 3 ≤ length out₀) {out : List ℕ}
        (w : SpreadFrom n l gains losses rows out₀ out (k + 1)) where
      abbrev x : ℕ
      x = get_or l (2 * k) 0

      abbrev y : ℕ
      y = get_or l (2 * k + 1) 0

      -- what is written for the number e
      abbrev moved : ℕ → ℕ
      moved e = get_or out (n + k - 1) 0 + get_or gains e 0 - (get_or losses e 0 + get_or rows (n + k) 0)

      abbrev after : List ℕ
      after = set (set out (x - 1) (moved x)) (y - 1) (moved y)

      -- the total at the node
      above :
          (f : ℕ → ℕ) → Moves n l gains losses rows f → get_or out₀ (2 * n - 4) 0 ≡ f (2 * n - 3)
          → get_or out (n + k - 1) 0 ≡ f (n + k)
      above f moves last = w.there f moves last (n + k) (found_node k row)

      pub move_fits :
          (s : SpreadReady n l gains losses rows out₀) (q : ℕ) → q < 2 * (n - 2)
          → MovesTo gains losses rows s.totals (n + k) (get_or l q 0)
          → MoveFits (get_or l q 0) (get_or out (n + k - 1) 0) (get_or rows (n + k) 0) gains losses (length out₀)
      move_fits s q h to =
          let range = child_range n l c keeps q h in
          let total = above s.totals s.moves s.last in
          record {
            positive = range.0;
            place = omega (arith, range.1);
            number = omega (arith, range.1, c);
            above_small = rw total (s.moves.small (n + k));
            gain_small = s.moves.gains_small q h;
            covered = omega (arith, total, to);
          }

      pub spread_more : SpreadFrom n l gains losses rows out₀ after k
      spread_more = record {
        long = simp length-set w.long;
        behind = λ j h. kept j (omega (arith, range_x)) (omega (arith, range_y)) ∙ w.behind j h;
        there = λ f moves last e found.
            let total = above f moves last in
            elim found [
              | inl same ↦
                  kept (e - 1) (omega (arith, range_x)) (omega (arith, range_y)) ∙ w.there f moves last e (inl same)
              | inr q ↦ elim (ℕ_discrete q.0 (2 * k)) [
                | yes first ↦
                    rw (← q.3, first) (at_x ∙ omega (arith, total, moves.first k row))
                | no not_first ↦ elim (ℕ_discrete q.0 (2 * k + 1)) [
                  | yes second ↦
                      rw (← q.3, second) (at_y ∙ omega (arith, total, moves.second k row))
                  | no not_second ↦
                      let range = child_range n l c keeps q.0 q.2 in
                      let not_x = children_differ n l c keeps q.0 (2 * k) q.2 (omega arith) not_first in
                      let not_y = children_differ n l c keeps q.0 (2 * k + 1) q.2 (omega arith) not_second in
                      rw (← q.3)
                      (kept (get_or l q.0 0 - 1) (less_one _ _ range.0 range_x.0 not_x)
                      (less_one _ _ range.0 range_y.0 not_y)
                      ∙ rw q.3 (w.there f moves last e (inr (q.0, omega (arith, q.1), q.2, q.3))))
                ]
              ]
            ];
      }
        where
          range_x : (0 < x) × (x < 2 * n - 3)
          range_x = child_range n l c keeps (2 * k) (omega arith)

          range_y : (0 < y) × (y < 2 * n - 3)
          range_y = child_range n l c keeps (2 * k + 1) (omega arith)

          kept : (j : ℕ) → j ≢ x - 1 → j ≢ y - 1 → get_or after j 0 ≡ get_or out j 0
          kept j dx dy =
              get_or-set_other (set out (x - 1) (moved x)) (y - 1) j (moved y) 0 dy
              ∙ get_or-set_other out (x - 1) j (moved x) 0 dx

          at_x : get_or after (x - 1) 0 ≡ moved x
          at_x =
              let d = children_differ n l c keeps (2 * k) (2 * k + 1) (omega arith) (omega arith) (omega arith) in
              get_or-set_other (set out (x - 1) (moved x)) (y - 1) (x - 1) (moved y) 0
              (less_one x y range_x.0 range_y.0 d)
              ∙ get_or-set_same out (x - 1) (moved x) 0 (omega (arith, range_x, w.long))

          at_y : get_or after (y - 1) 0 ≡ moved y
          at_y =
              get_or-set_same (set out (x - 1) (moved x)) (y - 1) (moved y) 0
              (simp length-set (omega (arith, range_y, w.long)))

    -- all rows
    pub spread_all :
        {out : List ℕ} {k : ℕ} → k ≡ 0 → 2 * n - 3 ≤ length out₀ → SpreadFrom n l gains losses rows out₀ out k
        → (f : ℕ → ℕ) → Moves n l gains losses rows f → get_or out₀ (2 * n - 4) 0 ≡ f (2 * n - 3)
        → out ≡ filled (2 * n - 3) (λ j. f (j + 1)) out₀
    spread_all {out} {k} e room w f moves last =
        known_filled (λ j. f (j + 1)) 0 out₀ out (2 * n - 3) w.long room
        (λ j h.
        let one : j + 1 - 1 ≡ j = omega arith in
        rw one at (w.there f moves last (j + 1) (rw e (found_all (j + 1) (omega arith) (omega arith)))))
        w.behind
