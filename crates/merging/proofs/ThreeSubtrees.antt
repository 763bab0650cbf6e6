-- The bound on cells, and three subtrees that are all that is left. In a state that reaches a tree, no cell between two
-- subtrees is above the value expected of it. Where a step joins A and B, and a cell of A and a third subtree D has the
-- value expected before it, the three hold all leaves: A and D may be joined first, and the rerooted tree is the same.
use mathlib.Core.Path.{◌≡◌, ap, sym, ◌∙◌, subst}
use mathlib.Core.Logic.{inl, inr}
use mathlib.Core.Bool.{true, false, ◌||◌}
use Prim.Native.Nat.{ℕ, ◌+◌, ◌-◌, ◌*◌, ◌≤◌, ◌<◌}
use native.Mathlib.Nat.{add_comm, mul-le-mul_left, le_of_mul-le-mul_left, le_trans, le_of_eq}
use native.Mathlib.Omega.{arith}
use Rattle.base.proofs.Bools.{bool?, never, or_left, or_right, or_none, or_cases}
use Rattle.pair_counts.specs.Pairs.{P}
use Rattle.pair_counts.proofs.Pairs.{P_zero, P_le, P_tight}
use Rattle.trees.specs.Trees.{Tree, leaves, size, join, ordered}
use Rattle.trees.specs.Rerooting.{rerooted}
use Rattle.trees.proofs.Trees.{size_pos, leaves_join, size_join}
use Rattle.trees.proofs.Rerooting.{rerooted_three}
use Rattle.merging.specs.Merging.{State, step}
use Rattle.merging.specs.inner.Runs.{Eligible}
use Rattle.merging.proofs.States.{WellFormed, Single, step_in, step_out, step_m_left, step_m_right, step_m_out}
use Rattle.merging.proofs.States.{apart, clear, other_apart, two_fit, full, step_move, growth, met}
use Rattle.merging.proofs.Runs.{differ, Reaches, stop, go, EqualHalves, wf_go, eligible_sym, step_sym}
use Rattle.merging.proofs.Runs.{eligible_move, single_stops}

-- Arithmetic of the bound: what a step adds to both sides.
grow_le :
    (n s d a b x y u v : ℕ) → (a + x) + (b + y) ≤ n → d ≤ s * (P (n - ((a + x) + (b + y))) + ((u + P x) + (v + P y)))
    → d ≤ s * (P (n - (a + b)) + (u + v))
grow_le n s d a b x y u v h k =
    le_trans k (mul-le-mul_left s (rw more (omega (arith, P_le (n - ((a + x) + (b + y))) (x + y), P_le x y))))
  where
    more : n - (a + b) ≡ n - ((a + x) + (b + y)) + (x + y)
    more = omega arith

-- three subtrees of a, b and d leaves: where the bound is met both ways, they are all that is left
tight_sum :
    (n s a b d u v : ℕ) → 0 < s → 1 ≤ b → (a + b) + d ≤ n
    → s * (P (n - (a + d)) + (u + v)) ≤ s * (P (n - ((a + b) + d)) + ((u + P b) + v)) → n ≤ (a + b) + d
tight_sum n s a b d u v sp bp fit h =
    omega (arith, mul-le-mul_left (n - ((a + b) + d)) bp, P_tight (n - ((a + b) + d)) b less)
  where
    more : n - (a + d) ≡ n - ((a + b) + d) + b
    more = omega arith

    less : P (n - ((a + b) + d) + b) ≤ P (n - ((a + b) + d)) + P b
    less = rw (← more) (omega (arith, le_of_mul-le-mul_left h sp))

-- three that are all that is left: the values expected of a cell, merged in one order and in another
sum_last :
    (n a b d u v : ℕ) → n ≤ (a + b) + d → (a + b) + d ≤ n
    → P (n - (a + b)) + (u + v) ≡ P (n - ((a + d) + b)) + ((u + P d) + v)
sum_last n a b d u v h h' =
    let p : n - (a + b) ≡ d = omega arith in
    let q : n - ((a + d) + b) ≡ 0 = omega arith in
    rw (p, q, P_zero) (omega arith)

sum_turn :
    (n a b d u v : ℕ) → P (n - ((a + b) + d)) + ((v + P a) + u) ≡ P (n - ((a + d) + b)) + ((u + P a) + v)
sum_turn n a b d u v =
    let p : n - ((a + b) + d) ≡ n - ((a + d) + b) = omega arith in
    rw p (omega arith)

-- cell (i, l) has the value that is expected where the subtrees of i and l are merged next
abbrev pub CellFits : ℕ → ℕ → (ℕ → ℕ → ℕ) → State → ℕ → ℕ → Type 0
CellFits n s c S i l = c i l ≡ s * (P (n - (size (S.tree i) + size (S.tree l))) + (S.m i + S.m l))

module _ (n s : ℕ) (c : ℕ → ℕ → ℕ) (halves : EqualHalves n c) where
  pub turn_fits : (S : State) (i l : ℕ) → i < n → l < n → CellFits n s c S i l → CellFits n s c S l i
  turn_fits S i l li ll e =
      rw (halves l i ll li, add_comm (size (S.tree l)) (size (S.tree i)), add_comm (S.m l) (S.m i)) e

  module _ (H : Tree) where
    -- Bound: no cell between two subtrees is above the value expected.
    bound_apart :
        {S : State} → WellFormed n S → (p q i j : ℕ) → Eligible n s c S p q → i < n → j < n
        → leaves ((step S p q).tree i) j ≡ false
        → c i j
        ≤ s *
        (P (n - (size ((step S p q).tree i) + size ((step S p q).tree j))) + ((step S p q).m i + (step S p q).m j))
        → c i j ≤ s * (P (n - (size (S.tree i) + size (S.tree j))) + (S.m i + S.m j))
    bound_apart {S} w p q i j e li lj f ih =
        let gi = growth w p q (differ e) i in
        let gj = growth w p q (differ e) j in
        let fit = rw (gi.1, gj.1) at (two_fit (wf_go w p q e) i j li lj f) in
        grow_le n s (c i j) _ _ gi.0 gj.0 _ _ fit (rw (gi.1, gj.1, gi.2, gj.2) at ih)

    bound_met :
        {S : State} → WellFormed n S → (p q i j : ℕ) → Eligible n s c S p q → leaves (S.tree p) i ≡ true
        → leaves (S.tree q) j ≡ true → CellFits n s c S i j
    bound_met w p q i j e a b = rw (w.closed p i a, w.closed q j b) (e.cells i j a b)

    pub bound :
        {S : State} → WellFormed n S → Reaches n s c H S → (i j : ℕ) → i < n → j < n → leaves (S.tree i) j ≡ false
        → c i j ≤ s * (P (n - (size (S.tree i) + size (S.tree j))) + (S.m i + S.m j))
    bound {S} w (stop one e) i j li lj h = absurd (never (one j lj) (rw (w.closed 0 i (one i li)) at h))
    bound {S} w (go p q e g) i j li lj h = elim (bool? (leaves ((step S p q).tree i) j)) [
      | inl t ↦ elim (met w p q (differ e) i j h t) [
        | inl r ↦ le_of_eq (bound_met w p q i j e r.0 r.1)
        | inr r ↦ le_of_eq (turn_fits S j i lj li (bound_met w p q j i e r.1 r.0))
      ]
      | inr f ↦ bound_apart w p q i j e li lj f (bound (wf_go w p q e) g i j li lj f)
    ]

    -- Two subtrees are all that is left: the next step is their merge, and then nothing more.
    abbrev AllIn : State → ℕ → ℕ → Type 0
    AllIn S i l = (k : ℕ) → k < n → (leaves (S.tree i) k || leaves (S.tree l) k) ≡ true

    last_two :
        {S : State} → WellFormed n S → (i l : ℕ) → i < n → l < n → leaves (S.tree i) l ≡ false → AllIn S i l
        → Reaches n s c H S → Eligible n s c S i l × Reaches n s c H (step S i l)
    last_two w i l li ll h all (stop one e) = absurd (never (one l ll) (rw (w.closed 0 i (one i li)) at h))
    last_two {S} w i l li ll h all (go p q e g) =
        elim (or_cases (leaves (S.tree i) p) (leaves (S.tree l) p) (all p e.left)) [
          | inl pi ↦ elim (or_cases (leaves (S.tree i) q) (leaves (S.tree l) q) (all q e.right)) [
            | inl qi ↦ absurd (never qi (rw (w.closed i p pi) at e.apart))
            | inr ql ↦ (eligible_move w p q i l li ll pi ql e, subst (Reaches n s c H) (step_move w p q i l pi ql) g)
          ]
          | inr pl ↦ elim (or_cases (leaves (S.tree i) q) (leaves (S.tree l) q) (all q e.right)) [
            | inl qi ↦
                let f = eligible_sym halves w p q e in
                let moved = step_sym w p q e ∙ step_move w q p i l qi pl in
                (eligible_move w q p i l li ll qi pl f, subst (Reaches n s c H) moved g)
            | inr ql ↦ absurd (never ql (rw (w.closed l p pl) at e.apart))
          ]
        ]

    pub last_one : {S : State} → WellFormed n S → Single n S → Reaches n s c H S → ordered (rerooted (S.tree 0)) ≡ H
    last_one w one (stop one' e) = e
    last_one w one (go p q e g) = absurd (single_stops w one p q e)

    last_tree : (S : State) (i l : ℕ) → i < n → AllIn S i l → (step S i l).tree 0 ≡ join (S.tree i) (S.tree l)
    last_tree S i l li all = step_in S i l 0 (all 0 (omega arith))

    last_single : (S : State) (i l : ℕ) → i < n → AllIn S i l → Single n (step S i l)
    last_single S i l li all k lk = rw (last_tree S i l li all, leaves_join) (all k lk)

    -- Two subtrees A and B are merged, by the step i j, and l is in a third, D.
    module _ {S : State} (w : WellFormed n S) (i j l : ℕ) (e : Eligible n s c S i j) (ll : l < n)
        (il : leaves (S.tree i) l ≡ false) (jl : leaves (S.tree j) l ≡ false) where
      tree_ab : (step S i j).tree i ≡ join (S.tree i) (S.tree j)
      tree_ab = step_in S i j i (or_left _ _ (w.own i))

      tree_d : (step S i j).tree l ≡ S.tree l
      tree_d = step_out S i j l (or_none _ _ il jl)

      apart_d : leaves ((step S i j).tree i) l ≡ false
      apart_d = rw (tree_ab, leaves_join) (or_none _ _ il jl)

      three_fit : (size (S.tree i) + size (S.tree j)) + size (S.tree l) ≤ n
      three_fit = rw (tree_ab, tree_d, size_join) at (two_fit (wf_go w i j e) i l e.left ll apart_d)

      -- where the three hold all leaves, and the last step joins them: A and D may be joined first
      pub first_too :
          n ≤ (size (S.tree i) + size (S.tree j)) + size (S.tree l) → Eligible n s c (step S i j) i l
          → Eligible n s c S i l
      first_too tight last = record {
        left = e.left;
        right = ll;
        apart = il;
        cells =
            λ x y p q.
            let m_x = step_m_left S i j x p (apart w i j e.apart x p) in
            let m_y = step_m_out S i j y (or_none _ _ (clear w i l y il q) (clear w j l y jl q)) in
            let in_ab : leaves ((step S i j).tree i) x ≡ true = rw (tree_ab, leaves_join) (or_left _ _ p) in
            let cell = rw (tree_ab, tree_d, size_join, m_x, m_y) at (last.cells x y in_ab (rw tree_d q)) in
            let sum =
            sum_last n (size (S.tree i)) (size (S.tree l)) (size (S.tree j)) (S.m x) (S.m y)
            (omega (arith, tight)) (omega (arith, three_fit)) in
            cell ∙ ap (λ z. s * z) (sym sum);
      }

    -- If the step i j leads to H, and cell (i, l) fits before it, these three are all that is left.
    module _ (sp : 0 < s) {S : State} (w : WellFormed n S) (i j l : ℕ) (e : Eligible n s c S i j) (ll : l < n)
        (il : leaves (S.tree i) l ≡ false) (jl : leaves (S.tree j) l ≡ false) (fits : CellFits n s c S i l)
        (g : Reaches n s c H (step S i j)) where
      abbrev A : Tree
      A = S.tree i

      abbrev B : Tree
      B = S.tree j

      abbrev D : Tree
      D = S.tree l

      ab : (step S i j).tree i ≡ join A B
      ab = tree_ab w i j l e ll il jl

      d : (step S i j).tree l ≡ D
      d = tree_d w i j l e ll il jl

      far : leaves ((step S i j).tree i) l ≡ false
      far = apart_d w i j l e ll il jl

      fit : (size A + size B) + size D ≤ n
      fit = three_fit w i j l e ll il jl

      tight : n ≤ (size A + size B) + size D
      tight =
          let m_i = step_m_left S i j i (w.own i) (apart w i j e.apart i (w.own i)) in
          let m_l = step_m_out S i j l (or_none _ _ il jl) in
          let most = rw (ab, d, size_join, m_i, m_l) at (bound (wf_go w i j e) g i l e.left ll far) in
          tight_sum n s _ _ _ (S.m i) (S.m l) sp (size_pos B) fit (rw fits at most)

      all_three : AllIn (step S i j) i l
      all_three = full (wf_go w i j e) i l e.left ll far (rw (ab, d, size_join) tight)

      -- the last step joins them
      last_step : Eligible n s c (step S i j) i l × Reaches n s c H (step (step S i j) i l)
      last_step = last_two (wf_go w i j e) i l e.left ll far all_three g

      three_rerooted : ordered (rerooted (join (join A B) D)) ≡ H
      three_rerooted =
          let w' = wf_go (wf_go w i j e) i l last_step.0 in
          let one = last_single (step S i j) i l e.left all_three in
          rw (last_tree (step S i j) i l e.left all_three, ab, d) at (last_one w' one last_step.1)

      -- so every cell of A and D fits, since that of i and l does
      pub pair_fits : Eligible n s c S i l
      pair_fits = first_too w i j l e ll il jl tight last_step.0

      -- A and D first, and then B: eligible too, with the same rerooted tree.
      abbrev R : State
      R = step S i l

      lj : leaves D j ≡ false
      lj = other_apart w j l jl

      r_ad : R.tree i ≡ join A D
      r_ad = tree_ab w i l j pair_fits e.right e.apart lj

      r_b : R.tree j ≡ B
      r_b = tree_d w i l j pair_fits e.right e.apart lj

      -- the value expected of the cells between A with D and B
      abbrev Expected : ℕ → ℕ → Type 0
      Expected x y = c x y ≡ s * (P (n - ((size A + size D) + size B)) + (R.m x + R.m y))

      m_b : (y : ℕ) → leaves B y ≡ true → R.m y ≡ S.m y
      m_b y q = step_m_out S i l y (or_none _ _ (clear w i j y e.apart q) (clear w l j y lj q))

      cell_a : (x y : ℕ) → leaves A x ≡ true → leaves B y ≡ true → Expected x y
      cell_a x y p q =
          let m_x = step_m_left S i l x p (apart w i l il x p) in
          let sum = sum_last n (size A) (size B) (size D) (S.m x) (S.m y) tight fit in
          rw (m_x, m_b y q) (e.cells x y p q ∙ ap (λ z. s * z) sum)

      cell_d : (x y : ℕ) → leaves D x ≡ true → leaves B y ≡ true → Expected x y
      cell_d x y p q =
          let x_not_a = clear w i l x il p in
          let y_not_a = clear w i j y e.apart q in
          let m_x = step_m_right S i l x x_not_a p in
          let before_x = step_m_out S i j x (or_none _ _ x_not_a (clear w j l x jl p)) in
          let before_y = step_m_right S i j y y_not_a q in
          let in_ab : leaves ((step S i j).tree i) y ≡ true = rw (ab, leaves_join) (or_right (leaves A y) _ q) in
          let known = rw (ab, d, size_join, before_x, before_y) at (last_step.0.cells y x in_ab (rw d p)) in
          let swapped = halves x y (w.below l x ll p) (w.below j y e.right q) in
          let sum = sum_turn n (size A) (size B) (size D) (S.m x) (S.m y) in
          rw (m_x, m_b y q, swapped) (known ∙ ap (λ z. s * z) sum)

      other_step : Eligible n s c R i j
      other_step = record {
        left = e.left;
        right = e.right;
        apart = apart_d w i l j pair_fits e.right e.apart lj;
        cells = λ x y p q.
            let in_ad = rw (r_ad, leaves_join) at p in
            let in_b = rw r_b at q in
            rw (r_ad, r_b, size_join) (elim (or_cases (leaves A x) (leaves D x) in_ad) [
              | inl a ↦ cell_a x y a in_b
              | inr a ↦ cell_d x y a in_b
            ]);
      }

      all_other : AllIn R i j
      all_other =
          full (wf_go w i l pair_fits) i j e.left e.right other_step.apart
          (rw (r_ad, r_b, size_join) (omega (arith, tight)))

      same_rerooted : ordered (rerooted ((step R i j).tree 0)) ≡ H
      same_rerooted =
          let z = rw (ab, d, leaves_join) at (all_three 0 (omega (arith, e.left))) in
          let turned_round = rerooted_three A B D (w.distinct i) (w.distinct j) (w.distinct l)
          (apart w i j e.apart) (apart w i l il) (apart w j l jl) z in
          rw (last_tree R i j e.left all_other, r_ad, r_b) (sym turned_round ∙ three_rerooted)

      pub three_left : Reaches n s c H R
      three_left = go i j other_step (stop (last_single R i j e.left all_other) same_rerooted)
