-- The merges of leaf t's subtree: they begin, each with a partner adds a row, and they end where no partner is left.
-- The idea: a pair of two other subtrees that was not eligible stays so, since no merge touches it.
use mathlib.Core.Path.{◌≡◌, refl, sym, ap, ◌∙◌}
use mathlib.Core.Logic.{◌≢◌, inl, inr}
use mathlib.Core.Bool.{true, false, ◌||◌}
use mathlib.Core.List.{List, [], ◌∷◌, ◌++◌}
use Prim.Native.Nat.{ℕ, ◌+◌, ◌*◌, ◌≤◌, ◌<◌}
use native.Mathlib.Omega.{arith}
use native.Mathlib.Decide.{dec_lt, ℕ_discrete}
use lib.ListN.{length, get_or, set, take, replicate, length-set}
use lib.Seq.{length-take-le, get_or-set_same, get_or-set_other}
use Rattle.base.specs.Lists.{filled}
use Rattle.base.proofs.Bools.{bool?, never, is_false, or_left, or_none, or_neither}
use Rattle.limits.specs.Limits.{most_leaves}
use Rattle.trees.specs.Trees.{leaves, least, join}
use Rattle.trees.specs.Listings.{subtree_at}
use Rattle.trees.specs.Tables.{cell}
use Rattle.trees.proofs.Trees.{leaf_eq, least_in, least_le, leaves_join, join_in_order, least_join}
use Rattle.trees.proofs.Tables.{halves_equal}
use Rattle.trees.specs.inner.Forests.{uses, lawful}
use Rattle.trees.proofs.Forests.{unused_is, forest_start, lawful_forest}
use Rattle.trees.proofs.SubtreesByRow.{subtree_at_leaf}
use Rattle.merging.specs.Merging.{State, start, step}
use Rattle.merging.proofs.States.{WellFormed, wf_start, step_in, step_out}
use Rattle.merging.specs.inner.Runs.{halt, Eligible}
use Rattle.merging.proofs.Runs.{differ, wf_go, wf_runs, runs_more, eligible_sym, eligible_move, eligible_back}
use Rattle.merging.proofs.Runs.{subtrees_step}
use Rattle.merging.proofs.MergeLists.{subtrees_start, subtrees_pos}
use Rattle.state_arrays.specs.inner.Fits.{Given, SizesFit}
use Rattle.leaf_merges.specs.inner.Partners.{Joins}
use Rattle.state_arrays.specs.inner.Merged.{MergeReady, Merged}
use Rattle.state_arrays.specs.inner.StateArrays.{HoldsState}
use Rattle.leaf_merges.specs.inner.LeafMerges.{UnusedNumber, Listed, Current, MergingLeaf, LeavesMerged}
use Rattle.state_arrays.proofs.StateArrays.{is_least, fits_eligible, eligible_fits, fair, two_merges, still}
use Rattle.state_arrays.proofs.StateArrays.{holds_step, filled_own, filled_long, holds_start}
use Rattle.trees.proofs.AddedRows.{row_kept, node_unused, still_unused, subtree_at_new, subtree_at_old, row_stored}

-- The subtrees labelled i and k, 0 < i < k, which are to be merged.
module _ {n s : ℕ} {S : State} (w : WellFormed n S) {label m sizes names rows : List ℕ} {r : ℕ}
    (h : HoldsState n s label m sizes S) (l : Listed n label names rows r S) {c : ℕ → ℕ → ℕ} (i k : ℕ) (zi : 0 < i)
    (ik : i < k) (oi : get_or label i 0 ≡ i) (ok : get_or label k 0 ≡ k) (e : Eligible n s c S i k) where
  -- there is room for one more row
  pub row_room : r + 2 ≤ n
  row_room =
      let z : 0 < n = omega (arith, e.left) in
      omega (arith, l.counted, subtrees_step w i k e, subtrees_pos (wf_go w i k e) z)

  abbrev a : ℕ
  a = get_or names i 0

  abbrev b : ℕ
  b = get_or names k 0

  abbrev old : List ℕ
  old = take (2 * r) rows

  -- the name of a label comes before the new node, and two labels have two
  abbrev Name : ℕ → Type 0
  Name x = UnusedNumber n old (get_or names x 0) (S.tree x)

  name_i : Name i
  name_i = l.named i zi e.left oi

  name_k : Name k
  name_k = l.named k (omega arith) e.right ok

  names_differ :
      (x y : ℕ) → x < n → y < n → get_or label x 0 ≡ x → get_or label y 0 ≡ y → Name x → Name y → x ≢ y
      → get_or names x 0 ≢ get_or names y 0
  names_differ x y lx ly ox oy u v z q =
      z (sym (is_least w h x lx ox) ∙ ap least (sym u.1 ∙ ap (subtree_at n old) q ∙ v.1) ∙ is_least w h y ly oy)

  module _ (few : n ≤ most_leaves) where
    long : length old ≡ 2 * r
    long = length-take-le (2 * r) rows (omega (arith, l.rows_long, row_room))

    below : (x : ℕ) → Name x → get_or names x 0 < n + r
    below x u =
        (lawful_forest (forest_start n (omega (arith, row_room))) r old long l.kept).below (get_or names x 0) u.0

    pub names_small : (a < 2 * most_leaves) × (b < 2 * most_leaves)
    names_small = (omega (arith, below i name_i, row_room), omega (arith, below k name_k, row_room))

    -- The rows after the merge.
    abbrev names' : List ℕ
    names' = set names i (n + r)

    abbrev rows' : List ℕ
    rows' = set (set rows (2 * r) a) (2 * r + 1) b

    -- the rows written are the old ones and the new one
    added : take (2 * (r + 1)) rows' ≡ old ++ (a ∷ b ∷ [])
    added = row_stored rows r a b (omega (arith, l.rows_long, row_room))

    new_node : subtree_at n (old ++ (a ∷ b ∷ [])) (n + r) ≡ (step S i k).tree i
    new_node =
        let less : least (S.tree i) < least (S.tree k) =
        rw (is_least w h i e.left oi, is_least w h k e.right ok) ik in
        subtree_at_new n r old long a b
        ∙ rw (name_i.1, name_k.1, step_in S i k i (or_left _ _ (w.own i)))
        (sym (join_in_order (S.tree i) (S.tree k) less))

    module _ {t p : List ℕ} (g : Given n s t p) {label' m' sizes' : List ℕ}
        (d : Merged n label m sizes p label' m' sizes' i k) where
      named' :
          (x : ℕ) → 0 < x → x < n → get_or label' x 0 ≡ x
          → UnusedNumber n (old ++ (a ∷ b ∷ [])) (get_or names' x 0) ((step S i k).tree x)
      named' x zx lx o = elim (ℕ_discrete x i) [
        | yes z ↦
            let own_name = get_or-set_same names i (n + r) 0 (omega (arith, l.names_long, e.left)) in
            rw (z, own_name) (node_unused n r old long a b, new_node)
        | no z ↦
            let u = still w h i k ik oi ok (differ e) g d x lx o z in
            let v = l.named x zx lx u.0 in
            let not_i = names_differ x i lx e.left u.0 oi v name_i z in
            let not_k = names_differ x k lx e.right u.0 ok v name_k u.1 in
            rw (get_or-set_other names i x (n + r) 0 z, u.2) (
              still_unused n r old long a b (get_or names x 0) v.0 not_i not_k,
              subtree_at_old n r old long a b (get_or names x 0) (below x v) ∙ v.1,
            )
      ]

      pub listed_step : Listed n label' names' rows' (r + 1) (step S i k)
      listed_step = record {
        names_long = length-set names i (n + r) ∙ l.names_long;
        rows_long = length-set (set rows (2 * r) a) (2 * r + 1) b ∙ length-set rows (2 * r) a ∙ l.rows_long;
        kept =
            let apart_names = names_differ i k e.left e.right oi ok name_i name_k (omega arith) in
            rw added (row_kept n r old long a b l.kept name_i.0 name_k.0 apart_names);
        named = rw added named';
        counted = omega (arith, l.counted, subtrees_step w i k e);
      }

-- Single leaves: the arrays as they are made, with each leaf's own label and its own number.
module _ (n : ℕ) (few : n ≤ most_leaves) where
  listed_start :
      {label names rows : List ℕ} → names ≡ filled n (λ k. k) (replicate most_leaves 0)
      → rows ≡ replicate (2 * most_leaves) 0 → Listed n label names rows 0 start
  unfolding start lawful uses
  listed_start e z = record {
    names_long = filled_long n few e;
    rows_long = rw z;
    kept = refl;
    named = λ k p l o. rw (filled_own n few e k l) (unused_is n k p l, subtree_at_leaf n [] k l);
    counted = omega (arith, subtrees_start n);
  }

  pub leaves_merged_start :
      {s : ℕ} (table : List ℕ) {label names : List ℕ} → label ≡ filled n (λ k. k) (replicate most_leaves 0)
      → names ≡ filled n (λ k. k) (replicate most_leaves 0)
      → LeavesMerged n s table label (replicate most_leaves 0) (replicate most_leaves 1) names
      (replicate (2 * most_leaves) 0) 0 n
  unfolding start
  leaves_merged_start table e e' = record {
    state = start;
    forest = record { came = halt; holds = holds_start n few e; listed = listed_start e' refl };
    done = record { low = λ k l. refl; spent = λ a b na nb p. absurd (omega (arith, p.left)) };
  }

-- The merges of a leaf begin: it is its own subtree.
pub begin :
    {n s : ℕ} {table label m sizes names rows : List ℕ} {r t : ℕ} → 0 < t
    → LeavesMerged n s table label m sizes names rows r (t + 1) → MergingLeaf n s table label m sizes names rows r t
begin {t = t} z b = record {
  state = b.state;
  forest = b.forest;
  current = record {
    positive = z;
    low = λ k l. b.done.low k (omega arith);
    own = rw (b.done.low t (omega arith)) (unfold least in refl);
    spent = λ x y lx ly p q e. b.done.spent x y (omega arith) (omega arith) e;
  };
}

module _ {n s : ℕ} {table p label m sizes names rows : List ℕ} {r t : ℕ} (g : Given n s table p)
    (b : MergingLeaf n s table label m sizes names rows r t) (lt : t < n) where
  abbrev S : State
  S = b.state

  w : WellFormed n b.state
  w = wf_runs (wf_start n) b.forest.came

  pub own_label : get_or label t 0 ≡ t
  own_label = b.forest.holds.labels t lt ∙ b.current.own

  pub leaf_merge_sizes_fit : SizesFit n table label m sizes p
  leaf_merge_sizes_fit = fair w b.forest.holds g

  -- A merge with the partner k.
  module _ (k : ℕ) (lk : k < n) (f : (t < k) × Joins n table label m sizes p t k) where
    abbrev tk : t < k
    tk = f.0

    abbrev ok : get_or label k 0 ≡ k
    ok = f.1.0

    pair : Eligible n s (cell n table) b.state t k
    pair = fits_eligible w b.forest.holds g t k lt lk own_label ok (omega (arith, tk)) f.1.1

    pub merges : MergeReady n label m sizes p t k
    merges = two_merges w b.forest.holds (record {
      fair = leaf_merge_sizes_fit;
      first = lt;
      second = lk;
      differ = omega (arith, tk);
      own_first = own_label;
      own_second = ok;
    })

    -- leaves below t are in neither subtree
    low_out : (x : ℕ) → x < t → (leaves (b.state.tree t) x || leaves (b.state.tree k) x) ≡ false
    low_out x l = or_none _ _ (out t l lt own_label) (out k (omega arith) lk ok)
      where
        out : (j : ℕ) → x < j → j < n → get_or label j 0 ≡ j → leaves (b.state.tree j) x ≡ false
        out j xj lj oj = is_false (leaves (b.state.tree j) x) (λ in_j.
            omega (arith, least_le (b.state.tree j) x in_j, is_least w b.forest.holds j lj oj))

    current_step : Current n s table t (step b.state t k)
    current_step = record {
      positive = b.current.positive;
      low = λ x l. step_out b.state t k x (low_out x l) ∙ b.current.low x l;
      own = rw joined (least_join (b.state.tree t) (b.state.tree k) less ∙ b.current.own);
      spent = λ x y lx ly px py e.
          let qx = rw (joined, leaves_join) at px in
          let qy = rw (joined, leaves_join) at py in
          b.current.spent x y lx ly (or_neither (leaves (b.state.tree t) x) (leaves (b.state.tree k) x) qx).0
          (or_neither (leaves (b.state.tree t) y) (leaves (b.state.tree k) y) qy).0
          (eligible_back w t k x y qx qy e);
    }
      where
        less : least (b.state.tree t) < least (b.state.tree k)
        less = rw (b.current.own, is_least w b.forest.holds k lk ok) tk

        joined : (step b.state t k).tree t ≡ join (b.state.tree t) (b.state.tree k)
        joined = step_in b.state t k t (or_left _ _ (w.own t))

    pub leaf_merge_room : r + 2 ≤ n
    leaf_merge_room = row_room w b.forest.holds b.forest.listed t k b.current.positive tk own_label ok pair

    pub leaf_merge_names : (get_or names t 0 < 2 * most_leaves) × (get_or names k 0 < 2 * most_leaves)
    leaf_merge_names =
        names_small w b.forest.holds b.forest.listed t k b.current.positive tk own_label ok pair
        g.leaf_count.1

    pub leaf_merge_step :
        {label' m' sizes' names' rows' : List ℕ} → Merged n label m sizes p label' m' sizes' t k
        → names' ≡ set names t (n + r)
        → rows' ≡ set (set rows (2 * r) (get_or names t 0)) (2 * r + 1) (get_or names k 0)
        → MergingLeaf n s table label' m' sizes' names' rows' (r + 1) t
    leaf_merge_step d en er =
        let h = b.forest.holds in
        let few = g.leaf_count.1 in
        let l = listed_step w h b.forest.listed t k b.current.positive tk own_label ok pair few g d in
        record {
          state = step b.state t k;
          forest = record {
            came = runs_more b.forest.came t k pair;
            holds = holds_step w h t k tk own_label ok (differ pair) g d;
            listed = rw (en, er) l;
          };
          current = current_step;
        }

  -- The merges of a leaf end: no label after t may be merged with t.
  module _ (miss : (k : ℕ) → t < k → k < n → Joins n table label m sizes p t k → ⊥) where
    -- a pair with a leaf of t's subtree would have been found, at the least leaf of the other one
    with_t :
        (x y : ℕ) → t ≤ y → leaves (b.state.tree t) x ≡ true → Eligible n s (cell n table) b.state x y → ⊥
    with_t x y ty px e = miss k tk lk (ok, eligible_fits w b.forest.holds g t k lt lk own_label ok moved)
      where
        k : ℕ
        k = least (b.state.tree y)

        k_in : leaves (b.state.tree y) k ≡ true
        k_in = least_in (b.state.tree y)

        same : b.state.tree k ≡ b.state.tree y
        same = w.closed y k k_in

        lk : k < n
        lk = w.below y k e.right k_in

        ok : get_or label k 0 ≡ k
        ok = b.forest.holds.labels k lk ∙ ap least same

        moved : Eligible n s (cell n table) b.state t k
        moved = eligible_move w x y t k lt lk px (rw same (w.own y)) e

        tk : t < k
        tk = elim (dec_lt t k) [
          | yes l ↦ l
          | no f ↦ elim (ℕ_discrete k t) [
            | yes z ↦ absurd (never (w.own t) (rw z at moved.apart))
            | no z ↦ absurd (omega (arith, leaf_eq y k (rw (← same, b.current.low k (omega arith)) at (w.own y))))
          ]
        ]

    pub leaf_merge_over : LeavesMerged n s table label m sizes names rows r t
    leaf_merge_over = record {
      state = b.state;
      forest = b.forest;
      done = record {
        low = b.current.low;
        spent = λ x y tx ty e. elim (bool? (leaves (b.state.tree t) x)) [
          | inl px ↦ with_t x y ty px e
          | inr px ↦ elim (bool? (leaves (b.state.tree t) y)) [
            | inl py ↦ with_t y x tx py (eligible_sym (halves_equal g.is_table) w x y e)
            | inr py ↦ b.current.spent x y (above x tx px) (above y ty py) px py e
          ]
        ];
      };
    }
      where
        above : (x : ℕ) → t ≤ x → leaves (b.state.tree t) x ≡ false → t < x
        above x tx px = elim (ℕ_discrete x t) [ yes z ↦ absurd (never (w.own t) (rw z at px)) | no z ↦ omega arith ]
