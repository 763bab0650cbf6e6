-- The tree left by n − 1 merges of different subtrees has just the edges that 01 names: those of the leaves, and of the
-- subtrees that merges other than the last made. The idea: a state's subtrees are the leaves and what was made;
-- rerooting keeps edges.
use mathlib.Core.Path.{◌≡◌, refl, ap, sym, ◌∙◌, subst}
use mathlib.Core.Logic.{◌⊎◌, inl, inr}
use mathlib.Core.Bool.{Bool, true, ◌||◌}
use mathlib.Core.List.{List, [], ◌∷◌, ◌++◌, map}
use Prim.Native.Nat.{ℕ, ◌-◌, ◌≤◌, ◌<◌}
use native.Mathlib.Omega.{arith}
use lib.ListN.{length}
use lib.Seq.{get_or_at}
use Rattle.base.specs.Lists.{tab, any_in, all_in}
use Rattle.base.proofs.Bools.{bool?, or_left, or_right, or_none, or_cases, and_is}
use Rattle.base.proofs.Lists.{any_append, any_map, all_map, any_tab_found, every_append, every_tab, but_last}
use Rattle.base.proofs.Lists.{split_last}
use Rattle.limits.specs.Limits.{IsLeafCount}
use Rattle.trees.specs.Trees.{Tree, leaf, node, leaves, least, join, ordered}
use Rattle.trees.specs.Rerooting.{IsHeld, rerooted}
use Rattle.trees.specs.Listings.{tree_of}
use Rattle.trees.specs.Edges.{one_edge, is_edge}
use Rattle.trees.specs.Tables.{cell}
use Rattle.trees.proofs.Trees.{leaves_join, join_either, Drawn, drawn_on, tree_size}
use Rattle.trees.proofs.Subtrees.{In, in_whole, in_join, join_left, join_right, leaf_in, every_edge, edge_count}
use Rattle.trees.proofs.Subtrees.{same_sym, same_trans, one_edge_is, subtree_edge, ordered_to, ordered_of}
use Rattle.trees.proofs.Subtrees.{part_join, join_part}
use Rattle.trees.proofs.Rerooting.{held_on, held_same, rerooted_side, rerooted_part}
use Rattle.merging.specs.Merging.{State, start, merge, step}
use Rattle.merging.specs.MergeLists.{Pair, run, after, each_eligible, final_tree, final_listing}
use Rattle.merging.specs.FinalEdges.{made, sides, FinalEdges}
use Rattle.merging.specs.inner.Runs.{Differ}
use Rattle.merging.proofs.States.{WellFormed, Single, wf_start, step_in, step_out, wf_step}
use Rattle.merging.proofs.MergeLists.{Merges, wf_run, run_last, wf_after, full_single, single_held}
use Rattle.merging.proofs.MergeLists.{single_drawn, final_read}
use Rattle.merging.proofs.Runs.{allowed_merges}

-- four merges of five leaves give eight sides: the leaves, and the three subtrees made before the last merge
sides_example : length (sides 5 ((3, 4) ∷ (0, 1) ∷ (2, 3) ∷ (0, 2) ∷ [])) ≡ 8
unfolding sides tab made start step merge leaves join least
sides_example = refl

-- The subtrees of a state, after one step and after a list.
module _ (n : ℕ) where
  step_keeps :
      {S : State} → WellFormed n S → (i j k : ℕ) (X : Tree) → In X (S.tree k) → In X ((step S i j).tree k)
  step_keeps {S} w i j k X h = elim (bool? (leaves (S.tree i) k)) [
    | inl a ↦
        rw (step_in S i j k (or_left _ _ a)) (join_left X (S.tree i) (S.tree j) (rw (w.closed i k a) at h))
    | inr a ↦ elim (bool? (leaves (S.tree j) k)) [
      | inl b ↦
          let met_k = step_in S i j k (or_right (leaves (S.tree i) k) _ b) in
          rw met_k (join_right X (S.tree i) (S.tree j) (rw (w.closed j k b) at h))
      | inr b ↦ rw (step_out S i j k (or_none _ _ a b)) h
    ]
  ]

  step_cases :
      (S : State) (i j k : ℕ) → i < n → j < n → k < n → (X : Tree) → In X ((step S i j).tree k)
      → (X ≡ join (S.tree i) (S.tree j)) ⊎ ((l : ℕ) × (l < n) × In X (S.tree l))
  step_cases S i j k li lj lk X h = elim (bool? (leaves (S.tree i) k || leaves (S.tree j) k)) [
    | inl t ↦ elim (in_join X (S.tree i) (S.tree j) (rw (step_in S i j k t) at h)) [
      | inl e ↦ inl e
      | inr g ↦ elim g [ inl a ↦ inr (i, li, a) | inr b ↦ inr (j, lj, b) ]
    ]
    | inr f ↦ inr (k, lk, rw (step_out S i j k f) at h)
  ]

  step_makes : {S : State} → WellFormed n S → (i j : ℕ) → In (join (S.tree i) (S.tree j)) ((step S i j).tree i)
  step_makes {S} w i j = rw (step_in S i j i (or_left _ _ (w.own i))) (in_whole (join (S.tree i) (S.tree j)))

  run_keeps :
      (S : State) → WellFormed n S → (L : List Pair) → Merges n S L → (k : ℕ) (X : Tree)
      → In X (S.tree k) → In X ((run S L).tree k)
  unfolding run
  run_keeps S w [] m k X h = h
  run_keeps S w (p ∷ L) m k X h =
      run_keeps (step S p.0 p.1) (wf_step w p.0 p.1 m.0) L m.1 k X (step_keeps w p.0 p.1 k X h)

  -- what a list makes is a subtree of the state that it leaves
  every_made :
      (f : Tree → Bool) (S : State) → WellFormed n S → (L : List Pair) → Merges n S L
      → ((k : ℕ) (X : Tree) → k < n → In X ((run S L).tree k) → f X ≡ true) → all_in f (made S L) ≡ true
  unfolding run made all_in
  every_made f S w [] m h = refl
  every_made f S w (p ∷ L) m h =
      let w' = wf_step w p.0 p.1 m.0 in
      let first = run_keeps (step S p.0 p.1) w' L m.1 p.0 _ (step_makes w p.0 p.1) in
      and_is _ _ (h p.0 _ m.0.left first) (every_made f (step S p.0 p.1) w' L m.1 h)

  -- and what is one was one before, or was made
  any_made :
      (f : Tree → Bool) (S : State) (L : List Pair) → Merges n S L → (k : ℕ) (X : Tree) → k < n
      → In X ((run S L).tree k) → f X ≡ true
      → ((l : ℕ) × (l < n) × In X (S.tree l)) ⊎ (any_in f (made S L) ≡ true)
  unfolding run made any_in
  any_made f S [] m k X l h t = inl (k, l, h)
  any_made f S (p ∷ L) m k X l h t = elim (any_made f (step S p.0 p.1) L m.1 k X l h t) [
    | inl r ↦ elim (step_cases S p.0 p.1 r.0 m.0.left m.0.right r.1 X r.2) [
      | inl e ↦ inr (or_left _ _ (rw e at t))
      | inr q ↦ inl q
    ]
    | inr g ↦ inr (or_right (f (join (S.tree p.0) (S.tree p.1))) _ g)
  ]

  -- the last merge of a list
  merges_last :
      (S : State) (M : List Pair) (p : Pair) → Merges n S (M ++ (p ∷ []))
      → Merges n S M × Differ n (run S M) p.0 p.1
  unfolding run
  merges_last S [] p m = (tt, m.0)
  merges_last S (q ∷ M) p m =
      let r = merges_last (step S q.0 q.1) M p m.1 in
      ((m.0, r.0), r.1)

made_last : (S : State) (M : List Pair) (p : Pair) → (X : Tree) × (made S (M ++ (p ∷ [])) ≡ made S M ++ (X ∷ []))
unfolding made
made_last S [] p = (join (S.tree p.0) (S.tree p.1), refl)
made_last S (q ∷ M) p = let r = made_last (step S q.0 q.1) M p in (r.0, rw r.1)

-- A list L of n − 1 merges: M, and then p, which joins A and B.
module _ (n : ℕ) (big : 3 ≤ n) (M : List Pair) (p : Pair) (size_M : length M ≡ n - 2)
    (many : length (M ++ (p ∷ [])) ≡ n - 1) (ok : Merges n start (M ++ (p ∷ []))) where
  abbrev L : List Pair
  L = M ++ (p ∷ [])

  abbrev S : State
  S = run start M

  abbrev A : Tree
  A = S.tree p.0

  abbrev B : Tree
  B = S.tree p.1

  last : Merges n start M × Differ n S p.0 p.1
  last = merges_last n start M p ok

  wf_S : WellFormed n S
  wf_S = wf_run start (wf_start n) M last.0

  wf_L : WellFormed n (after L)
  wf_L = wf_after L ok

  one : Single n (after L)
  one = full_single (omega arith) L many ok

  whole_tree : (after L).tree 0 ≡ join A B
  whole_tree =
      let in_p = wf_L.closed 0 p.0 (one p.0 last.1.left) in
      let after_is : after L ≡ step S p.0 p.1 = unfold after in run_last start M p in
      sym in_p
      ∙ ap (λ (R : State). R.tree p.0) after_is
      ∙ step_in S p.0 p.1 p.0 (or_left _ _ (wf_S.own p.0))

  held : IsHeld n (join A B)
  held = rw whole_tree at (single_held wf_L one (omega arith))

  -- the tree left
  abbrev T : Tree
  T = ordered (rerooted (join A B))

  d : Drawn n T
  d = rw whole_tree at (single_drawn wf_L one (omega arith))

  tree_is : tree_of n (final_listing n L) ≡ T
  unfolding final_tree
  tree_is = rw whole_tree at (final_read n big L wf_L one)

  two : (k : ℕ) → k < n → (leaves A k || leaves B k) ≡ true
  two k l = rw (whole_tree, leaves_join) at (one k l)

  -- the leaves, and what the merges of M made, are the subtrees of A and B
  abbrev parts : List Tree
  parts = tab n leaf ++ made start M

  sides_are : sides n L ≡ map leaves parts
  unfolding sides
  sides_are = let r = made_last start M p in rw (r.1, but_last (made start M) r.0)

  in_two : (k : ℕ) → k < n → (X : Tree) → In X (S.tree k) → In X A ⊎ In X B
  in_two k l X g = elim (or_cases (leaves A k) (leaves B k) (two k l)) [
    | inl a ↦ inl (rw (wf_S.closed p.0 k a) at g)
    | inr b ↦ inr (rw (wf_S.closed p.1 k b) at g)
  ]

  every_part : (f : Tree → Bool) → ((X : Tree) → In X A ⊎ In X B → f X ≡ true) → all_in f parts ≡ true
  every_part f h =
      every_append f (tab n leaf) (made start M)
      (every_tab f n leaf (λ k l. h (leaf k) (in_two k l (leaf k) (leaf_in k (S.tree k) (wf_S.own k)))))
      (every_made n f start (wf_start n) M last.0 (λ k X l g. h X (in_two k l X g)))

  any_part : (f : Tree → Bool) (X : Tree) → In X A ⊎ In X B → f X ≡ true → any_in f parts ≡ true
  any_part f X g t = rw (any_append f (tab n leaf) (made start M)) (elim g [
    | inl a ↦ from p.0 last.1.left a
    | inr b ↦ from p.1 last.1.right b
  ])
    where
      from : (k : ℕ) → k < n → In X (S.tree k) → (any_in f (tab n leaf) || any_in f (made start M)) ≡ true
      from k l h = elim (any_made n f start M last.0 k X l h t) [
        | inl r ↦
            let is : X ≡ leaf r.0 = unfold start in r.2 in
            or_left _ _ (any_tab_found f leaf n r.0 r.1 (rw is at t))
        | inr m ↦ or_right (any_in f (tab n leaf)) _ m
      ]

  -- each part is an edge of the tree left, and each edge of it is a part
  part_edge : (X : Tree) → In X A ⊎ In X B → is_edge n T (leaves X) ≡ true
  part_edge X g =
      let r = rerooted_side n (join A B) (omega arith) held X (part_join X A B g) in
      let q = ordered_to (rerooted (join A B)) r.0 r.1 in
      subtree_edge n T X q.0 q.1 (same_trans n X r.0 q.0 r.2 (inl (λ k l. q.2 k)))

  edge_part : (Y : Tree) → In Y T → any_in (one_edge n (leaves Y)) (map leaves parts) ≡ true
  edge_part Y g =
      let q = ordered_of (rerooted (join A B)) Y g in
      let r = rerooted_part n (join A B) (omega arith) held q.0 q.1 in
      let same = same_trans n Y q.0 r.0 (inl (λ k l. sym (q.2 k))) r.2 in
      rw (any_map (one_edge n (leaves Y)) leaves parts)
      (any_part (λ X. one_edge n (leaves Y) (leaves X)) r.0 (join_part r.0 A B r.1)
      (one_edge_is n Y r.0 same))

  -- the two subtrees joined last
  last_sides : one_edge n (leaves A) (leaves B) ≡ true
  last_sides = one_edge_is n A B (elim (join_either A B) [
    | inl e ↦ held_same n A B (held_on n (node A B) (rw e at held))
    | inr e ↦ same_sym n B A (held_same n B A (held_on n (node B A) (rw e at held)))
  ])

  the_edges : FinalEdges n L
  the_edges = record {
    each_is_a_side =
        rw (tree_is, sides_are, all_map (is_edge n T) leaves parts)
        (every_part (λ X. is_edge n T (leaves X)) part_edge);
    no_other_edge =
        rw (tree_is, sides_are) (every_edge (λ e. any_in (one_edge n e) (map leaves parts)) T edge_part);
    so_many = rw tree_is (omega (arith, edge_count T, tree_size n T (drawn_on n T d) (omega arith)));
    joined_last = rw (but_last M p, get_or_at M p [] (0, 0) (n - 2) size_M) (unfold after in last_sides);
  }

-- the tree left by n − 1 merges of different subtrees has the edges that 01 names
merged_edges :
    (n : ℕ) → 3 ≤ n → (L : List Pair) → length L ≡ n - 1 → Merges n start L → FinalEdges n L
merged_edges n big L many ok =
    let cut = split_last (n - 2) L (omega arith) in
    let many' = subst (λ (K : List Pair). length K ≡ n - 1) cut.3 many in
    let ok' = subst (Merges n start) cut.3 ok in
    subst (FinalEdges n) (sym cut.3) (the_edges n big cut.0 cut.1 cut.2 many' ok')

-- so has that left by n − 1 eligible ones
pub final_edges :
    (n : ℕ) → IsLeafCount n → (s : ℕ) (t : List ℕ) (L : List Pair) → length L ≡ n - 1
    → each_eligible n s t L ≡ true → FinalEdges n L
unfolding each_eligible
final_edges n count s t L many ok =
    merged_edges n count.0 L many (allowed_merges n s (cell n t) start (wf_start n) L ok)
