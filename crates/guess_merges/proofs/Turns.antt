-- One merge of the guess: the arrays hold the next state. The idea: a merge changes the sums of the new subtree alone,
-- so that all other pairs keep their order; and the values written are those expected of the cells that it brings
-- together.
use mathlib.Core.Path.{◌≡◌, refl, ap, sym, ◌∙◌}
use mathlib.Core.Logic.{◌≢◌}
use mathlib.Core.Bool.{true, false, ◌||◌}
use mathlib.Core.List.{List}
use Prim.Native.Nat.{ℕ, ◌+◌, ◌-◌, ◌<◌}
use native.Mathlib.Omega.{arith}
use native.Mathlib.Decide.{ℕ_discrete}
use lib.ListN.{length, get_or}
use lib.Seq.{get_or-set_other}
use Rattle.base.proofs.Bools.{or_none}
use Rattle.limits.specs.Limits.{most_leaves}
use Rattle.trees.specs.Trees.{leaves, least}
use Rattle.trees.specs.Tables.{cell}
use Rattle.trees.proofs.Tables.{halves_equal}
use Rattle.packed_tables.specs.Packed.{packed_cells}
use Rattle.packed_tables.proofs.PackedIsTable.{both_ways}
use Rattle.merging.specs.Merging.{State, step, expected}
use Rattle.merging.specs.MergeLists.{after}
use Rattle.merging.specs.Guesses.{gap_sum}
use Rattle.merging.specs.inner.Runs.{Differ}
use Rattle.merging.proofs.States.{WellFormed, wf_step}
use Rattle.merging.proofs.Values.{expected_most}
use Rattle.merging.proofs.Soundness.{CellsWithin, within_written}
use Rattle.merging.proofs.Means.{gap_sum_keep, gap_sum_turn}
use Rattle.state_arrays.specs.inner.Fits.{SizesFit}
use Rattle.state_arrays.specs.inner.Merged.{MergeReady, Merged}
use Rattle.state_arrays.specs.inner.StateArrays.{HoldsState}
use Rattle.state_arrays.proofs.StateArrays.{fair, two_merges, holds_step, still, label_is, relabel_other, two_apart}
use Rattle.state_arrays.proofs.StateArrays.{expected_is, in_label, label_in}
use Rattle.gap_sums.specs.inner.PairPlaces.{pair_place, place_of}
use Rattle.gap_sums.specs.inner.GapSums.{subtree_gaps, Stored}
use Rattle.gap_sums.proofs.PairPlaces.{place_up, place_down}
use Rattle.nearest_pairs.specs.inner.Nearest.{kept_mean, taken_before, TwoLabels, TakenFirst, RowBut, Partner}
use Rattle.nearest_pairs.specs.inner.Nearest.{Partners, Outdated}
use Rattle.guess_merges.specs.inner.Blocks.{cell_in, SmallValues, BlockPut}
use Rattle.guess_merges.specs.inner.Guessing.{KeepsGaps, GuessGiven, HoldsGuess}
use Rattle.guess_merges.proofs.Sums.{subtree_gaps_are}

-- The subtrees labelled a < b, which are to be merged.
module _ {n s : ℕ} {t p : List ℕ} (g : GuessGiven n s t p) {S : State} (w : WellFormed n S)
    {label m sizes sums partners own : List ℕ} (h : HoldsGuess n s t label m sizes sums partners own S)
    {a b : ℕ} (two : TwoLabels n label a b) where
  la : a < n
  la = omega (arith, two.rising, two.below)

  differ_ab : a ≢ b
  differ_ab e = omega (arith, two.rising)

  pub pair_differ : Differ n S a b
  pair_differ = record {
    left = la;
    right = two.below;
    apart = two_apart w h.holds a la two.own_first b two.below two.own_second differ_ab;
  }

  f : SizesFit n t label m sizes p
  f = fair w h.holds g.given

  pub merge_ready : MergeReady n label m sizes p a b
  merge_ready = two_merges w h.holds (record {
    fair = f;
    first = la;
    second = two.below;
    differ = differ_ab;
    own_first = two.own_first;
    own_second = two.own_second;
  })

  -- The values written: none is larger than a tree's cell.
  value_is :
      (x y : ℕ) → x < n → y < n
      → (get_or p (n - (get_or sizes a 0 + get_or sizes b 0)) 0 + get_or m x 0) + get_or m y 0
      ≡ expected n s S (S.tree a) (S.tree b) x y
  unfolding expected
  value_is = expected_is w h.holds g.given a b la two.below two.own_first two.own_second

  pub small_values : SmallValues n label m a b (get_or p (n - (get_or sizes a 0 + get_or sizes b 0)) 0)
  small_values x y lx ly ox oy =
      let px = in_label w h.holds a la two.own_first x lx ox in
      let py = in_label w h.holds b two.below two.own_second y ly oy in
      rw (value_is x y lx ly) (omega (arith, expected_most w s a b pair_differ x y px py, g.small_cells))

  abbrev next : State
  next = step S a b

  wf_next : WellFormed n next
  wf_next = wf_step w a b pair_differ

  pub written_next :
      {own' : List ℕ} → BlockPut n label m a b (get_or p (n - (get_or sizes a 0 + get_or sizes b 0)) 0) n own own'
      → CellsWithin n s (cell_in n own') next
  written_next {own'} q =
      within_written s (cell_in n own) (cell_in n own') (λ x y lx ly. both_ways n (packed_cells n own') x y) w
      h.written a b pair_differ kept new
    where
      -- two leaves of one subtree are not of a and of b
      apart_labels : (x y : ℕ) → x < n → leaves (S.tree x) y ≡ true → get_or label x 0 ≡ a → get_or label y 0 ≡ b → ⊥
      apart_labels x y lx together ox oy =
          let ly = w.below x y lx together in
          let same : get_or label y 0 ≡ get_or label x 0 =
          h.holds.labels y ly ∙ ap least (w.closed x y together) ∙ sym (h.holds.labels x lx) in
          differ_ab (sym ox ∙ sym same ∙ oy)

      kept : (x y : ℕ) → x < n → leaves (S.tree x) y ≡ true → x ≢ y → cell_in n own' x y ≡ cell_in n own x y
      kept x y lx together z =
          let ly = w.below x y lx together in
          q.others x y lx ly (apart_labels x y lx together)
          (apart_labels y x ly (rw (w.closed x y together) (w.own x)))

      new :
          (x y : ℕ) → leaves (S.tree a) x ≡ true → leaves (S.tree b) y ≡ true
          → cell_in n own' x y ≡ expected n s S (S.tree a) (S.tree b) x y
      new x y px py =
          let lx = w.below a x la px in
          let ly = w.below b y two.below py in
          q.new x y lx ly (label_in w h.holds a la two.own_first x lx px)
          (label_in w h.holds b two.below two.own_second y ly py)
          ∙ value_is x y lx ly

  -- The arrays after the merge.
  module _ {label' m' sizes' : List ℕ} (r : Merged n label m sizes p label' m' sizes' a b) where
    pub holds_next : HoldsState n s label' m' sizes' next
    holds_next = holds_step w h.holds a b two.rising two.own_first two.own_second pair_differ g.given r

    -- a label that stands stood before, and is not b; its subtree is as it was
    stood :
        (x : ℕ) → x < n → get_or label' x 0 ≡ x → x ≢ a
        → (get_or label x 0 ≡ x) × (x ≢ b) × (next.tree x ≡ S.tree x)
    stood = still w h.holds a b two.rising two.own_first two.own_second pair_differ g.given r

    stands : (x : ℕ) → x < n → get_or label x 0 ≡ x → x ≢ b → get_or label' x 0 ≡ x
    stands x lx o z =
        label_is w h.holds a b two.rising two.own_first two.own_second pair_differ g.given r x lx
        ∙ relabel_other (get_or label x 0) a b (λ q. z (sym o ∙ q)) ∙ o

    pub own_next : get_or label' a 0 ≡ a
    own_next = stands a la two.own_first differ_ab

    -- the subtree of such a label is neither
    outside :
        (x : ℕ) → x < n → get_or label x 0 ≡ x → x ≢ a → x ≢ b → (leaves (S.tree a) x || leaves (S.tree b) x) ≡ false
    outside x lx o za zb =
        or_none _ _ (two_apart w h.holds a la two.own_first x lx o (λ q. za (sym q)))
        (two_apart w h.holds b two.below two.own_second x lx o (λ q. zb (sym q)))

    were : (i j : ℕ) → TwoLabels n label' i j → i ≢ a → j ≢ a → TwoLabels n label i j
    were i j v ia ja = record {
      rising = v.rising;
      below = v.below;
      own_first = (stood i (omega (arith, v.rising, v.below)) v.own_first ia).0;
      own_second = (stood j v.below v.own_second ja).0;
    }

    sized_same : (x : ℕ) → x ≢ a → get_or sizes' x 0 ≡ get_or sizes x 0
    sized_same x z = rw r.summed (get_or-set_other sizes a x (get_or sizes a 0 + get_or sizes b 0) 0 z)

    module _ {sums' : List ℕ} (q : Stored n a n (subtree_gaps n t label' m' sizes' p a) sums sums') where
      -- the sums of two others stay
      other_sums : (i j : ℕ) → TwoLabels n label' i j → i ≢ a → j ≢ a
          → get_or sums' (pair_place i j) 0 ≡ gap_sum n s (cell n t) next (next.tree i) (next.tree j)
      other_sums i j v ia ja =
          let li : i < n = omega (arith, v.rising, v.below) in
          let u = stood i li v.own_first ia in
          let z = stood j v.below v.own_second ja in
          q.others i j v.rising v.below ia ja
          ∙ h.kept i j (were i j v ia ja)
          ∙ sym (gap_sum_keep n s (cell n t) w a b i j (outside i li u.0 ia u.1)
          (outside j v.below z.0 ja z.1))
          ∙ rw (u.2, z.2)

      -- those of the new subtree are worked anew
      new_sums :
          (k : ℕ) → k < n → get_or label' k 0 ≡ k → k ≢ a
          → get_or sums' (place_of a k) 0 ≡ gap_sum n s (cell n t) next (next.tree a) (next.tree k)
      new_sums k lk o z =
          q.new k lk z
          ∙ subtree_gaps_are wf_next holds_next g.given a k la lk own_next o (λ e. z (sym e))

      kept_next : KeepsGaps n s t label' sums' next
      kept_next i j v = elim (ℕ_discrete i a) [
        | yes e ↦
            let ja : j ≢ a = λ z. omega (arith, v.rising) in
            rw (e, ← place_up a j (rw e at v.rising)) (new_sums j v.below v.own_second ja)
        | no ia ↦ elim (ℕ_discrete j a) [
          | yes e ↦
              let li : i < n = omega (arith, v.rising, v.below) in
              rw (e, ← place_down a i (rw e at v.rising))
              (new_sums i li v.own_first ia
              ∙ gap_sum_turn n s (cell n t) next (halves_equal g.given.is_table) (next.tree a) (next.tree i))
          | no ja ↦ other_sums i j v ia ja
        ]
      ]

      -- the order of two pairs without a is as it was
      mean_same :
          (i j : ℕ) → i < j → j < n → i ≢ a → j ≢ a → kept_mean sizes' sums' (i, j) ≡ kept_mean sizes sums (i, j)
      unfolding kept_mean
      mean_same i j l lj ia ja = rw (q.others i j l lj ia ja, sized_same i ia, sized_same j ja)

      taken_same :
          (i j k : ℕ) → TwoLabels n label i j → TwoLabels n label i k → i ≢ a → j ≢ a → k ≢ a
          → taken_before sizes' sums' (i, j) (i, k) ≡ taken_before sizes sums (i, j) (i, k)
      unfolding taken_before
      taken_same i j k v z ia ja ka =
          rw (mean_same i j v.rising v.below ia ja, mean_same i k z.rising z.below ia ka)

      -- The partner of the label i, from before the merge.
      module _ (i : ℕ) (li : i < n) (o : get_or label' i 0 ≡ i) where
        abbrev r' : ℕ
        r' = get_or partners i 0

        old : i ≢ a → Partner n label sizes sums i r'
        old ia = h.partnered i li (stood i li o ia).0

        still_first : i ≢ a → r' ≢ a → r' ≢ b → TakenFirst n label' sizes' sums' (RowBut i a) i r'
        still_first ia ra rb = record {
          none = λ e k l v q. (old ia).none e k l (were k l v (λ z. ia (sym q.0 ∙ z)) q.1) q.0;
          two = λ d.
              let z = (old ia).two d in
              record {
                rising = z.rising;
                below = z.below;
                own_first = o;
                own_second = stands r' z.below z.own_second rb;
              };
          within = λ d. (refl, ra);
          first = λ d k l v q.
              let u = rw q.0 at (were k l v (λ z. ia (sym q.0 ∙ z)) q.1) in
              rw (q.0, taken_same i l r' u ((old ia).two d) ia q.1 ra) ((old ia).first d i l u refl);
        }

        -- after `a`, no pair of i is one with `a`
        after_first : a < i → r' ≢ b → Partner n label' sizes' sums' i r'
        after_first ai rb =
            let ia : i ≢ a = λ z. omega arith in
            let ra : r' ≢ a = λ z. omega (arith, ((old ia).two (λ e. omega (arith, la))).rising) in
            let w = still_first ia ra rb in
            record {
              none = λ e k l v q. w.none e k l v (q, λ z. omega (arith, v.rising));
              two = w.two;
              within = λ d. refl;
              first = λ d k l v q. w.first d k l v (q, λ z. omega (arith, v.rising));
            }

        some_partner : i < a → r' ≢ n
        some_partner ia e =
            let d : i ≢ a = λ z. omega arith in
            (old d).none e i a
            (record { rising = ia; below = la; own_first = (stood i li o d).0; own_second = two.own_first }) refl

        pub outdated : Outdated n label' sizes' sums' a b i r'
        outdated = record {
          behind = λ bi.
              let ai : a < i = omega (arith, two.rising) in
              after_first ai
              (λ z. omega (arith, ((old (λ e. omega arith)).two (λ e. omega (arith, two.below))).rising));
          between = after_first;
          some = some_partner;
          before = λ ia. still_first (λ z. omega arith);
        }

      pub guess_turn :
          {own' partners' : List ℕ}
          → BlockPut n label m a b (get_or p (n - (get_or sizes a 0 + get_or sizes b 0)) 0) n own own'
          → length partners' ≡ most_leaves → Partners n label' sizes' sums' partners'
          → HoldsGuess n s t label' m' sizes' sums' partners' own' next
      guess_turn put long found = record {
        holds = holds_next;
        kept = kept_next;
        small = q.fits;
        partners_long = long;
        partnered = found;
        packed = (h.packed.0, put.long ∙ h.packed.1);
        written = written_next put;
      }
