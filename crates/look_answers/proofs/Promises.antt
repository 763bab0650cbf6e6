-- What a maker may rely on of a look. Its figure is what grafting a copy and adding up the gaps gives, and wherever a
-- look is accepted that can be done; it is 0 exactly where the grafted tree has the new table, and that at one edge at
-- most; and a look at all edges says of each what a look at that edge says.
use mathlib.Core.Path.{◌≡◌, refl, ap, sym, ◌∙◌}
use mathlib.Core.Logic.{◌↔◌}
use mathlib.Core.Bool.{true}
use mathlib.Core.List.{List}
use mathlib.Core.Option.{none}
use Prim.Native.Nat.{ℕ, zero, suc, ◌+◌, ◌-◌, ◌*◌, ◌^◌, ◌≤◌, ◌<◌}
use native.Mathlib.Omega.{arith}
use native.Mathlib.Decide.{dec_lt, ℕ_discrete}
use borrow.Author.Tests.{lt-ltb, le-ltb}
use lib.IntN.{ℤ, pos, nat_abs, ◌-ℤ◌}
use lib.ListN.{get_or}
use Rattle.base.specs.Numbers.{pair_sum, distance}
use Rattle.base.specs.Lists.{tab}
use Rattle.base.proofs.Sums.{pair_sum_ext}
use Rattle.base.proofs.Lists.{getD_tab}
use Rattle.limits.specs.declared.Kind.{Kind}
use Rattle.limits.specs.declared.Kind.TheVariants.{Counts, Poll}
use Rattle.limits.specs.Limits.{IsLeafCount, scale_of, largest_cell}
use Rattle.limits.proofs.TableKinds.{leaf_count_of, scale_bounds}
use Rattle.refusals.specs.Refusals.{accepted, answered}
use Rattle.refusals.proofs.Answers.{answered_accepted, accepted_same}
use Rattle.checks.proofs.Sizes.{room_passes}
use Rattle.trees.specs.Trees.{Tree, IsTree}
use Rattle.trees.specs.Listings.{tree_of, standard}
use Rattle.trees.specs.Quartets.{quartets}
use Rattle.trees.specs.Tables.{cell, HasTable}
use Rattle.trees.specs.Gaps.{gap_size, total_gap}
use Rattle.trees.proofs.Rules.{listing_tree}
use Rattle.trees.proofs.Listings.{tree_listing, standard_stands}
use Rattle.trees.proofs.Quartets.{quartets_diagonal}
use Rattle.trees.proofs.Tables.{to_cells}
use Rattle.trees.proofs.Gaps.{gap_zero, gap_fits, ordered_gap}
use Rattle.merging.proofs.SameTree.{quartets_ordered}
use Rattle.grafted_trees.specs.Grafts.{names_edge, grafted}
use Rattle.grafted_trees.proofs.EdgeNumbers.{edge_range}
use Rattle.grafted_trees.proofs.Grafts.{grafted_tree, grafted_ordered, grafted_once}
use Rattle.change_answers.specs.declared.Change.TheVariants.{Graft}
use Rattle.change_answers.specs.Operations.{change_answer}
use Rattle.change_answers.proofs.Accepted.{Accepted as ChangeAccepted, change_passes}
use Rattle.change_answers.proofs.Promises.{accepted_all, listing_is}
use Rattle.gaps.specs.Operations.{gaps, gap_refusal, gap_answer}
use Rattle.gaps.proofs.GapLaws.{gap_is}
use Rattle.gaps.proofs.GapAnswers.{accepted_both, gap_passes}
use Rattle.look_answers.specs.Operations.{look_refusal, look_total, look_answer, look_all_answer}
use Rattle.look_answers.proofs.Accepted.{Accepted, accepted_look, look_passes}

-- the sizes of gaps that are listed row by row, added up over i < j
abbrev pub gap_sizes : ℕ → List ℤ → ℕ
gap_sizes n g = pair_sum n (λ i j. nat_abs (get_or g (i * n + j) (pos 0)))

-- the size of a difference is how far the two are apart
size_of_less : (x y : ℕ) → nat_abs (pos x -ℤ pos y) ≡ distance x y
unfolding distance
size_of_less x zero = omega arith
size_of_less x (suc y) = elim (dec_lt x (suc y)) [
  | yes l ↦ rw (lt-ltb x (suc y) l) (omega arith)
  | no g ↦ rw (le-ltb x (suc y) (omega arith)) (omega arith)
]

-- so the sizes of the gaps of a tree add up to its total gap
gaps_total :
    (kind : Kind) (n : ℕ) (t : List ℕ) (T : Tree)
    → gap_sizes n (gaps n (scale_of kind) t T) ≡ total_gap n (scale_of kind) t T
unfolding total_gap gap_size
gaps_total kind n t T = pair_sum_ext n _ _ (λ i j l m.
    ap nat_abs (gap_is kind n t T i j (omega arith) m) ∙ size_of_less (cell n t i j) (scale_of kind * quartets n T i j))

-- "The figure equals grafting a copy and adding up the gaps": what the graft writes is lent to the gap, and the sizes
-- of what that writes are added up.
pub look_is_graft_and_gap :
    (kind : Kind) (n : ℕ) (l t u : List ℕ) (e room space gap_room : ℕ) (l' : List ℕ) (g : List ℤ)
    → change_answer n l t (Graft e) room space ≡ accepted l' → gap_answer kind (n + 1) u l' gap_room ≡ accepted g
    → look_answer kind n l t u e ≡ accepted (gap_sizes (n + 1) g)
unfolding look_answer look_total answered gap_answer
look_is_graft_and_gap kind n l t u e room space gap_room l' g grafts gapped =
    rw (look_passes kind n l t u (names_edge n e) 0 0 fine)
    (ap accepted (sym (ap (gap_sizes (n + 1)) (sym both.1) ∙ gaps_total kind (n + 1) u (tree_of (n + 1) l') ∙ same)))
  where
    w : ChangeAccepted n l t (Graft e) room space
    w = accepted_all n l t (Graft e) room space l' grafts

    G : Tree
    G = grafted n (tree_of n l) e

    both :
        (gap_refusal kind (n + 1) u l' gap_room ≡ none)
        × (gaps (n + 1) (scale_of kind) u (tree_of (n + 1) l') ≡ g)
    both =
        answered_accepted (gap_refusal kind (n + 1) u l' gap_room)
        (gaps (n + 1) (scale_of kind) u (tree_of (n + 1) l')) g gapped

    is_tree : IsTree (n + 1) G
    is_tree = grafted_tree n (tree_of n l) w.count.0 (listing_tree n w.count l w.keeps) e w.there

    same : total_gap (n + 1) (scale_of kind) u (tree_of (n + 1) l') ≡ total_gap (n + 1) (scale_of kind) u G
    same =
        rw (listing_is n l t (Graft e) room space l' grafts, standard_stands (n + 1) w.new_count G is_tree)
        (ordered_gap (n + 1) (scale_of kind) u G)

    fine : Accepted kind n l t u (names_edge n e) 0 0
    fine =
        let v = accepted_both kind (n + 1) u l' gap_room both.0 in
        record {
          sizes = record {
            count = w.count;
            new_count = v.count;
            numbers = w.keeps.numbers;
            cells = w.cells;
            new_cells = v.is_table.cells;
            enough = omega arith;
          };
          keeps = w.keeps;
          is_there = w.there;
          is_own = w.is_own;
          is_table = v.is_table;
        }

-- numbers that are equal at a scale are equal
scaled_once : (kind : Kind) (x y : ℕ) → scale_of kind * x ≡ scale_of kind * y → x ≡ y
scaled_once Counts x y h = omega arith
scaled_once Poll x y h = omega arith

-- A look that is accepted.
module _ (kind : Kind) (n : ℕ) (l t u : List ℕ) where
  abbrev s : ℕ
  s = scale_of kind

  abbrev G : ℕ → Tree
  G e = grafted n (tree_of n l) e

  module _ (e x : ℕ) (given : look_answer kind n l t u e ≡ accepted x) where
    pub look_accepted : Accepted kind n l t u (names_edge n e) 0 0
    unfolding look_answer
    look_accepted =
        accepted_look kind n l t u (names_edge n e) 0 0
        (answered_accepted (look_refusal kind n l t u (names_edge n e) 0 0) (look_total kind n l u e) x given).0

    total_is : total_gap (n + 1) s u (G e) ≡ x
    unfolding look_answer look_total
    total_is =
        (answered_accepted (look_refusal kind n l t u (names_edge n e) 0 0) (total_gap (n + 1) s u (G e)) x given).1

    -- the total gap is 0 exactly where the grafted tree has the new table
    pub look_zero : (x ≡ 0) ↔ HasTable (n + 1) s u (G e)
    look_zero =
        let zero_is = gap_zero (n + 1) s u (G e) look_accepted.is_table in
        (λ h. zero_is.0 (total_is ∙ h), λ h. sym total_is ∙ zero_is.1 h)

    -- and a reply tells it whole
    pub look_small : ((i j : ℕ) → i < n + 1 → j < n + 1 → cell (n + 1) u i j < 2 ^ 32) → x < 2 ^ 48
    look_small cells =
        let c = leaf_count_of kind (n + 1) look_accepted.sizes.new_count in
        rw total_is at (gap_fits (n + 1) s u (G e) c (few kind) cells)
      where
        few : (kind : Kind) → scale_of kind * largest_cell < 2 ^ 32
        few kind = let b = scale_bounds kind in omega (arith, b.1)

    grafted_is : IsTree (n + 1) (G e)
    grafted_is =
        let w = look_accepted in
        grafted_tree n (tree_of n l) w.sizes.count.0 (listing_tree n w.sizes.count l w.keeps) e
        w.is_there

    -- Grafting a copy and measuring it, with room for both, are accepted too, and give this figure.
    module _ (room space gap_room : ℕ) (enough : 2 * (n - 1) ≤ room) (square : (n + 1) * (n + 1) ≤ space)
        (measured : (n + 1) * (n + 1) ≤ gap_room) where
      abbrev l' : List ℕ
      l' = standard (n + 1) (grafted n (tree_of n l) e)

      abbrev g : List ℤ
      g = gaps (n + 1) (scale_of kind) u (tree_of (n + 1) (standard (n + 1) (grafted n (tree_of n l) e)))

      new_count : IsLeafCount (n + 1)
      new_count = leaf_count_of kind (n + 1) look_accepted.sizes.new_count

      graft_accepted : change_answer n l t (Graft e) room space ≡ accepted l'
      unfolding change_answer answered
      graft_accepted =
          let w = look_accepted in
          rw (change_passes n l t (Graft e) room space (record {
            count = w.sizes.count;
            new_count = new_count;
            keeps = w.keeps;
            cells = w.sizes.cells;
            enough = omega arith;
            enough_cells = square;
            there = w.is_there;
            is_own = w.is_own;
          }))

      gap_accepted : gap_answer kind (n + 1) u l' gap_room ≡ accepted g
      unfolding gap_answer answered
      gap_accepted =
          rw (gap_passes kind (n + 1) u l' gap_room (record {
            count = look_accepted.sizes.new_count;
            is_table = look_accepted.is_table;
            keeps = (tree_listing (n + 1) new_count (G e) grafted_is).0;
            room_enough = measured;
          }))

      pub graft_and_gap_accepted :
          (l' : List ℕ) × (g : List ℤ) × (change_answer n l t (Graft e) room space ≡ accepted l')
          × (gap_answer kind (n + 1) u l' gap_room ≡ accepted g) × (x ≡ gap_sizes (n + 1) g)
      graft_and_gap_accepted = (
        l',
        g,
        graft_accepted,
        gap_accepted,
        accepted_same x (gap_sizes (n + 1) g)
            (sym given ∙ look_is_graft_and_gap kind n l t u e room space gap_room l' g graft_accepted gap_accepted),
      )

  -- at one edge at most
  pub look_zero_once :
      (e e' : ℕ) → look_answer kind n l t u e ≡ accepted 0 → look_answer kind n l t u e' ≡ accepted 0 → e ≡ e'
  look_zero_once e e' h h' =
      let w = look_accepted e 0 h in
      let tree = listing_tree n w.sizes.count l w.keeps in
      let big = w.sizes.count.0 in
      let c = leaf_count_of kind (n + 1) w.sizes.new_count in
      grafted_once n (tree_of n l) big tree e e' w.is_there
      (sym (grafted_ordered n (tree_of n l) big tree e)
      ∙ quartets_ordered (n + 1) c (G e) (G e') (grafted_is e 0 h) (grafted_is e' 0 h') same
      ∙ grafted_ordered n (tree_of n l) big tree e')
    where
      same : (i j : ℕ) → i < n + 1 → j < n + 1 → quartets (n + 1) (G e) i j ≡ quartets (n + 1) (G e') i j
      same i j li lj = elim (ℕ_discrete i j) [
        | yes d ↦ rw (d, quartets_diagonal (n + 1) (G e) j, quartets_diagonal (n + 1) (G e') j)
        | no d ↦
            let has = to_cells (n + 1) s u (G e) ((look_zero e 0 h).0 refl) i j li lj d in
            let has' = to_cells (n + 1) s u (G e') ((look_zero e' 0 h').0 refl) i j li lj d in
            scaled_once kind _ _ (sym has ∙ has')
      ]

  -- A look at all edges, with room for a total each, is refused as a look at any one edge is; and where it is not, it
  -- says of each what a look at that edge says.
  module _ (room e : ℕ) (there : names_edge n e ≡ true) (enough : 2 * n - 3 ≤ room) where
    pub look_all_refused :
        look_refusal kind n l t u true (2 * n - 3) room ≡ look_refusal kind n l t u (names_edge n e) 0 0
    unfolding look_refusal
    look_all_refused = rw (there, room_passes (2 * n - 3) room enough, room_passes 0 0 (omega arith))

    pub look_all_is_look :
        (totals : List ℕ) → look_all_answer kind n l t u room ≡ accepted totals
        → look_answer kind n l t u e ≡ accepted (get_or totals (e - 1) 0)
    unfolding look_all_answer look_answer answered
    look_all_is_look totals given =
        let f : ℕ → ℕ = λ k. look_total kind n l u (k + 1) in
        let both =
        answered_accepted (look_refusal kind n l t u true (2 * n - 3) room) (tab (2 * n - 3) f) totals given in
        let range = edge_range n e there in
        let number : e - 1 + 1 ≡ e = omega arith in
        let here = getD_tab (2 * n - 3) f (e - 1) 0 (omega arith) in
        rw (sym look_all_refused ∙ both.0, ← both.1, here, number)
