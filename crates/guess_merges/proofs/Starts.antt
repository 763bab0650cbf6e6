-- How the arrays of a guess start: every leaf is single, each sum is the gap of one cell, and no cell is written. And
-- how they end: the table written is that of the tree that the guess makes.
use mathlib.Core.Path.{◌≡◌, refl, ap, sym, ◌∙◌}
use mathlib.Core.Logic.{◌≢◌}
use mathlib.Core.Bool.{Bool, true, false, ◌&&◌}
use mathlib.Core.List.{List}
use Prim.Native.Nat.{ℕ, ◌+◌, ◌-◌, ◌*◌, ◌≤◌, ◌<◌}
use native.Mathlib.Nat.{mul-le-mul_left}
use native.Mathlib.Omega.{arith}
use borrow.Author.Tests.{ne_eqb}
use lib.Dec.{eqb}
use lib.ListN.{length, get_or, take, replicate}
use lib.Seq.{take_all}
use Rattle.base.specs.Numbers.{indicator, sum_below, distance}
use Rattle.base.specs.Lists.{filled}
use Rattle.base.proofs.Bools.{eqb_same}
use Rattle.base.proofs.Sums.{sum_only, zero_sum}
use Rattle.limits.specs.declared.Kind.{Kind}
use Rattle.limits.specs.declared.Kind.TheVariants.{Counts, Poll}
use Rattle.limits.specs.Limits.{most_leaves, most_of, IsCountOf, scale_of, largest_cell_of}
use Rattle.limits.proofs.TableKinds.{leaf_count_of}
use Rattle.pair_counts.specs.Pairs.{P}
use Rattle.pair_counts.proofs.Pairs.{P_mono, P_largest_of}
use Rattle.refusals.specs.Refusals.{accepted}
use Rattle.trees.specs.Trees.{leaf, leaves, size}
use Rattle.trees.specs.Tables.{cell, IsTable}
use Rattle.trees.proofs.Tables.{halves_equal}
use Rattle.packed_tables.specs.Packed.{table_with, packed_cells, Packed}
use Rattle.packed_tables.proofs.PackedIsTable.{both_ways, cell_is, sheet_is_table}
use Rattle.merging.specs.Merging.{State, start, expected}
use Rattle.merging.specs.MergeLists.{run, after, final_listing}
use Rattle.merging.specs.Rebuilds.{rebuilt}
use Rattle.merging.specs.Guesses.{gap_sum, guess}
use Rattle.merging.proofs.Runs.{EqualHalves}
use Rattle.merging.proofs.States.{WellFormed, wf_start}
use Rattle.merging.proofs.Soundness.{CellsWithin, within_start}
use Rattle.merging.proofs.Guesses.{guess_many, guess_merges, guess_wf}
use Rattle.merging.proofs.GuessLaws.{list_written}
use Rattle.state_arrays.specs.inner.Fits.{ScaledCounts, counts_scale}
use Rattle.state_arrays.proofs.StateArrays.{counts_given, holds_start, filled_own}
use Rattle.gap_sums.specs.inner.PairPlaces.{pair_place}
use Rattle.gap_sums.specs.inner.GapSums.{largest_gap, most_gaps, SmallGaps, Started}
use Rattle.nearest_pairs.specs.inner.Nearest.{TwoLabels, SearchFits, Partners}
use Rattle.guess_merges.specs.inner.Blocks.{cell_in}
use Rattle.guess_merges.specs.inner.Guessing.{KeepsGaps, GuessGiven, HoldsGuess, Guessing}
use Rattle.guess_merges.proofs.Choices.{search_fits}

-- two single leaves have one cell
module _ (n s : ℕ) (c : ℕ → ℕ → ℕ) (i j : ℕ) (li : i < n) (lj : j < n) where
  part : ℕ → ℕ → ℕ
  part x y =
      indicator (leaves (leaf i) x && leaves (leaf j) y) (distance (c x y) (expected n s start (leaf i) (leaf j) x y))

  off_row : (x : ℕ) → x ≢ i → sum_below n (part x) ≡ 0
  unfolding part leaves
  off_row x d = zero_sum n (part x) (λ y ly. rw (ne_eqb x i d))

  off_column : (y : ℕ) → y ≢ j → part i y ≡ 0
  unfolding part leaves
  off_column y d = rw (eqb_same i, ne_eqb y j d)

  single_gap : gap_sum n s c start (leaf i) (leaf j) ≡ distance (c i j) (s * P (n - 2))
  unfolding gap_sum part leaves expected size start
  single_gap =
      sum_only n i (λ x. sum_below n (part x)) li off_row
      ∙ sum_only n j (part i) lj off_column
      ∙ rw (eqb_same i, eqb_same j) (ap (λ v. distance (c i j) (s * v)) (omega arith))

-- no merge is made yet
none_made : (n s : ℕ) (t : List ℕ) → after (take 0 (guess n s t)) ≡ start
unfolding after run
none_made n s t = refl

module _ {n s : ℕ} {t p : List ℕ} (g : GuessGiven n s t p) {label : List ℕ}
    (e : label ≡ filled n (λ k. k) (replicate most_leaves 0)) {sums : List ℕ}
    (h : Started n t (get_or p (n - 2) 0) n sums) where
  few : n ≤ most_leaves
  few = g.given.leaf_count.1

  start_kept : KeepsGaps n s t label sums start
  unfolding start
  start_kept i j v =
      let li : i < n = omega (arith, v.rising, v.below) in
      h.new i j v.rising v.below
      ∙ rw (g.given.pair_counts (n - 2) (omega arith), halves_equal g.given.is_table j i v.below li)
      (sym (single_gap n s (cell n t) i j li v.below))

  pub start_small : SmallGaps n sums
  start_small = record {
    long = h.long;
    small = λ i j l lj. omega (arith, h.small i j l lj);
  }

  -- what the search for partners asks
  pub start_search :
      SearchFits n label (replicate most_leaves 1) sums × ((k : ℕ) → k < n → get_or label k 0 ≡ k)
  start_search = (
    search_fits (wf_start n) (holds_start n few {s = s} e) few sums start_small,
    filled_own n few e,
  )

  pub guess_start :
      {partners own : List ℕ} → length partners ≡ most_leaves
      → Partners n label (replicate most_leaves 1) sums partners → Packed n own
      → Guessing n s t label (replicate most_leaves 0) (replicate most_leaves 1) sums partners own 0
  guess_start {partners} {own} long found packed = rw (none_made n s t) (record {
    holds = holds_start n few e;
    kept = start_kept;
    small = start_small;
    partners_long = long;
    partnered = found;
    packed = packed;
    written = within_start n s (cell_in n own) (λ x y lx ly. both_ways n (packed_cells n own) x y);
  })

-- All merges are made: the table written is that of the guess's tree, so that our rebuild of it gives the listing.
pub guess_end :
    {n s : ℕ} {t p label m sizes sums partners own : List ℕ} → GuessGiven n s t p
    → Guessing n s t label m sizes sums partners own (n - 1)
    → Packed n own × (rebuilt n s (table_with n (packed_cells n own)) ≡ accepted (final_listing n (guess n s t)))
guess_end {n} {s} {t} {own = own} g h = (
  h.packed,
  (list_written n count s g.given.scaled.0 (guess n s t) (guess_merges n s t halves z)
      (guess_many n s t halves z) (table_with n (packed_cells n own)) (sheet_is_table n (packed_cells n own)) within).0,
)
  where
    count : (3 ≤ n) × (n ≤ most_leaves)
    count = g.given.leaf_count

    halves : EqualHalves n (cell n t)
    halves = halves_equal g.given.is_table

    z : 0 < n
    z = omega (arith, count)

    all : take (n - 1) (guess n s t) ≡ guess n s t
    all = take_all (n - 1) (guess n s t) (omega (arith, guess_many n s t halves z))

    within : CellsWithin n s (cell n (table_with n (packed_cells n own))) (after (guess n s t))
    within i j li together d =
        let w = rw all at (guess_wf n s t halves z (n - 1)) in
        cell_is n (packed_cells n own) i j li (w.below i j li together)
        ∙ (rw all at h.written) i j li together d

-- What a guess is given: the cells of a tree fit two bytes in a table of either kind.
largest_fits : (kind : Kind) → largest_cell_of kind < 65536
largest_fits Counts = omega arith
largest_fits Poll = omega arith

pub guess_given :
    (kind : Kind) (n : ℕ) (t p : List ℕ) → IsCountOf kind n → IsTable n t → ScaledCounts n (scale_of kind) p
    → (counts_scale p ≡ scale_of kind) × GuessGiven n (counts_scale p) t p
guess_given kind n t p count is_table counts =
    let r = counts_given kind n t p (leaf_count_of kind n count) is_table counts in
    let few = P_mono (n - 2) (most_of kind - 2) (omega (arith, count)) in
    let most = mul-le-mul_left (scale_of kind) few in (
      r.0,
      record {
        given = r.1;
        small_cells = rw r.0 (omega (arith, most, P_largest_of kind, largest_fits kind));
      },
    )
