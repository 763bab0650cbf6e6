-- The next merge of the guess: what each step of it asks of the arrays, and that they hold the next state afterwards.
use mathlib.Core.Path.{◌≡◌}
use mathlib.Core.Logic.{◌≢◌}
use mathlib.Core.List.{List}
use Prim.Native.Nat.{ℕ, ◌+◌, ◌-◌, ◌≤◌, ◌<◌}
use native.Mathlib.Omega.{arith}
use lib.ListN.{length, get_or, take}
use Rattle.limits.specs.Limits.{most_leaves}
use Rattle.trees.specs.Tables.{cell}
use Rattle.trees.proofs.Tables.{halves_equal}
use Rattle.packed_tables.specs.Packed.{Packed}
use Rattle.merging.specs.Merging.{step}
use Rattle.merging.specs.MergeLists.{after}
use Rattle.merging.specs.Guesses.{guess}
use Rattle.merging.proofs.States.{WellFormed, wf_step}
use Rattle.merging.proofs.Runs.{EqualHalves}
use Rattle.merging.proofs.Guesses.{guess_wf, guess_at, guess_next}
use Rattle.state_arrays.specs.inner.Fits.{SmallSums}
use Rattle.state_arrays.specs.inner.Merged.{MergeReady, Merged}
use Rattle.state_arrays.proofs.StateArrays.{fair}
use Rattle.gap_sums.specs.inner.GapSums.{subtree_gaps, SumsFit, Stored}
use Rattle.nearest_pairs.specs.inner.Nearest.{TwoLabels, SearchFits, Partners, Chosen, Outdated}
use Rattle.guess_merges.specs.inner.Blocks.{SmallValues, BlockPut}
use Rattle.guess_merges.specs.inner.Guessing.{GuessGiven, Guessing}
use Rattle.guess_merges.proofs.Sums.{sums_fit}
use Rattle.guess_merges.proofs.Choices.{search_fits, chosen_nearest, chosen_some}
use Rattle.guess_merges.proofs.Turns.{pair_differ, merge_ready, small_values, holds_next, own_next, outdated}
use Rattle.guess_merges.proofs.Turns.{guess_turn}

-- k merges of the guess are made, and one more is to be.
module _ {n s : ℕ} {t p : List ℕ} (g : GuessGiven n s t p) (k : ℕ) (lk : k < n - 1)
    {label m sizes sums partners own : List ℕ} (h : Guessing n s t label m sizes sums partners own k) where
  halves : EqualHalves n (cell n t)
  halves = halves_equal g.given.is_table

  z : 0 < n
  z = omega (arith, g.given.leaf_count)

  w : WellFormed n (after (take k (guess n s t)))
  w = guess_wf n s t halves z k

  pub search_ready : SearchFits n label sizes sums
  search_ready = search_fits w h.holds g.given.leaf_count.1 sums h.small

  -- the pair that the search takes
  module _ {a b : ℕ} (v : Chosen n label sizes sums a b) where
    some : b ≢ n
    some = chosen_some w h.holds t sums halves h.kept (guess_at n s t halves z k lk) a b v

    two : TwoLabels n label a b
    two = v.two some

    first_below : a < n
    first_below = omega (arith, two.rising, two.below)

    sizes_room : get_or sizes a 0 + get_or sizes b 0 ≤ n
    sizes_room = (merge_ready g w h two).room

    pub block_ready :
        Packed n own × (a < n) × (b < n) × (a ≢ b) × SmallSums n m × SmallSums (n + 1) p
        × (get_or sizes a 0 + get_or sizes b 0 ≤ n)
        × SmallValues n label m a b (get_or p (n - (get_or sizes a 0 + get_or sizes b 0)) 0)
    block_ready =
        let f = fair w h.holds g.given in (
          h.packed,
          first_below,
          two.below,
          λ e. omega (arith, two.rising),
          f.small,
          f.small_counts,
          sizes_room,
          small_values g w h two,
        )

    pub pair_ready : MergeReady n label m sizes p a b
    pair_ready = merge_ready g w h two

    module _ {label' m' sizes' : List ℕ} (r : Merged n label m sizes p label' m' sizes' a b) where
      wf' : WellFormed n (step (after (take k (guess n s t))) a b)
      wf' = wf_step w a b (pair_differ g w h two)

      pub sums_ready : SumsFit n label' m' sizes' p a
      sums_ready = sums_fit wf' (holds_next g w h two r) g.given a first_below (own_next g w h two r)

      module _ {sums' : List ℕ} (q : Stored n a n (subtree_gaps n t label' m' sizes' p a) sums sums') where
        pub partners_ready :
            SearchFits n label' sizes' sums' × (a < b) × (b < n) × (get_or label' a 0 ≡ a)
            × (length partners ≡ most_leaves)
            × ((i : ℕ) → i < n → get_or label' i 0 ≡ i → Outdated n label' sizes' sums' a b i (get_or partners i 0))
        partners_ready = (
          search_fits wf' (holds_next g w h two r) g.given.leaf_count.1 sums' q.fits,
          two.rising,
          two.below,
          own_next g w h two r,
          h.partners_long,
          outdated g w h two r q,
        )

        pub merge_made :
            {own' partners' : List ℕ}
            → BlockPut n label m a b (get_or p (n - (get_or sizes a 0 + get_or sizes b 0)) 0) n own own'
            → (length partners' ≡ most_leaves) × Partners n label' sizes' sums' partners'
            → Guessing n s t label' m' sizes' sums' partners' own' (k + 1)
        merge_made put found =
            let near = chosen_nearest w h.holds t sums halves h.kept a b some v in
            let same = (guess_next n s t halves z k lk (a, b) near).1 in
            rw same (guess_turn g w h two r q put found.0 found.1)
