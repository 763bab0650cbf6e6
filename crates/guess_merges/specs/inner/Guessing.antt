-- What the arrays of a guess stand for after k merges: the state that these left, the sums of each two of its subtrees,
-- the partner of each, and the table of the tree as far as it is made.
use Rattle.std.specs.Prelude.{◌≡◌, List, ℕ, ◌-◌, ◌*◌, ◌<◌, length, get_or, take}
use Rattle.limits.specs.Limits.{most_leaves}
use Rattle.pair_counts.specs.Pairs.{P}
use Rattle.trees.specs.Tables.{cell}
use Rattle.packed_tables.specs.Packed.{Packed}
use Rattle.merging.specs.Merging.{State}
use Rattle.merging.specs.MergeLists.{after}
use Rattle.merging.specs.Guesses.{gap_sum, guess}
use Rattle.merging.proofs.Soundness.{CellsWithin}
use Rattle.state_arrays.specs.inner.Fits.{Given}
use Rattle.state_arrays.specs.inner.StateArrays.{HoldsState}
use Rattle.gap_sums.specs.inner.PairPlaces.{pair_place}
use Rattle.gap_sums.specs.inner.GapSums.{SmallGaps}
use Rattle.nearest_pairs.specs.inner.Nearest.{TwoLabels, Partners}
use Rattle.guess_merges.specs.inner.Blocks.{cell_in}

-- what is kept of each two labels is the sum of the gaps of their subtrees
abbrev pub KeepsGaps : (n s : ℕ) (t label sums : List ℕ) → State → Type 0
KeepsGaps n s t label sums S =
    (i j : ℕ) → TwoLabels n label i j
    → get_or sums (pair_place i j) 0 ≡ gap_sum n s (cell n t) S (S.tree i) (S.tree j)

-- what a guess is given: a table that passed the checks, the pair counts at its scale, and that a tree's cells at that
-- scale fit two bytes
pub record GuessGiven (n s : ℕ) (t p : List ℕ) : Type 0 where
  pub given : Given n s t p
  pub small_cells : s * P (n - 2) < 65536

-- the arrays hold the state S
pub record HoldsGuess (n s : ℕ) (t label m sizes sums partners own : List ℕ) (S : State) : Type 0 where
  pub holds : HoldsState n s label m sizes S
  pub kept : KeepsGaps n s t label sums S
  pub small : SmallGaps n sums
  pub partners_long : length partners ≡ most_leaves
  pub partnered : Partners n label sizes sums partners
  pub packed : Packed n own
  pub written : CellsWithin n s (cell_in n own) S

-- k merges of the guess are made
abbrev pub Guessing : (n s : ℕ) (t label m sizes sums partners own : List ℕ) (k : ℕ) → Type 0
Guessing n s t label m sizes sums partners own k =
    HoldsGuess n s t label m sizes sums partners own (after (take k (guess n s t)))
