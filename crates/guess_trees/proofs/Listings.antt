-- The listing of the guess's tree, from the bytes that hold the tree's table, and as it stands in the buffer.
use mathlib.Core.Path.{◌≡◌, sym}
use mathlib.Core.List.{List, ◌++◌}
use Prim.Native.Nat.{ℕ, ◌-◌, ◌*◌, ◌≤◌}
use lib.ListN.{length, take, drop}
use lib.Seq.{take_at}
use Rattle.limits.specs.declared.Kind.{Kind}
use Rattle.limits.specs.Limits.{IsCountOf, scale_of}
use Rattle.limits.proofs.TableKinds.{leaf_count_of}
use Rattle.refusals.specs.Refusals.{accepted, written}
use Rattle.trees.specs.Listings.{KeepsRules, tree_of}
use Rattle.trees.specs.Tables.{IsTable}
use Rattle.trees.specs.Gaps.{total_gap}
use Rattle.trees.proofs.Tables.{halves_equal}
use Rattle.packed_tables.specs.Packed.{packed_cells}
use Rattle.packed_tables.proofs.PackedIsTable.{sheet_is_table}
use Rattle.packed_tables.proofs.Sizes.{packed_passes}
use Rattle.merging.specs.Rebuilds.{rebuilt}
use Rattle.merging.specs.Guesses.{guessed}
use Rattle.merging.proofs.Guesses.{guess_keeps, guess_total}
use Rattle.eligible_pairs.specs.inner.Lent.{table_in}
use Rattle.eligible_pairs.proofs.Lent.{as_packed}
use Rattle.guess_trees.specs.inner.TreeTables.{TreeTable}

-- the bytes at the front of the array, as the rebuild is lent them
module _ {n s : ℕ} {t F : List ℕ} (h : TreeTable n s t F) (R : List ℕ) where
  front : take (n * (n - 1)) (F ++ R) ≡ F
  front = take_at F R (n * (n - 1)) h.packed.1

  pub front_long : length (take (n * (n - 1)) (F ++ R)) ≡ n * (n - 1)
  front_long = rw front h.packed.1

  pub front_table : IsTable n (table_in n (take (n * (n - 1)) (F ++ R)))
  front_table = rw (front, as_packed n F (packed_passes n F h.packed)) (sheet_is_table n (packed_cells n F))

  pub front_rebuilt : rebuilt n s (table_in n (take (n * (n - 1)) (F ++ R))) ≡ accepted (guessed n s t).listing
  unfolding guessed
  front_rebuilt = rw (front, as_packed n F (packed_passes n F h.packed)) h.rebuilds

-- The listing in the buffer.
module _ (kind : Kind) (n : ℕ) (t : List ℕ) (count : IsCountOf kind n) (is_table : IsTable n t) where
  big : 3 ≤ n
  big = (leaf_count_of kind n count).0

  pub listing_keeps : KeepsRules n (guessed n (scale_of kind) t).listing
  unfolding guessed
  listing_keeps = guess_keeps n (scale_of kind) t (halves_equal is_table) big

  pub total_is :
      total_gap n (scale_of kind) t (tree_of n (guessed n (scale_of kind) t).listing)
      ≡ (guessed n (scale_of kind) t).total
  unfolding guessed
  total_is = sym (guess_total n (scale_of kind) t (halves_equal is_table) big)

  module _ (out : List ℕ) (room : 2 * (n - 2) ≤ length out) where
    abbrev l : List ℕ
    l = (guessed n (scale_of kind) t).listing

    pub out_front : take (2 * (n - 2)) (written (accepted l) out) ≡ l
    unfolding written
    out_front = take_at l (drop (length l) out) (2 * (n - 2)) listing_keeps.numbers
