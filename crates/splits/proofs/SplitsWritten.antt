-- The bytes that a pass over the rows writes: each node adds its set after those before it, and what lies beyond stays.
use mathlib.Core.Path.{◌≡◌, refl, ◌∙◌}
use mathlib.Core.List.{List, ◌++◌, flat_map}
use Prim.Native.Nat.{ℕ, ◌+◌, ◌-◌, ◌*◌}
use native.Mathlib.Numerals.{add-one}
use native.Mathlib.Omega.{arith}
use lib.ListN.{length, take, drop}
use lib.Seq.{take_at, drop-append-add, drop-drop}
use Rattle.base.specs.Lists.{tab}
use Rattle.base.proofs.Bits.{length_cells}
use Rattle.base.proofs.Lists.{length_tab, length_flat, flat_more}
use Rattle.limits.specs.Limits.{set_bytes}
use Rattle.trees.specs.Trees.{Tree, leaves}
use Rattle.trees.specs.Listings.{subtree_at, standard}
use Rattle.trees.specs.Splits.{splits, bytes_of, split_bytes}
use Rattle.splits.specs.inner.NodeSets.{node_sets}

-- the nodes of the standard listing but the last: the splits of the tree
pub standard_sets : (n : ℕ) (T : Tree) → node_sets n (standard n T) (n - 3) ≡ split_bytes n T
unfolding node_sets split_bytes splits
standard_sets n T = refl

module _ (n : ℕ) (l : List ℕ) where
  sets_more : (k : ℕ) → node_sets n l (k + 1) ≡ node_sets n l k ++ bytes_of (leaves (subtree_at n l (n + k)))
  unfolding node_sets
  sets_more k =
      rw (add-one k)
      (unfold tab in flat_more bytes_of (tab k (λ k. leaves (subtree_at n l (n + k))))
      (leaves (subtree_at n l (n + k))))

  sets_length : (k : ℕ) → length (node_sets n l k) ≡ set_bytes * k
  unfolding node_sets
  sets_length k =
      rw (
        length_flat set_bytes bytes_of (length_cells 8 set_bytes) (tab k (λ k. leaves (subtree_at n l (n + k)))),
        length_tab,
      )

  -- the output before the first row
  pub written_none : (out : List ℕ) → out ≡ node_sets n l 0 ++ drop (set_bytes * 0) out
  unfolding node_sets tab flat_map
  written_none out = refl

  -- a set put after those of the first k nodes
  pub written_more :
      (out out₀ s : List ℕ) (k : ℕ) → out ≡ node_sets n l k ++ drop (set_bytes * k) out₀
      → s ≡ bytes_of (leaves (subtree_at n l (n + k)))
      → take (set_bytes * k) out ++ s ++ drop (set_bytes * k + set_bytes) out
      ≡ node_sets n l (k + 1) ++ drop (set_bytes * (k + 1)) out₀
  written_more out out₀ s k e h =
      rw (e, h, sets_more k, take_at before _ (set_bytes * k) (sets_length k), beyond)
    where
      before : List ℕ
      before = node_sets n l k

      next : set_bytes * k + set_bytes ≡ set_bytes * (k + 1)
      next = omega arith

      beyond :
          drop (set_bytes * k + set_bytes) (node_sets n l k ++ drop (set_bytes * k) out₀)
          ≡ drop (set_bytes * (k + 1)) out₀
      beyond =
          rw (sets_length k) at (drop-append-add (node_sets n l k) (drop (set_bytes * k) out₀) set_bytes)
          ∙ drop-drop set_bytes (set_bytes * k) out₀
          ∙ rw next
