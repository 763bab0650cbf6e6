-- The standard listing of a tree at the front of a buffer: the front keeps the rules, and stands for the tree.
use mathlib.Core.Path.{◌≡◌, ap, ◌∙◌}
use mathlib.Core.List.{List, ◌++◌}
use Prim.Native.Nat.{ℕ, ◌-◌, ◌*◌, ◌≤◌}
use native.Mathlib.Omega.{arith}
use lib.ListN.{length, take, length-append}
use lib.Seq.{take_at}
use Rattle.limits.specs.Limits.{IsLeafCount}
use Rattle.trees.specs.Trees.{Tree, IsTree, ordered}
use Rattle.trees.specs.Listings.{KeepsRules, tree_of, standard}
use Rattle.trees.proofs.Listings.{tree_listing, standard_once, standard_stands}

module _ (m : ℕ) (c : IsLeafCount m) (T : Tree) (h : IsTree m T) (out rest : List ℕ)
    (put : out ≡ standard m T ++ rest) where
  pub numbers : length (standard m T) ≡ 2 * (m - 2)
  numbers = (tree_listing m c T h).0.numbers

  pub front : take (2 * (m - 2)) out ≡ standard m T
  front = ap (take (2 * (m - 2))) put ∙ take_at (standard m T) rest (2 * (m - 2)) numbers

  pub front_fits : 2 * (m - 2) ≤ length out
  front_fits = omega (arith, ap length put, length-append (standard m T) rest, numbers)

  pub front_long : length (take (2 * (m - 2)) out) ≡ 2 * (m - 2)
  front_long = rw front numbers

  pub front_keeps : KeepsRules m (take (2 * (m - 2)) out)
  front_keeps = rw front (tree_listing m c T h).0

  pub front_standard : standard m (tree_of m (take (2 * (m - 2)) out)) ≡ take (2 * (m - 2)) out
  front_standard = rw front (standard_once m c T h)

  pub front_stands : tree_of m (take (2 * (m - 2)) out) ≡ ordered T
  front_stands = rw front (standard_stands m c T h)
