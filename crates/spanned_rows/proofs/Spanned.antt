-- All is joined, and the rows of the chain are written: the rows are those of the spanned tree. And the marks of all
-- leaves but one.
use mathlib.Core.Path.{◌≡◌, refl, sym, ◌∙◌}
use mathlib.Core.Bool.{true, false}
use mathlib.Core.List.{List, ◌++◌}
use Prim.Native.Nat.{ℕ, ◌-◌, ◌*◌, ◌<◌}
use native.Mathlib.Omega.{arith}
use native.Mathlib.Decide.{ℕ_discrete}
use lib.ListN.{length, set, take, replicate, get_or-replicate}
use lib.Seq.{take-append_seam, get_or-set_same, get_or-set_other}
use Rattle.limits.specs.Limits.{most_leaves, most_numbers, IsLeafCount}
use Rattle.trees.specs.Trees.{Tree, leaf, node, LeafSet}
use Rattle.trees.specs.Listings.{KeepsRules, tree_of}
use Rattle.trees.specs.Rerooting.{IsHeld, rerooted}
use Rattle.trees.proofs.Trees.{leaf_eq}
use Rattle.trees.proofs.Rerooting.{held_on}
use Rattle.trees.proofs.Rules.{listing_tree}
use Rattle.spanned_trees.specs.Spans.{rank, spanned, all_but, pruned}
use Rattle.spanned_trees.proofs.Ranks.{rank_same}
use Rattle.spanned_trees.proofs.Spans.{rest_held, spanned_same}
use Rattle.spanned_trees.proofs.Prunes.{but_stays, but_goes, rank_all_but}
use Rattle.rerooted_rows.specs.declared.Rerooting.{Rerooting}
use Rattle.rerooted_rows.specs.inner.Arrays.{with_chain, ChainFits}
use Rattle.rerooted_rows.proofs.Arrays.{chain_fits, chain_listing}
use Rattle.spanned_rows.specs.inner.Marks.{marked, Spanned}
use Rattle.spanned_rows.specs.inner.Parts.{part, all_come, RowsJoined}

-- What is joined has a node, so the chain makes its rows.
chain_makes :
    {m : ℕ} {J : Rerooting} → IsLeafCount m → (R : Tree) → IsHeld m R → RowsJoined m R J
    → ChainFits m J × KeepsRules m (with_chain m J) × (tree_of m (with_chain m J) ≡ rerooted R)
chain_makes {m} c (leaf x) h r =
    let w = held_on m (leaf x) h in
    let zero = leaf_eq 0 x (w.all 0 (omega (arith, c.0))) in
    let one = leaf_eq 1 x (w.all 1 (omega (arith, c.0))) in
    absurd (omega arith)
chain_makes {m} {J} c (node A B) h r =
    let all : (k : ℕ) → k < m → all_come k ≡ true = λ k l. refl in
    let listing = chain_listing m J all_come c r.rows_long r.chain_long all r.accounted A B r.stands in
    (chain_fits m J all_come c r.rows_long r.chain_long all r.accounted A B r.stands, listing.0, listing.1)

module _ {n m : ℕ} {l : List ℕ} (v : LeafSet) {J : Rerooting} (count : IsLeafCount n) (keeps : KeepsRules n l)
    (c : IsLeafCount m) (as_many : m ≡ rank v n) (r : RowsJoined m (part v (node (leaf 0) (tree_of n l))) J) where
  made :
      ChainFits m J × KeepsRules m (with_chain m J) × (tree_of m (with_chain m J) ≡ spanned v (tree_of n l))
  unfolding spanned
  made =
      let held = rest_held n v (tree_of n l) (listing_tree n count l keeps) (omega (arith, c.0, as_many)) in
      chain_makes c (part v (node (leaf 0) (tree_of n l))) (rw as_many held) r

  pub span_fits : ChainFits m J
  span_fits = made.0

  pub span_long : length (with_chain m J) ≡ 2 * (m - 2)
  span_long = made.1.numbers

  pub span_end :
      (rest rows : List ℕ) → rows ≡ with_chain m J ++ rest → length rows ≡ most_numbers → Spanned n l v m rows
  span_end rest rows e long =
      let front : take (2 * (m - 2)) rows ≡ with_chain m J =
      rw (e, ← span_long) (take-append_seam (with_chain m J) rest) in
      record { count = as_many; long = long; keeps = rw front made.1; tree = rw front made.2 }

-- All leaves but x are marked.
module _ {n x : ℕ} (count : IsLeafCount n) (lx : x < n) where
  but_marked : (k : ℕ) → k < n → marked (set (replicate most_leaves true) x false) k ≡ all_but x k
  but_marked k lk = elim (ℕ_discrete k x) [
    | yes e ↦
        rw (e, get_or-set_same (replicate most_leaves true) x false false (omega (arith, count.1)))
        (sym (but_goes x))
    | no d ↦
        get_or-set_other (replicate most_leaves true) x k false false d
        ∙ get_or-replicate most_leaves k true false (omega (arith, count.1))
        ∙ sym (but_stays x k d)
  ]

  one_fewer : rank (marked (set (replicate most_leaves true) x false)) n ≡ n - 1
  one_fewer =
      rank_same (marked (set (replicate most_leaves true) x false)) (all_but x) n but_marked ∙ rank_all_but x n lx

  pub few_marked : IsLeafCount (n - 1) → IsLeafCount (rank (marked (set (replicate most_leaves true) x false)) n)
  few_marked c = rw one_fewer c

  module _ {l rows : List ℕ} {m : ℕ} (S : Spanned n l (marked (set (replicate most_leaves true) x false)) m rows) where
    pub pruned_count : m ≡ n - 1
    pruned_count = S.count ∙ one_fewer

    pub pruned_listed :
        IsLeafCount (n - 1) → KeepsRules n l → tree_of m (take (2 * (m - 2)) rows) ≡ pruned x (tree_of n l)
    unfolding pruned
    pruned_listed c keeps =
        let v = marked (set (replicate most_leaves true) x false) in
        let many : 1 < rank v n = rw one_fewer (omega (arith, c.0)) in
        S.tree
        ∙ spanned_same n v (tree_of n l) (listing_tree n count l keeps) many (all_but x) but_marked
