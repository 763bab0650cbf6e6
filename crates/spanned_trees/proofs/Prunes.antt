-- Pruning: all leaves but x stay, and higher leaves move down by one.
use mathlib.Core.Path.{◌≡◌}
use mathlib.Core.Logic.{◌≢◌}
use mathlib.Core.Bool.{true, false}
use Prim.Native.Nat.{ℕ, ◌+◌, ◌-◌, ◌≤◌, ◌<◌}
use native.Mathlib.Omega.{arith}
use native.Mathlib.Decide.{dec_lt}
use borrow.Author.Tests.{lt-ltb, le-ltb, ne_eqb}
use lib.Dec.{eqb}
use Rattle.base.proofs.Bools.{never, eqb_same}
use Rattle.base.proofs.Counts.{count_not, count_none, count_one}
use Rattle.limits.specs.Limits.{IsLeafCount}
use Rattle.trees.specs.Trees.{Tree, IsTree, ordered}
use Rattle.trees.specs.Quartets.{paired, pairing}
use Rattle.spanned_trees.specs.Spans.{Stays, rank, all_but, pruned, lowered}
use Rattle.spanned_trees.proofs.Spans.{spanned_tree, spanned_paired, spanned_only}

module _ (x : ℕ) where
  pub but_stays : (k : ℕ) → k ≢ x → all_but x k ≡ true
  unfolding all_but
  but_stays k d = rw (ne_eqb k x d)

  pub but_goes : all_but x x ≡ false
  unfolding all_but
  but_goes = rw (eqb_same x)

  -- the leaves up to x keep their numbers
  pub rank_low : (k : ℕ) → k ≤ x → rank (all_but x) k ≡ k
  unfolding rank all_but
  rank_low k l = omega (arith, count_not k (λ j. eqb j x), count_none k x l)

  -- those above move down by one
  rank_high : (k : ℕ) → x < k → rank (all_but x) k + 1 ≡ k
  unfolding rank all_but
  rank_high k l = omega (arith, count_not k (λ j. eqb j x), count_one k x l)

  pub rank_lowered : (k : ℕ) → rank (all_but x) k ≡ lowered x k
  unfolding lowered
  rank_lowered k = elim (dec_lt x k) [
    | yes l ↦ rw (lt-ltb x k l) (omega (arith, rank_high k l))
    | no g ↦ rw (le-ltb x k (omega arith)) (rank_low k (omega arith))
  ]

  -- so many stay of n
  pub rank_all_but : (n : ℕ) → x < n → rank (all_but x) n ≡ n - 1
  rank_all_but n l = omega (arith, rank_high n l)

module _ (n : ℕ) (T : Tree) (h : IsTree n T) (x : ℕ) (lx : x < n) (big : 3 ≤ n) where
  many : 1 < rank (all_but x) n
  many = rw (rank_all_but x n lx) (omega arith)

  stays : (k : ℕ) → k < n → k ≢ x → Stays n (all_but x) k
  stays k l d = (l, but_stays x k d)

  -- the pruned tree is a tree on one leaf fewer
  pub pruned_tree : IsTree (n - 1) (pruned x T)
  unfolding pruned
  pruned_tree = rw (rank_all_but x n lx) at (spanned_tree n (all_but x) T h many)

  -- four leaves that stay are paired as before, under their new numbers; x may be 0
  pub pruned_paired :
      (i j p q : ℕ) → i < n → j < n → p < n → q < n → i ≢ x → j ≢ x → p ≢ x → q ≢ x
      → paired (pruned x T) (lowered x i) (lowered x j) (lowered x p) (lowered x q) ≡ paired T i j p q
  unfolding pruned
  pruned_paired i j p q li lj lp lq di dj dp dq =
      rw (← rank_lowered x i, ← rank_lowered x j, ← rank_lowered x p, ← rank_lowered x q)
      (spanned_paired n (all_but x) T h many i j p q (stays i li di) (stays j lj dj) (stays p lp dp) (stays q lq dq))

  pub pruned_pairing :
      (a b c d : ℕ) → a < n → b < n → c < n → d < n → a ≢ x → b ≢ x → c ≢ x → d ≢ x
      → pairing (pruned x T) (lowered x a) (lowered x b) (lowered x c) (lowered x d) ≡ pairing T a b c d
  unfolding pairing
  pruned_pairing a b c d la lb lc ld da db dc dd =
      rw (pruned_paired a b c d la lb lc ld da db dc dd, pruned_paired a c b d la lc lb ld da dc db dd)

  -- the only tree on one leaf fewer that pairs them so, in standard order
  pub pruned_only :
      IsLeafCount (n - 1) → (S : Tree) → IsTree (n - 1) S
      → ((i j p q : ℕ) → i < n → j < n → p < n → q < n → i ≢ x → j ≢ x → p ≢ x → q ≢ x
      → paired S (lowered x i) (lowered x j) (lowered x p) (lowered x q) ≡ paired T i j p q)
      → ordered S ≡ ordered (pruned x T)
  unfolding pruned
  pruned_only c S t e =
      spanned_only n (all_but x) T h many (rw left c) S (rw left t) (λ i j p q si sj sp sq.
      rw (rank_lowered x i, rank_lowered x j, rank_lowered x p, rank_lowered x q)
      (e i j p q si.0 sj.0 sp.0 sq.0 (differs i si.1) (differs j sj.1) (differs p sp.1)
      (differs q sq.1)))
    where
      left : rank (all_but x) n ≡ n - 1
      left = rank_all_but x n lx

      differs : (k : ℕ) → all_but x k ≡ true → k ≢ x
      differs k t e = never t (rw e (but_goes x))
