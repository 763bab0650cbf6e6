-- Spanning in arrays: leaves numbered one by one, and what stays of subtrees joined row by row of a listing. One lemma
-- for each way into and out of a function.
use mathlib.Core.Path.{◌≡◌, refl, ap, sym, ◌∙◌}
use mathlib.Core.Bool.{Bool, true, false, cond}
use mathlib.Core.List.{List}
use Prim.Native.Nat.{ℕ, suc, ◌+◌, ◌-◌, ◌*◌, ◌≤◌, ◌<◌}
use native.Mathlib.Numerals.{add-one}
use native.Mathlib.Omega.{arith}
use native.Mathlib.Decide.{ℕ_discrete}
use lib.ListN.{length, get_or, set, take, drop, length-set}
use lib.Seq.{take_all, get_or-set_same, get_or-set_other}
use Rattle.base.specs.Numbers.{indicator}
use Rattle.limits.specs.Limits.{most_leaves, most_nodes, most_numbers, IsLeafCount}
use Rattle.trees.specs.Trees.{leaf, node, LeafSet}
use Rattle.trees.specs.Listings.{tree_of}
use Rattle.trees.specs.inner.Forests.{unused, uses, lawful}
use Rattle.trees.proofs.Forests.{LawfulRow}
use Rattle.trees.proofs.Rules.{to_lawful}
use Rattle.trees.proofs.AddedRows.{next_row, rows_read}
use Rattle.spanned_trees.specs.Spans.{rank}
use Rattle.spanned_trees.proofs.Ranks.{rank_zero, rank_suc, rank_most}
use Rattle.rerooted_rows.specs.declared.Rerooting.{Rerooting}
use Rattle.rerooted_rows.specs.inner.Arrays.{none_joined, backwards, rows_made, chain_kept}
use Rattle.rerooted_rows.proofs.Arrays.{joins_rows, joins_chain, joins_rows_long, joins_chain_long, join_fits}
use Rattle.spanned_rows.specs.inner.Marks.{marked, nothing, leaf_number, LeavesNumbered}
use Rattle.spanned_rows.specs.inner.Parts.{part, all_come, JoinsKept, JoinKeptFits, MayJoinRows, RowsJoined}
use Rattle.spanned_rows.proofs.Parts.{Underway, Added}
use Rattle.spanned_rows.proofs.Parts.{used_free, both_numbered, next_underway, first_underway, whole_accounted}
use Rattle.spanned_rows.proofs.Parts.{whole_stands, free_zero, free_top, zero_top}

-- The first k leaves are numbered.
pub record Numbering (n : ℕ) (marks : List Bool) (numbers : List ℕ) (k m : ℕ) : Type 0 where
  pub few : n ≤ most_leaves
  pub low : k ≤ n
  pub long : length numbers ≡ most_nodes
  pub count : m ≡ rank (marked marks) k
  pub each : (j : ℕ) → j < k → get_or numbers j 0 ≡ leaf_number (marked marks) j

module _ {n : ℕ} {marks : List Bool} {numbers : List ℕ} where
  pub numbering_start : n ≤ most_leaves → length numbers ≡ most_nodes → Numbering n marks numbers 0 0
  numbering_start few long = record {
    few = few;
    low = omega arith;
    long = long;
    count = sym (rank_zero (marked marks));
    each = λ j l. absurd (omega arith);
  }

  pub numbering_low : {k m : ℕ} → Numbering n marks numbers k m → m ≤ k
  numbering_low {k} N = omega (arith, N.count, rank_most (marked marks) k)

  pub numbering_more :
      {k m x m' : ℕ} → k < n → Numbering n marks numbers k m → x ≡ cond (get_or marks k false) m nothing
      → m' ≡ m + indicator (get_or marks k false) 1 → Numbering n marks (set numbers k x) (k + 1) m'
  unfolding leaf_number
  numbering_more {k} {m} {x} l N e e' = record {
    few = N.few;
    low = omega arith;
    long = length-set numbers k x ∙ N.long;
    count = e' ∙ rw (N.count, add-one k, rank_suc (marked marks) k);
    each = λ j lj. elim (ℕ_discrete j k) [
      | yes q ↦
          rw (q, get_or-set_same numbers k x 0 (omega (arith, N.long, N.few)))
          (e ∙ ap (λ r. cond (get_or marks k false) r nothing) N.count)
      | no d ↦ get_or-set_other numbers k j x 0 d ∙ N.each j (omega arith)
    ];
  }

  pub numbering_end :
      {k m : ℕ} → n ≤ k → Numbering n marks numbers k m
      → (m ≡ rank (marked marks) n) × LeavesNumbered n (marked marks) numbers
  numbering_end {k} l N =
      let e : k ≡ n = omega (arith, N.low) in
      (rw e at N.count, record { long = N.long; each = λ j lj. N.each j (omega arith) })

-- What it does in lists, and how long the arrays are then.
module _ {m a b number : ℕ} {R R' : Rerooting} (F : JoinKeptFits m a b R) (J : JoinsKept m a b R R' number) where
  pub added :
      Added m a b R.made (rows_made R) (chain_kept R) number R'.made (rows_made R') (chain_kept R')
  added = record {
    first_gone = λ e. let q = J.first_gone e in rw (q.0, q.1) (refl, refl, refl, refl);
    second_gone = λ d e. let q = J.second_gone d e in rw (q.0, q.1) (refl, refl, refl, refl);
    both = λ da db.
        let f = F da db in
        let j = J.both da db in
        (j.number_is, j.count_is, joins_rows f j, joins_chain f j);
  }

  arrays_long : length R.rows ≡ most_numbers → length R.chain ≡ most_leaves
      → (length R'.rows ≡ most_numbers) × (length R'.chain ≡ most_leaves)
  arrays_long lr lc = elim (ℕ_discrete a nothing) [
    | yes e ↦ (let q = J.first_gone e in rw q.1 (lr, lc))
    | no da ↦ elim (ℕ_discrete b nothing) [
      | yes e ↦ (let q = J.second_gone da e in rw q.1 (lr, lc))
      | no db ↦ (joins_rows_long (F da db) (J.both da db), joins_chain_long (F da db) (J.both da db))
    ]
  ]

-- The rows of the listing before node c are done.
pub record JoinedTo (n m : ℕ) (l numbers₀ numbers : List ℕ) (R : Rerooting) (c : ℕ) : Type 0 where
  pub start : MayJoinRows n m l numbers₀ R
  pub from : n ≤ c
  pub to : c ≤ 2 * n - 2
  pub long : length numbers ≡ most_nodes
  pub underway :
      (v : LeafSet) → LeavesNumbered n v numbers₀ → m ≡ rank v n
      → Underway n m v (take (2 * (c - n)) l) (c - n) (λ x. get_or numbers x 0) R.made (rows_made R)
      (chain_kept R)

pub joined_start :
    {n m : ℕ} {l numbers : List ℕ} → MayJoinRows n m l numbers none_joined
    → JoinedTo n m l numbers numbers none_joined n
unfolding backwards
joined_start {n} {m} {l} {numbers} M = record {
  start = M;
  from = omega arith;
  to = omega (arith, M.count.0);
  long = M.leaves.long;
  underway = λ v L e.
      let none : n - n ≡ 0 = omega arith in
      rw (none, e)
      (first_underway n v (λ x. get_or numbers x 0) (omega (arith, M.count.0)) (omega (arith, M.new_count.0, e))
      L.each);
}

module _ {n m : ℕ} {l numbers₀ numbers : List ℕ} {R : Rerooting} {c : ℕ} (J : JoinedTo n m l numbers₀ numbers R c)
  where
    z : 0 < n
    z = omega (arith, J.start.count.0)

    zm : 0 < m
    zm = omega (arith, J.start.new_count.0)

    few : m ≤ most_leaves
    few = J.start.new_count.1

    lawful_rows : lawful (unused n) n l ≡ true
    lawful_rows = to_lawful n (n - 2) z l J.start.keeps.numbers J.start.keeps.rules

    -- One row more.
    module _ (more : c < 2 * n - 2) where
      inside : 2 * (c - n) + 1 < length l
      inside = omega (arith, J.from, J.start.keeps.numbers)

      abbrev a : ℕ
      a = get_or l (2 * (c - n)) 0

      abbrev b : ℕ
      b = get_or l (2 * (c - n) + 1) 0

      row : LawfulRow (uses (unused n) n (take (2 * (c - n)) l)) (n + (c - n)) a b (drop (suc (suc (2 * (c - n)))) l)
      row = (rows_read n l (c - n) inside lawful_rows).1

      pub row_fits :
          JoinKeptFits m (get_or numbers (get_or l (2 * (c - n)) 0) 0)
          (get_or numbers (get_or l (2 * (c - n) + 1) 0) 0) R
      row_fits da db =
          let M = J.start in
          let p = take (2 * (c - n)) l in
          let U = J.underway M.stay M.leaves M.as_many in
          join_fits m R all_come M.new_count M.rows_long M.chain_long _ _ _
          (both_numbered z few zm U a b (used_free n p a row.first) (used_free n p b row.second) row.differ da
          db)

      pub joined_more :
          {R' : Rerooting} {number : ℕ}
          → JoinsKept m (get_or numbers (get_or l (2 * (c - n)) 0) 0)
          (get_or numbers (get_or l (2 * (c - n) + 1) 0) 0) R R' number
          → JoinedTo n m l numbers₀ (set numbers c number) R' (c + 1)
      joined_more {R'} {number} K = record {
        start = record {
          count = M.count;
          new_count = M.new_count;
          keeps = M.keeps;
          stay = M.stay;
          leaves = M.leaves;
          as_many = M.as_many;
          rows_long = longs.0;
          chain_long = longs.1;
        };
        from = omega (arith, J.from);
        to = omega arith;
        long = length-set numbers c number ∙ J.long;
        underway = λ v L e.
            let p = take (2 * (c - n)) l in
            let next : c + 1 - n ≡ c - n + 1 = omega (arith, J.from) in
            rw (next, next_row n l (c - n) inside)
            (next_underway z few zm (J.underway v L e) a b row.first row.second row.differ
            (λ x. get_or (set numbers c number) x 0) here old (added row_fits K));
      }
        where
          M : MayJoinRows n m l numbers₀ R
          M = J.start

          longs : (length R'.rows ≡ most_numbers) × (length R'.chain ≡ most_leaves)
          longs = arrays_long row_fits K M.rows_long M.chain_long

          place : n + (c - n) ≡ c
          place = omega (arith, J.from)

          here : get_or (set numbers c number) (n + (c - n)) 0 ≡ number
          here = rw place (get_or-set_same numbers c number 0 (omega (arith, J.long, M.count.1, more)))

          old : (x : ℕ) → x < n + (c - n) → get_or (set numbers c number) x 0 ≡ get_or numbers x 0
          old x low = get_or-set_other numbers c x number 0 (omega (arith, place))

    -- All rows are done: the last node and leaf 0.
    module _ (done : 2 * n - 2 ≤ c) where
      last : c - n ≡ n - 2
      last = omega (arith, J.to, J.start.count.0)

      all_rows : take (2 * (c - n)) l ≡ l
      all_rows = take_all (2 * (c - n)) l (omega (arith, J.start.keeps.numbers, last))

      all_underway :
          (v : LeafSet) → LeavesNumbered n v numbers₀ → m ≡ rank v n
          → Underway n m v l (n - 2) (λ x. get_or numbers x 0) R.made (rows_made R) (chain_kept R)
      all_underway v L e = rw (← last) (rw all_rows at (J.underway v L e))

      pub last_fits :
          JoinKeptFits m (get_or numbers 0 0) (get_or numbers (2 * n - 3) 0) R
      last_fits da db =
          let M = J.start in
          let v = M.stay in
          let U = all_underway v M.leaves M.as_many in
          let c' : IsLeafCount (rank v n) = rw M.as_many at M.new_count in
          join_fits m R all_come M.new_count M.rows_long M.chain_long _ _ _
          (both_numbered z few zm U 0 (2 * n - 3) (free_zero n M.count l M.keeps v c')
          (free_top n M.count l M.keeps v c') (zero_top n M.count l M.keeps v c') da db)

      pub joined_end :
          {R' : Rerooting} {number : ℕ}
          → JoinsKept m (get_or numbers 0 0) (get_or numbers (2 * n - 3) 0) R R' number
          → (v : LeafSet) → LeavesNumbered n v numbers₀ → m ≡ rank v n
          → RowsJoined m (part v (node (leaf 0) (tree_of n l))) R'
      joined_end {R'} {number} K v L e =
          let M = J.start in
          let longs = arrays_long last_fits K M.rows_long M.chain_long in
          let c' : IsLeafCount (rank v n) = rw e at M.new_count in
          let U : Underway n (rank v n) v l (n - 2) (λ x. get_or numbers x 0) R.made (rows_made R)
          (chain_kept R) = rw e at (all_underway v L e) in
          let A : Added (rank v n) (get_or numbers 0 0) (get_or numbers (2 * n - 3) 0) R.made (rows_made R)
          (chain_kept R) number R'.made (rows_made R') (chain_kept R') =
          rw e at (added last_fits K) in
          record {
            rows_long = longs.0;
            chain_long = longs.1;
            accounted = rw e (whole_accounted n M.count l M.keeps v c' U A);
            stands = rw e (whole_stands n M.count l M.keeps v c' U A);
          }
