-- Rows and chain in arrays: a store in an array is a step of its list; what is accounted for has room; and when all is
-- joined, the rows and those of the chain are the listing of the rerooted tree.
use mathlib.Core.Path.{◌≡◌, refl, ap, ◌∙◌}
use mathlib.Core.Logic.{◌≢◌}
use mathlib.Core.Bool.{Bool, true, false, cond}
use mathlib.Core.List.{List, [], ◌∷◌}
use Prim.Native.Nat.{ℕ, zero, suc, ◌+◌, ◌-◌, ◌*◌, ◌≤◌, ◌<◌}
use native.Mathlib.Numerals.{add-one}
use native.Mathlib.Omega.{arith}
use native.Mathlib.Decide.{ℕ_discrete}
use borrow.Author.Tests.{ne_eqb}
use lib.Dec.{eqb}
use lib.ListN.{length, get_or, set, take, length-set}
use lib.Seq.{get_or-set_same, get_or-set_other}
use Rattle.limits.specs.Limits.{most_leaves, most_numbers, IsLeafCount}
use Rattle.trees.specs.Trees.{Tree, node}
use Rattle.trees.specs.Listings.{KeepsRules, subtree_at, tree_of}
use Rattle.trees.specs.Rerooting.{rerooted}
use Rattle.trees.proofs.AddedRows.{row_stored}
use Rattle.rerooted_rows.specs.declared.Rerooting.{Rerooting}
use Rattle.rerooted_rows.specs.inner.Joining.{joined_number, joined_chain, joined_rows, joined_count}
use Rattle.rerooted_rows.specs.inner.Joining.{Stands, Accounted}
use Rattle.rerooted_rows.specs.inner.Arrays.{stored_rows, stored_chain, stored_length, JoinFits, Joins}
use Rattle.rerooted_rows.specs.inner.Arrays.{backwards, rows_made, chain_kept, with_chain, ChainFits}
use Rattle.rerooted_rows.proofs.Joining.{row_fits}
use Rattle.rerooted_rows.proofs.Finishing.{chain_short, chain_split, rerooted_listing}

-- The ways out of `join`.
module _ (n a b : ℕ) (R : Rerooting) where
  abbrev pub beside : ℕ → Rerooting
  beside other = record {
    rows = R.rows;
    made = R.made;
    chain = set R.chain R.chained other;
    chained = R.chained + 1;
  }

  pub join_first : a ≡ 0 → Joins n a b R (beside b) 0
  unfolding joined_number joined_count stored_length stored_rows stored_chain
  join_first e = rw e (record {
    number_is = refl;
    count_is = refl;
    length_is = refl;
    rows_are = refl;
    chain_are = refl;
  })

  pub join_second : a ≢ 0 → b ≡ 0 → Joins n a b R (beside a) 0
  unfolding joined_number joined_count stored_length stored_rows stored_chain
  join_second d e = record {
    number_is = rw (ne_eqb a 0 d, e);
    count_is = rw (ne_eqb a 0 d, e);
    length_is = rw (ne_eqb a 0 d, e);
    rows_are = rw (ne_eqb a 0 d, e);
    chain_are = rw (ne_eqb a 0 d, e);
  }

  pub join_row :
      a ≢ 0 → b ≢ 0
      → Joins n a b R (record {
        rows = set (set R.rows (2 * R.made) a) (2 * R.made + 1) b;
        made = R.made + 1;
        chain = R.chain;
        chained = R.chained;
      }) (n + R.made)
  unfolding joined_number joined_count stored_length stored_rows stored_chain
  join_row d e = record {
    number_is = rw (ne_eqb a 0 d, ne_eqb b 0 e);
    count_is = rw (ne_eqb a 0 d, ne_eqb b 0 e);
    length_is = rw (ne_eqb a 0 d, ne_eqb b 0 e);
    rows_are = rw (ne_eqb a 0 d, ne_eqb b 0 e);
    chain_are = rw (ne_eqb a 0 d, ne_eqb b 0 e);
  }

-- The rows and the chain that the arrays hold then.
rows_joined :
    (a b m : ℕ) (rows : List ℕ) → (a ≢ 0 → b ≢ 0 → 2 * m + 1 < length rows)
    → take (2 * joined_count a b m) (stored_rows a b m rows) ≡ joined_rows a b (take (2 * m) rows)
unfolding joined_count stored_rows joined_rows
rows_joined a b m rows h = elim (ℕ_discrete a 0) [
  | yes z ↦ rw z
  | no da ↦ elim (ℕ_discrete b 0) [
    | yes z ↦ rw (ne_eqb a 0 da, z)
    | no db ↦ rw (ne_eqb a 0 da, ne_eqb b 0 db) (row_stored rows m a b (h da db))
  ]
]

-- a store past the first k numbers changes nothing of them, and one behind them puts it before them
backwards_past : (k : ℕ) (cells : List ℕ) (i v : ℕ) → k ≤ i → backwards k (set cells i v) ≡ backwards k cells
unfolding backwards
backwards_past zero cells i v h = refl
backwards_past (suc k) cells i v h =
    rw (get_or-set_other cells i k v 0 (λ e. omega arith), backwards_past k cells i v (omega arith))

backwards_more :
    (k : ℕ) (cells : List ℕ) (v : ℕ) → k < length cells → backwards (k + 1) (set cells k v) ≡ v ∷ backwards k cells
unfolding backwards
backwards_more k cells v h =
    rw (add-one k, get_or-set_same cells k v 0 h, backwards_past k cells k v (omega arith))

chain_joined :
    (a b chained : ℕ) (chain : List ℕ) → chained < length chain
    → backwards (stored_length a b chained) (stored_chain a b chained chain)
    ≡ joined_chain a b (backwards chained chain)
unfolding stored_chain joined_chain stored_length
chain_joined a b chained chain h = elim (ℕ_discrete a 0) [
  | yes z ↦ rw z (backwards_more chained chain b h)
  | no da ↦ elim (ℕ_discrete b 0) [
    | yes z ↦ rw (ne_eqb a 0 da, z) (backwards_more chained chain a h)
    | no db ↦ rw (ne_eqb a 0 da, ne_eqb b 0 db)
  ]
]

rows_length : (a b m : ℕ) (rows : List ℕ) → length (stored_rows a b m rows) ≡ length rows
unfolding stored_rows
rows_length a b m rows = stored (eqb a 0) (eqb b 0)
  where
    stored :
        (x y : Bool)
        → length (cond x rows (cond y rows (set (set rows (2 * m) a) (2 * m + 1) b))) ≡ length rows
    stored true y = refl
    stored false true = refl
    stored false false = length-set (set rows (2 * m) a) (2 * m + 1) b ∙ length-set rows (2 * m) a

chain_length : (a b chained : ℕ) (chain : List ℕ) → length (stored_chain a b chained chain) ≡ length chain
unfolding stored_chain
chain_length a b chained chain = stored (eqb a 0) (eqb b 0)
  where
    stored :
        (x y : Bool)
        → length (cond x (set chain chained b) (cond y (set chain chained a) chain)) ≡ length chain
    stored true y = length-set chain chained b
    stored false true = length-set chain chained a
    stored false false = refl

-- Two subtrees joined in the arrays.
module _ {n a b number : ℕ} {R R' : Rerooting} (F : JoinFits n a b R) (J : Joins n a b R R' number) where
  pub joins_rows : rows_made R' ≡ joined_rows a b (rows_made R)
  joins_rows =
      rw (J.count_is, J.rows_are)
      (rows_joined a b R.made R.rows (λ da db. omega (arith, F.row_room da db, F.rows_long)))

  pub joins_chain : chain_kept R' ≡ joined_chain a b (chain_kept R)
  joins_chain =
      rw (J.length_is, J.chain_are) (chain_joined a b R.chained R.chain (omega (arith, F.chain_room, F.chain_long)))

  pub joins_rows_long : length R'.rows ≡ most_numbers
  joins_rows_long = rw J.rows_are (rows_length a b R.made R.rows ∙ F.rows_long)

  pub joins_chain_long : length R'.chain ≡ most_leaves
  joins_chain_long = rw J.chain_are (chain_length a b R.chained R.chain ∙ F.chain_long)

backwards_length : (k : ℕ) (cells : List ℕ) → length (backwards k cells) ≡ k
unfolding backwards
backwards_length zero cells = refl
backwards_length (suc k) cells = ap suc (backwards_length k cells)

-- The arrays hold what is accounted for.
module _ (n : ℕ) (R : Rerooting) (seen : ℕ → Bool) (count : IsLeafCount n)
    (rows_long : length R.rows ≡ most_numbers) (chain_long : length R.chain ≡ most_leaves) where
  z : 0 < n
  z = omega (arith, count.0)

  chain_low :
      (others : List ℕ) → Accounted n R.made (rows_made R) (chain_kept R) others seen
      → R.chained + R.made + 1 ≤ n
  chain_low others W = omega (arith, chain_short z W, backwards_length R.chained R.chain)

  -- so there is room to join two subtrees
  pub join_fits :
      (a b : ℕ) (rest : List ℕ) → Accounted n R.made (rows_made R) (chain_kept R) (b ∷ a ∷ rest) seen
      → JoinFits n a b R
  join_fits a b rest W =
      let short = chain_low (b ∷ a ∷ rest) W in
      record {
        few = count.1;
        m_low = omega (arith, short, count.1);
        row_room = λ da db. omega (arith, row_fits z rest a b da db W, count.1);
        chain_room = omega (arith, short, count.1);
        rows_long = rows_long;
        chain_long = chain_long;
      }

  -- and when all is joined, to write the rows of the chain: the listing is that of the rerooted tree
  module _ (all : (k : ℕ) → k < n → seen k ≡ true)
      (W : Accounted n R.made (rows_made R) (chain_kept R) (0 ∷ []) seen) (A B : Tree)
      (st : Stands (subtree_at n (rows_made R)) (chain_kept R) 0 (node A B)) where
    some_chained : 0 < R.chained
    some_chained =
        go R.chained (chain_split n count.0 seen all R.made (rows_made R) (chain_kept R) W A B st)
      where
        go : (k : ℕ) → (c : ℕ) × (older : List ℕ) × (backwards k R.chain ≡ c ∷ older) → 0 < k
        go zero s = absurd (unfold backwards in omega (arith, ap length s.2))
        go (suc k) s = omega arith

    pub chain_fits : ChainFits n R
    chain_fits =
        let short = chain_low (0 ∷ []) W in
        record {
          few = count.1;
          some = some_chained;
          chain_low = omega (arith, short, count.1);
          room = omega (arith, short, some_chained, count.1);
          chain_long = chain_long;
          rows_long = rows_long;
        }

    pub chain_listing :
        KeepsRules n (with_chain n R)
        × (tree_of n (with_chain n R) ≡ rerooted (node A B))
    unfolding with_chain
    chain_listing =
        rerooted_listing n count.0 seen all R.made (rows_made R) (chain_kept R) W A B st
        (get_or R.chain (R.chained - 1) 0) (backwards (R.chained - 1) R.chain) (latest R.chained some_chained)
      where
        latest : (k : ℕ) → 0 < k → backwards k R.chain ≡ get_or R.chain (k - 1) 0 ∷ backwards (k - 1) R.chain
        latest zero h = absurd (omega arith)
        latest (suc k) h = let e : suc k - 1 ≡ k = omega arith in rw e (unfold backwards in refl)
