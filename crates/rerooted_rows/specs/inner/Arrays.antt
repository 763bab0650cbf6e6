-- Rows and chain in arrays: how two subtrees are joined there, and the rows that the chain makes behind those written
-- so far. No public contract cites this.
use Rattle.std.specs.Prelude.{◌≡◌, ◌≢◌, cond, List, [], ◌∷◌, ◌++◌, ℕ, zero, suc, ◌+◌, ◌-◌, ◌*◌, ◌≤◌, ◌<◌, eqb, length}
use Rattle.std.specs.Prelude.{get_or, set, take, replicate}
use Rattle.limits.specs.Limits.{most_leaves, most_numbers}
use Rattle.rerooted_rows.specs.declared.Rerooting.{Rerooting}
use Rattle.rerooted_rows.specs.inner.Joining.{joined_number, joined_count, chain_rows}

-- nothing is joined
abbrev pub none_joined : Rerooting
none_joined = record {
  rows = replicate most_numbers 0;
  made = 0;
  chain = replicate most_leaves 0;
  chained = 0;
}

-- Two subtrees with the numbers a and b are joined in the arrays, after m rows, with so many numbers in the chain: the
-- arrays then, and how many numbers the chain has. Its array holds it backwards.
unfoldable pub stored_rows : (a b m : ℕ) → List ℕ → List ℕ
stored_rows a b m rows = cond (eqb a 0) rows (cond (eqb b 0) rows (set (set rows (2 * m) a) (2 * m + 1) b))

unfoldable pub stored_chain : (a b chained : ℕ) → List ℕ → List ℕ
stored_chain a b chained chain = cond (eqb a 0) (set chain chained b) (cond (eqb b 0) (set chain chained a) chain)

unfoldable pub stored_length : (a b chained : ℕ) → ℕ
stored_length a b chained = cond (eqb a 0) (chained + 1) (cond (eqb b 0) (chained + 1) chained)

-- the arrays have room for it
pub record JoinFits (n a b : ℕ) (R : Rerooting) : Type 0 where
  pub few : n ≤ most_leaves
  pub m_low : R.made < most_leaves
  pub row_room : a ≢ 0 → b ≢ 0 → 2 * R.made + 1 < most_numbers
  pub chain_room : R.chained < most_leaves
  pub rows_long : length R.rows ≡ most_numbers
  pub chain_long : length R.chain ≡ most_leaves

-- and this is what the arrays, the counts and the number are then
pub record Joins (n a b : ℕ) (R R' : Rerooting) (number : ℕ) : Type 0 where
  pub number_is : number ≡ joined_number n R.made a b
  pub count_is : R'.made ≡ joined_count a b R.made
  pub length_is : R'.chained ≡ stored_length a b R.chained
  pub rows_are : R'.rows ≡ stored_rows a b R.made R.rows
  pub chain_are : R'.chain ≡ stored_chain a b R.chained R.chain

-- the first k numbers of an array, the last of them first
unfoldable pub backwards : ℕ → List ℕ → List ℕ
backwards zero cells = []
backwards (suc k) cells = get_or cells k 0 ∷ backwards k cells

-- the rows and the chain that the arrays hold
abbrev pub rows_made : Rerooting → List ℕ
rows_made R = take (2 * R.made) R.rows

abbrev pub chain_kept : Rerooting → List ℕ
chain_kept R = backwards R.chained R.chain

-- the rows, and those that the chain makes
unfoldable pub with_chain : ℕ → Rerooting → List ℕ
with_chain n R =
    let older = R.chained - 1 in
    rows_made R ++ chain_rows (n + R.made) (get_or R.chain older 0) (backwards older R.chain)

-- the array has room for them
pub record ChainFits (n : ℕ) (R : Rerooting) : Type 0 where
  pub few : n ≤ most_leaves
  pub some : 0 < R.chained
  pub chain_low : R.chained ≤ most_leaves
  pub room : 2 * (R.made + (R.chained - 1)) ≤ most_numbers
  pub chain_long : length R.chain ≡ most_leaves
  pub rows_long : length R.rows ≡ most_numbers
