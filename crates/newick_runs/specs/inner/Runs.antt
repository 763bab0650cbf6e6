-- Runs of bytes that are read in one go: in a name its bytes, in a length its bytes, elsewhere blanks. No public
-- contract cites this.
use Rattle.std.specs.Prelude.{◌≡◌, ◌≢◌, Bool, true, false, cond, List, ℕ, zero, suc, ◌+◌, ◌≤◌, ◌<◌, eqb, length, get_or}
use Rattle.sheet_rules.specs.Sheets.{name_byte}
use Rattle.name_index.specs.inner.Hashes.{hashes, hash_step}
use Rattle.newick_rules.specs.Reader.{blank, length_byte}
use Rattle.newick_runs.specs.declared.Run.{Run}

-- a byte that leaves the reader where it is, in a state that is in no name
unfoldable pub stays : (state b : ℕ) → Bool
stays state b = cond (eqb state 5) (length_byte b) (cond (eqb state 1) false (cond (eqb state 4) false (blank b)))

-- a hash after so many bytes of a text more, from byte k on
unfoldable pub hash_over : (t : List ℕ) (k many hash : ℕ) → ℕ
hash_over t k zero hash = hash
hash_over t k (suc many) hash = hash_step (hash_over t k many hash) (get_or t (k + many) 0)

-- all bytes from k on and before r pass a test
pub record Passed (f : ℕ → Bool) (t : List ℕ) (k r : ℕ) : Type 0 where
  pub low : k ≤ r
  pub high : r ≤ length t
  pub each : (j : ℕ) → k ≤ j → j < r → f (get_or t j 0) ≡ true

-- the bytes of a name, and its hash behind them
pub record Named (t : List ℕ) (k hash : ℕ) (r : Run) : Type 0 where
  pub many : ℕ
  pub end : r.to ≡ k + many
  pub passed : Passed name_byte t k r.to
  pub hash_is : r.hash ≡ hash_over t k many hash
  pub small : r.hash < hashes

-- a run of either kind
pub record Ran (state : ℕ) (t : List ℕ) (k hash : ℕ) (r : Run) : Type 0 where
  pub names : state ≡ 1 → Named t k hash r
  pub others : state ≢ 1 → Passed (stays state) t k r.to × (r.hash ≡ hash)
