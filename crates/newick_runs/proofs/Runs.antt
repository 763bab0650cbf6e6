-- Runs, byte by byte: what has passed so far passes with one byte more.
use mathlib.Core.Path.{◌≡◌, refl, sym, ◌∙◌}
use mathlib.Core.Logic.{◌≢◌}
use mathlib.Core.Bool.{Bool, true, false}
use mathlib.Core.List.{List}
use Prim.Native.Nat.{ℕ, suc, ◌+◌, ◌≤◌, ◌<◌}
use native.Mathlib.Nat.{add-zero}
use native.Mathlib.Omega.{arith}
use native.Mathlib.Decide.{dec_lt}
use borrow.Author.Tests.{ne_eqb}
use lib.ListN.{length, get_or}
use Rattle.sheet_rules.specs.Sheets.{name_byte}
use Rattle.name_index.specs.inner.Hashes.{hashes, hash_step}
use Rattle.newick_rules.specs.Reader.{blank, length_byte}
use Rattle.newick_runs.specs.declared.Run.{Run}
use Rattle.newick_runs.specs.inner.Runs.{stays, hash_over, Passed, Named, Ran}

-- Bytes that pass a test.
pub passed_none : {f : ℕ → Bool} {t : List ℕ} (k : ℕ) → k ≤ length t → Passed f t k k
passed_none k h = record { low = omega arith; high = h; each = λ j a b. absurd (omega arith) }

pub passed_more :
    {f : ℕ → Bool} {t : List ℕ} {k j : ℕ} → Passed f t k j → j < length t → f (get_or t j 0) ≡ true
    → Passed f t k (j + 1)
passed_more {f} {t} {k} {j} P l e = record {
  low = omega (arith, P.low);
  high = omega arith;
  each = λ i a b. elim (dec_lt i j) [
    | yes q ↦ P.each i a q
    | no g ↦ (let same : i ≡ j = omega arith in rw same e)
  ];
}

-- A name.
pub named_none :
    {t : List ℕ} {k hash : ℕ} → k ≤ length t → hash < hashes → Named t k hash (record { to = k; hash = hash })
unfolding hash_over
named_none {k = k} h s = record {
  many = 0;
  end = sym (add-zero k);
  passed = passed_none k h;
  hash_is = refl;
  small = s;
}

pub named_more :
    {t : List ℕ} {k hash j h : ℕ} → Named t k hash (record { to = j; hash = h }) → j < length t
    → name_byte (get_or t j 0) ≡ true → (h' : ℕ) → h' ≡ hash_step h (get_or t j 0) → h' < hashes
    → Named t k hash (record { to = j + 1; hash = h' })
unfolding hash_over
named_more {t} {k} {hash} {j} {h} N l e h' is s = record {
  many = suc N.many;
  end = omega (arith, N.end);
  passed = passed_more N.passed l e;
  hash_is = is ∙ rw (N.hash_is, N.end);
  small = s;
}
