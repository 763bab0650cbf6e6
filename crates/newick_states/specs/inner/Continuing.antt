-- The bytes that continue a name or a length. No public contract cites this.
use Rattle.std.specs.Prelude.{Bool, cond, ◌&&◌, ℕ, eqb}
use Rattle.sheet_rules.specs.Sheets.{name_byte}
use Rattle.newick_rules.specs.Reader.{length_byte}

-- in a name a byte of names, in a length a byte of lengths
unfoldable pub continues : (state b : ℕ) → Bool
continues state b = cond (eqb state 1) (name_byte b) (eqb state 5 && length_byte b)
