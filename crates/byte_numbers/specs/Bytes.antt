-- Numbers in bytes, low byte first.
use Rattle.std.specs.Prelude.{List, [], ◌∷◌, ℕ, zero, suc, ◌+◌, ◌*◌, ◌/◌, ◌%◌, ◌<◌, get_or}

-- a list of bytes
abbrev pub AreBytes : List ℕ → Type 0
AreBytes l = (k : ℕ) → get_or l k 0 < 256

-- the number that these bytes hold
unfoldable pub number : List ℕ → ℕ
number [] = 0
number (b ∷ l) = b + 256 * number l

-- a number in so many bytes
unfoldable pub low_first : ℕ → ℕ → List ℕ
low_first zero v = []
low_first (suc k) v = v % 256 ∷ low_first k (v / 256)
