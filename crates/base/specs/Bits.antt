-- Bits: those of a number, the number that has given ones, and a set of numbers kept in cells of some bits each.
use Rattle.std.specs.Prelude.{◌≡◌, Bool, List, ℕ, ◌+◌, ◌*◌, ◌/◌, ◌%◌, ◌^◌, ◌<◌, eqb, length, get_or}
use Rattle.base.specs.Numbers.{indicator, sum_below}
use Rattle.base.specs.Lists.{tab}

-- bit t of x, bit 0 the lowest
unfoldable pub bit : (x t : ℕ) → Bool
bit x t = eqb (x / 2 ^ t % 2) 1

-- the number whose bits are f 0, f 1, .., f (m − 1), the lowest first
unfoldable pub from_bits : ℕ → (ℕ → Bool) → ℕ
from_bits m f = sum_below m (λ t. indicator (f t) (2 ^ t))

-- the set that cells of so many bits stand for: k is bit k mod width of cell k div width
unfoldable pub in_cells : (width : ℕ) → List ℕ → (ℕ → Bool)
in_cells width s k = bit (get_or s (k / width) 0) (k % width)

-- a set in so many cells of so many bits: cell i has width · i and the numbers after it, the lowest bit first
unfoldable pub cells : (width many : ℕ) → (ℕ → Bool) → List ℕ
cells width many e = tab many (λ i. from_bits width (λ t. e (width * i + t)))

-- so many cells of so many bits
abbrev pub AreCells : (width many : ℕ) → List ℕ → Type 0
AreCells width many s = (length s ≡ many) × ((i : ℕ) → get_or s i 0 < 2 ^ width)
