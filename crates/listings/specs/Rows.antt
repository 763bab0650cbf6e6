-- The rows of a listing, as code reads them.
use Rattle.std.specs.Prelude.{cond, List, ℕ, ◌+◌, ◌*◌, ◌/◌, ltb, length, get_or}
use Rattle.listings.specs.declared.Row.{Row}

-- row k, of two numbers; 0 and 0 where there is none
unfoldable pub row_at : List ℕ → ℕ → Row
row_at l k =
    cond (ltb k (length l / 2)) (record { first = get_or l (2 * k) 0; second = get_or l (2 * k + 1) 0 })
    (record { first = 0; second = 0 })
