-- The children of a node of a listing. No public contract cites them.
use Rattle.std.specs.Prelude.{List, ℕ, ◌+◌, ◌-◌, ◌*◌, get_or}

-- the two children of node v, as its row names them
abbrev pub row_first : ℕ → List ℕ → ℕ → ℕ
row_first n l v = get_or l (2 * (v - n)) 0

abbrev pub row_second : ℕ → List ℕ → ℕ → ℕ
row_second n l v = get_or l (2 * (v - n) + 1) 0
