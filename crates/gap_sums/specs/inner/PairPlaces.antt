-- Arrays with a place for each pair of leaves i < j: those of j stand together, after those of the leaves before it.
use Rattle.std.specs.Prelude.{cond, ℕ, ◌+◌, ltb}
use Rattle.pair_counts.specs.Pairs.{P}

-- the place of the pair i < j
unfoldable pub pair_place : ℕ → ℕ → ℕ
pair_place i j = P j + i

-- the place of two different leaves, in either order
unfoldable pub place_of : ℕ → ℕ → ℕ
place_of a k = cond (ltb a k) (pair_place a k) (pair_place k a)
