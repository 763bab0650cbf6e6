-- Where a tree came from (02, request 3): the number of each origin, and the origin that a number names. The origins
-- themselves are the cases of the enum `Origin` in src/lib.rt.
use Rattle.std.specs.Prelude.{[], ◌∷◌, ℕ, get_or}
use Rattle.tree_records.specs.declared.Origin.{Origin}
use Rattle.tree_records.specs.declared.Origin.TheVariants.{Rebuilt, Listed, Imported, Guessed, Grafted}

-- the number of an origin
abbrev pub origin_number : Origin → ℕ
origin_number Rebuilt = 0
origin_number Listed = 1
origin_number Imported = 2
origin_number Guessed = 3
origin_number Grafted = 4

-- the origin that a number names; one above 4 is taken as listed, so that no unknown origin claims to be rebuilt
unfoldable pub origin_of : ℕ → Origin
origin_of k = get_or (Rebuilt ∷ Listed ∷ Imported ∷ Guessed ∷ Grafted ∷ []) k Listed
