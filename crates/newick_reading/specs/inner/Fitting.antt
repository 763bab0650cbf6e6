-- 18 while a text is read: so far no bracket has too many parts or was closed with too few. No public contract cites
-- this.
use Rattle.std.specs.Prelude.{Bool, true, ◌&&◌, List, [], ◌∷◌, map, ℕ, leb, eqb}
use Rattle.std.proofs.Math.Option.{Option, none, some}
use Rattle.newick_rules.specs.Drawings.{Drawing}
use Rattle.newick_rules.specs.Reader.{Open}
use Rattle.sheet_rules.specs.Sheets.{between}
use Rattle.newick_rules.specs.Importing.{ways, binary, binary_parts, binary_top}

-- how many parts an open bracket has so far
unfoldable pub open_ways : Open → ℕ
open_ways none = 0
open_ways (some p) = ways p

-- of each, the innermost first
abbrev pub all_ways : List Open → List ℕ
all_ways s = map open_ways s

-- how many parts a bracket within these may have before its last one: the top has three at most, another two
unfoldable pub most_before : List Open → ℕ
most_before [] = 2
most_before (o ∷ s) = 1

-- an open bracket within these has not too many parts, and the nodes in them are binary
unfoldable pub fits_open : List Open → Open → Bool
fits_open s none = true
fits_open s (some p) = leb (ways p) (most_before s) && binary_parts p

-- so it is of all open brackets
unfoldable pub fits_opens : List Open → Bool
fits_opens [] = true
fits_opens (o ∷ s) = fits_open s o && fits_opens s

-- the nodes of the last drawing are binary; where no bracket is open it is the top, and may have three parts
unfoldable pub fits_last : List Open → Option Drawing → Bool
fits_last s none = true
fits_last [] (some d) = binary_top d
fits_last (o ∷ s) (some d) = binary d

-- and so it is of all that is read
unfoldable pub fits : List Open → Option Drawing → Bool
fits s d = fits_last s d && fits_opens s

-- a bracket with so many parts so far may close with one more: the top with two or three in all, another with two
unfoldable pub may_close : List Open → ℕ → Bool
may_close [] c = between 1 2 c
may_close (o ∷ s) c = eqb c 1
