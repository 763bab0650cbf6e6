-- The figures of a trailer, as they are handed from one function to the next. No operation's contract cites it.
use Rattle.std.specs.Prelude.{◌≡◌, List, ℕ, ◌<◌, take, drop}
use Rattle.sheets.specs.declared.Figures.{Figures}
use Rattle.sheet_rules.specs.Sheets.{leaves_of, offset_of, cell_bytes}

-- those that the trailer of S says
abbrev pub FiguresOf : List ℕ → Figures → Type 0
FiguresOf S f = (f.leaves ≡ leaves_of S) × (f.offset ≡ offset_of S) × (f.leaves < 65536)

-- the bytes of the cells of S, from where its trailer says
abbrev pub packed_of : List ℕ → List ℕ
packed_of S = take (cell_bytes (leaves_of S)) (drop (offset_of S) S)
