-- The figure of a reply that tells a name's place. No entry's contract cites it.
use Rattle.std.specs.Prelude.{ℕ, ◌+◌, ◌*◌}
use Rattle.replies.specs.Replies.{eight_bits}
use Rattle.sheet_names.specs.declared.NamePlace.{NamePlace}

-- 256 times the place of the first byte, and the length
abbrev pub place_figure : NamePlace → ℕ
place_figure p = eight_bits * p.first + p.many
