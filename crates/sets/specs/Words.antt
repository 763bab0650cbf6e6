-- Leaf sets as words of 64 bits (02, request 6).
use Rattle.std.specs.Prelude.{List, ℕ}
use Rattle.base.specs.Bits.{in_cells, cells}
use Rattle.limits.specs.Limits.{set_words}
use Rattle.trees.specs.Trees.{LeafSet}

-- the leaf set that words stand for: leaf k is bit k mod 64 of word k div 64
abbrev pub set_of_words : List ℕ → LeafSet
set_of_words w = in_cells 64 w

-- a leaf set as words
abbrev pub words_of : LeafSet → List ℕ
words_of e = cells 64 set_words e
