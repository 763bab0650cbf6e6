-- The classes of the leaves at a row: those of its two children, and the others. No public contract cites it.
use Rattle.std.specs.Prelude.{◌≡◌, cond, List, ℕ, ◌<◌, eqb, get_or}

-- a leaf with the label a is of class 1, one with the label b of class 2, and any other of class 0
unfoldable pub class_of : (label a b : ℕ) → ℕ
class_of label a b = cond (eqb label a) 1 (cond (eqb label b) 2 0)

-- the first j leaves have their classes
abbrev pub Classified : (j : ℕ) (label : List ℕ) (a b : ℕ) (classes : List ℕ) → Type 0
Classified j label a b classes = (k : ℕ) → k < j → get_or classes k 0 ≡ class_of (get_or label k 0) a b
