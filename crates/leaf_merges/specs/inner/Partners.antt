-- Partners: the subtrees that may be merged with a given one.
use Rattle.std.specs.Prelude.{◌≡◌, List, ℕ, ◌<◌, get_or, Option, Some, None}
use Rattle.state_arrays.specs.inner.Fits.{SubtreesFit}

-- b labels a subtree that may be merged with a's
abbrev pub Joins : ℕ → List ℕ → List ℕ → List ℕ → List ℕ → List ℕ → ℕ → ℕ → Type 0
Joins n t label m sizes p a b = (get_or label b 0 ≡ b) × SubtreesFit n t label m sizes p a b

-- r is the first such label after a, if there is one
pub record Partner (n : ℕ) (t label m sizes p : List ℕ) (a : ℕ) (r : Option ℕ) : Type 0 where
  pub hit : (b : ℕ) → r ≡ Some b → (b < n) × (a < b) × Joins n t label m sizes p a b
  pub miss : r ≡ None → (b : ℕ) → a < b → b < n → Joins n t label m sizes p a b → ⊥
