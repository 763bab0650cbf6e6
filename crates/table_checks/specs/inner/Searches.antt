-- The checks of a table, 4 and 5, as the searches that make them see them. No public contract cites it.
use Rattle.std.specs.Prelude.{◌≡◌, not, ◌&&◌, List, ℕ, ◌+◌, ◌*◌, ◌≤◌, ◌<◌, ltb, eqb, length, drop}
use Rattle.std.proofs.Math.Option.{Option, none, some}
use Rattle.base.specs.Lists.{in_rows, find}
use Rattle.limits.specs.Limits.{most_leaves}
use Rattle.refusals.specs.declared.Refusal.{Refusal}
use Rattle.refusals.specs.declared.Refusal.TheVariants.{Halves}
use Rattle.trees.specs.Tables.{cell}

-- the cells of a table of n leaves, as many as are due
pub record Square (n : ℕ) (t : List ℕ) : Type 0 where
  pub few : n ≤ most_leaves
  pub cells : length t ≡ n * n

-- the first i, j with i < j and unequal cells, of the pairs in row order from place k on
unfoldable pub unequal_from : ℕ → List ℕ → ℕ → Option (ℕ × ℕ)
unequal_from n t k =
    find (λ p. ltb p.0 p.1 && not (eqb (cell n t p.0 p.1) (cell n t p.1 p.0))) (drop k (in_rows n))

-- the cells of leaf j with the four leaves from i on equal their mirror cells
abbrev pub FourAgree : ℕ → List ℕ → ℕ → ℕ → Type 0
FourAgree n t i j = (k : ℕ) → k < 4 → cell n t j (i + k) ≡ cell n t (i + k) j

-- the refusal 5 of such a pair
unfoldable pub halves_refusal : Option (ℕ × ℕ) → Option Refusal
halves_refusal o = elim o [ some p ↦ some (Halves p.0 p.1) | none ↦ none ]
