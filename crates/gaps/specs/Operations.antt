-- The operation `gap`: its answer, the refusals in the order in which they are judged. "Gap" is the paper's own term.
use Rattle.std.specs.Prelude.{List, [], ◌∷◌, ℕ, ◌*◌, ◌/◌, ◌%◌, ℤ, pos, ◌-ℤ◌, length, get_or}
use Rattle.std.proofs.Math.Option.{Option}
use Rattle.base.specs.Lists.{tab}
use Rattle.limits.specs.declared.Kind.{Kind}
use Rattle.limits.specs.Limits.{scale_of}
use Rattle.refusals.specs.declared.Refusal.{Refusal}
use Rattle.refusals.specs.Refusals.{Answer, judged, answered}
use Rattle.trees.specs.Trees.{Tree}
use Rattle.trees.specs.Listings.{tree_of}
use Rattle.trees.specs.Quartets.{quartets}
use Rattle.trees.specs.Tables.{cells_refusal}
use Rattle.checks.specs.Sizes.{input_refusal}
use Rattle.listings.specs.Operations.{listing_refusal}

-- the gap at each cell, row by row: the table's cell less s times the tree's, a signed number; s is the table's scale
unfoldable pub gaps : (n s : ℕ) → List ℕ → Tree → List ℤ
gaps n s t T = tab (n * n) (λ k. pos (get_or t k 0) -ℤ pos (s * quartets n T (k / n) (k % n)))

-- a table of this kind and a listing, and room for a gap at each cell: 1, 2, 3, 7, 8, then 4, 5
unfoldable pub gap_refusal : Kind → (n : ℕ) (t l : List ℕ) (room : ℕ) → Option Refusal
gap_refusal kind n t l room =
    judged (input_refusal kind n (n * n) (length t) ∷ listing_refusal n l (n * n) room ∷ cells_refusal n t ∷ [])

-- the gap between a table of this kind and the tree that a listing stands for
unfoldable pub gap_answer : Kind → (n : ℕ) (t l : List ℕ) (room : ℕ) → Answer (List ℤ)
gap_answer kind n t l room = answered (gap_refusal kind n t l room) (gaps n (scale_of kind) t (tree_of n l))
