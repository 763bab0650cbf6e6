-- What is judged before a tree is changed, in goes: the sizes, and the cells with what is named. No public contract
-- cites it.
use Rattle.std.specs.Prelude.{Bool, ◌&&◌, List, [], ◌∷◌, ℕ, ◌-◌, ◌*◌}
use Rattle.std.proofs.Math.Option.{Option}
use Rattle.refusals.specs.declared.Refusal.{Refusal}
use Rattle.refusals.specs.declared.Refusal.TheVariants.{NotOwn}
use Rattle.refusals.specs.Refusals.{refuse, judged}
use Rattle.checks.specs.Sizes.{count_refusal, length_refusal, room_refusal}
use Rattle.trees.specs.Trees.{Tree}
use Rattle.trees.specs.Tables.{is_own_table, cells_refusal}

-- a listing and a table of n leaves, and room for those of m leaves: 1 for m, 2, 3
unfoldable pub change_sizes_refusal : (n m numbers cells room space : ℕ) → Option Refusal
change_sizes_refusal n m numbers cells room space =
    judged (
    count_refusal m ∷ length_refusal (2 * (n - 2)) numbers ∷ length_refusal (n * n) cells
    ∷ room_refusal (2 * (m - 2)) room ∷ room_refusal (m * m) space ∷ []
    )

-- a table of n leaves beside the tree T: 4, 5, then 20
unfoldable pub cells_or_own_refusal : (there : Bool) (n : ℕ) (t : List ℕ) (T : Tree) → Option Refusal
cells_or_own_refusal there n t T = judged (cells_refusal n t ∷ refuse (there && is_own_table n t T) NotOwn ∷ [])
