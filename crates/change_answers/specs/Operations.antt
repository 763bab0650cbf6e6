-- Grafting and pruning (02, request 5): the two changes of a tree, and the answers of the operations, the refusals in
-- the order in which they are judged. The changes themselves are the cases of the enum `Change` in src/lib.rt.
use Rattle.std.specs.Prelude.{Bool, ◌&&◌, List, [], ◌∷◌, ℕ, ◌+◌, ◌-◌, ◌*◌, ltb, length}
use Rattle.std.proofs.Math.Option.{Option}
use Rattle.refusals.specs.declared.Refusal.{Refusal}
use Rattle.refusals.specs.declared.Refusal.TheVariants.{NotOwn}
use Rattle.refusals.specs.Refusals.{Answer, refuse, judged, answered}
use Rattle.tree_records.specs.declared.Origin.TheVariants.{Grafted}
use Rattle.tree_records.specs.Records.{TreeRecord, marked}
use Rattle.checks.specs.Sizes.{count_refusal, length_refusal, room_refusal}
use Rattle.trees.specs.Trees.{Tree}
use Rattle.trees.specs.Listings.{rules_refusal, tree_of, standard}
use Rattle.trees.specs.Tables.{table_of, is_own_table, cells_refusal}
use Rattle.spanned_trees.specs.Spans.{pruned}
use Rattle.grafted_trees.specs.Grafts.{names_edge, grafted}
use Rattle.change_answers.specs.declared.Change.{Change}
use Rattle.change_answers.specs.declared.Change.TheVariants.{Graft, Prune}

-- how many leaves a tree on n leaves has afterwards
abbrev pub count_after : ℕ → Change → ℕ
count_after n (Graft e) = n + 1
count_after n (Prune x) = n - 1

-- the edge or leaf that is named is there
abbrev pub is_there : ℕ → Change → Bool
is_there n (Graft e) = names_edge n e
is_there n (Prune x) = ltb x n

-- the changed tree
abbrev pub changed : ℕ → Tree → Change → Tree
changed n T (Graft e) = grafted n T e
changed n T (Prune x) = pruned x T

-- a listing and a table of n leaves, and room for those of the changed tree: 1 for both counts, 2 for both inputs, 3
-- for both outputs, 7 and 8, 4, 5, then 20: what is named is absent, or the table is not the tree's own
unfoldable pub change_refusal : (n : ℕ) (l t : List ℕ) (c : Change) (room space : ℕ) → Option Refusal
change_refusal n l t c room space =
    let m = count_after n c in
    judged (
    count_refusal n ∷ count_refusal m ∷ length_refusal (2 * (n - 2)) (length l) ∷ length_refusal (n * n) (length t)
    ∷ room_refusal (2 * (m - 2)) room ∷ room_refusal (m * m) space ∷ rules_refusal n l ∷ cells_refusal n t
    ∷ refuse (is_there n c && is_own_table n t (tree_of n l)) NotOwn ∷ []
    )

-- the standard listing of the changed tree
unfoldable pub change_answer : (n : ℕ) (l t : List ℕ) (c : Change) (room space : ℕ) → Answer (List ℕ)
change_answer n l t c room space =
    answered (change_refusal n l t c room space) (standard (count_after n c) (changed n (tree_of n l) c))

-- its record: the origin becomes grafted
unfoldable pub change_record : (n : ℕ) (l t : List ℕ) (c : Change) (room space : ℕ) → Answer TreeRecord
change_record n l t c room space = marked (count_after n c) Grafted (change_answer n l t c room space)

-- and its table, counted afresh
unfoldable pub change_table : (n : ℕ) (l t : List ℕ) (c : Change) (room space : ℕ) → Answer (List ℕ)
change_table n l t c room space =
    answered (change_refusal n l t c room space) (table_of (count_after n c) (changed n (tree_of n l) c))
