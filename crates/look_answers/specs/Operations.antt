-- Looking before grafting (02, request 7): the total gap that the grafted tree would have to the table of n + 1 leaves
-- that comes with the new strain. The answers for a chosen edge and for all of them, the refusals in the order in which
-- they are judged.
use Rattle.std.specs.Prelude.{Bool, true, ◌&&◌, List, [], ◌∷◌, ℕ, ◌+◌, ◌-◌, ◌*◌, length}
use Rattle.std.proofs.Math.Option.{Option}
use Rattle.base.specs.Lists.{tab}
use Rattle.limits.specs.declared.Kind.{Kind}
use Rattle.limits.specs.Limits.{scale_of}
use Rattle.refusals.specs.declared.Refusal.{Refusal}
use Rattle.refusals.specs.declared.Refusal.TheVariants.{NotOwn}
use Rattle.refusals.specs.Refusals.{Answer, refuse, judged, answered}
use Rattle.checks.specs.Sizes.{count_refusal, count_refusal_of, length_refusal, room_refusal}
use Rattle.trees.specs.Listings.{rules_refusal, tree_of}
use Rattle.trees.specs.Tables.{is_own_table, cells_refusal}
use Rattle.trees.specs.Gaps.{total_gap}
use Rattle.grafted_trees.specs.Grafts.{names_edge, grafted}

-- a listing and its table of n leaves, and a new table of n + 1 leaves, which may be a poll's; `there` says that the
-- edge is. Refused where grafting is, but for 3; the new table by 2, with the sizes, and by 4 or 5, last of all. 3 is
-- for a result of `due` numbers, where there is one. 1, 2, 3, 7, 8, 4, 5, 20, and 4, 5 again
unfoldable pub look_refusal : Kind → (n : ℕ) (l t u : List ℕ) (there : Bool) (due room : ℕ) → Option Refusal
look_refusal kind n l t u there due room =
    judged (
    count_refusal n ∷ count_refusal_of kind (n + 1) ∷ length_refusal (2 * (n - 2)) (length l)
    ∷ length_refusal (n * n) (length t) ∷ length_refusal ((n + 1) * (n + 1)) (length u) ∷ room_refusal due room
    ∷ rules_refusal n l ∷ cells_refusal n t ∷ refuse (there && is_own_table n t (tree_of n l)) NotOwn
    ∷ cells_refusal (n + 1) u ∷ []
    )

-- the total gap, at the new table's scale, of the tree with leaf n grafted on the edge e
unfoldable pub look_total : Kind → (n : ℕ) (l u : List ℕ) (e : ℕ) → ℕ
look_total kind n l u e = total_gap (n + 1) (scale_of kind) u (grafted n (tree_of n l) e)

-- for a chosen edge
unfoldable pub look_answer : Kind → (n : ℕ) (l t u : List ℕ) (e : ℕ) → Answer ℕ
look_answer kind n l t u e = answered (look_refusal kind n l t u (names_edge n e) 0 0) (look_total kind n l u e)

-- for every edge, 1 to 2n − 3
unfoldable pub look_all_answer : Kind → (n : ℕ) (l t u : List ℕ) (room : ℕ) → Answer (List ℕ)
look_all_answer kind n l t u room =
    answered (look_refusal kind n l t u true (2 * n - 3) room) (tab (2 * n - 3) (λ k. look_total kind n l u (k + 1)))
