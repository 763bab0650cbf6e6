-- Round trip: a table that a tree has, of either kind, passes 4 and 5, and rebuilding it gives the tree's own standard
-- listing; the table of a rebuilt tree is the table that was lent.
use mathlib.Core.Path.{◌≡◌, refl, sym, ◌∙◌}
use mathlib.Core.List.{List}
use mathlib.Core.Option.{none}
use Prim.Native.Nat.{ℕ, ◌-◌, ◌*◌, ◌≤◌}
use Rattle.limits.specs.declared.Kind.{Kind}
use Rattle.limits.specs.declared.Kind.TheVariants.{Counts}
use Rattle.limits.specs.Limits.{IsLeafCount, IsCountOf, scale_of}
use Rattle.limits.proofs.TableKinds.{leaf_count_of}
use Rattle.refusals.specs.Refusals.{accepted}
use Rattle.trees.specs.Trees.{Tree, IsTree}
use Rattle.trees.specs.Listings.{tree_of, standard}
use Rattle.trees.specs.Tables.{table_of, times, HasTable, IsTable, cells_refusal}
use Rattle.trees.proofs.Listings.{tree_listing, standard_once}
use Rattle.trees.proofs.Rules.{listing_tree}
use Rattle.trees.proofs.Tables.{passes_exactly, had_is_table, scale_one}
use Rattle.table_checks.proofs.TableRefusal.{table_passes}
use Rattle.merging.proofs.OneTable.{one_table}
use Rattle.rebuild_answers.specs.Operations.{rebuild_answer}
use Rattle.rebuild_answers.proofs.Promises.{accepted_exactly_when, rebuilt_is_the_only_one}
use Rattle.rebuild_answers.proofs.Promises.{rebuilt_has_the_table}

-- a table that a tree has, at any scale, has a zero diagonal and equal halves, and passes 4 and 5
pub had_table_passes :
    (n s : ℕ) (t : List ℕ) (T : Tree) → HasTable n s t T → IsTable n t × (cells_refusal n t ≡ none)
had_table_passes n s t T h = (had_is_table n s t T h, ((passes_exactly n t).1 (had_is_table n s t T h)).1)

-- rebuilding a table of this kind that a tree has gives the tree's standard listing
pub had_rebuilt :
    (kind : Kind) (n : ℕ) → IsCountOf kind n → (T : Tree) → IsTree n T → (t : List ℕ) → HasTable n (scale_of kind) t T
    → (room : ℕ) → 2 * (n - 2) ≤ room → rebuild_answer kind n t room ≡ accepted (standard n T)
had_rebuilt kind n c T tree t has room enough =
    let count = leaf_count_of kind n c in
    let passed = table_passes kind n t (2 * (n - 2)) room c (had_is_table n (scale_of kind) t T has) enough in
    let listed = tree_listing n count T tree in
    let l = standard n T in
    let T' = tree_of n l in
    let same = (one_table n count T' T (listing_tree n count l listed.0) tree).0 listed.1 in
    let has' : HasTable n (scale_of kind) t T' = rw same has in
    let a = (accepted_exactly_when kind n t room passed).1 (l, listed.0, has') in
    let only = rebuilt_is_the_only_one kind n t room a.0 a.1 l listed.0 has' in
    rw (sym (standard_once n count T tree) ∙ only) a.1

-- so rebuilding a tree's own table gives it
pub tree_rebuilt :
    (n : ℕ) → IsLeafCount n → (T : Tree) → IsTree n T → (room : ℕ) → 2 * (n - 2) ≤ room
    → rebuild_answer Counts n (table_of n T) room ≡ accepted (standard n T)
tree_rebuilt n count T tree room enough =
    had_rebuilt Counts n count T tree (table_of n T) ((scale_one n (table_of n T) T).1 refl) room enough

-- the table of a rebuilt tree, at the scale of the kind, is the table
pub table_rebuilt :
    (kind : Kind) (n : ℕ) (t : List ℕ) (room : ℕ) (l : List ℕ) → rebuild_answer kind n t room ≡ accepted l
    → times (scale_of kind) (table_of n (tree_of n l)) ≡ t
table_rebuilt kind n t room l e = sym (rebuilt_has_the_table kind n t room l e)
