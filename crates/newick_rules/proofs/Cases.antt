-- The worked cases hold: computed from the definitions.
use mathlib.Core.Path.{◌≡◌, refl}
use mathlib.Core.List.{List, [], ◌∷◌, ◌++◌, map}
use mathlib.Core.Option.{Option, none, some}
use Prim.Native.Nat.{ℕ, suc}
use lib.ListN.{replicate}
use Rattle.base.specs.Lists.{any_in, all_in}
use Rattle.refusals.specs.Refusals.{refuse, judged, answered}
use Rattle.trees.specs.Trees.{Tree, leaf, node, leaves, size, least, join, ordered}
use Rattle.trees.proofs.Trees.{five_tree}
use Rattle.trees.specs.Rerooting.{reroot_along, rerooted}
use Rattle.trees.specs.Listings.{number_in, post_order, standard}
use Rattle.sheet_rules.specs.Sheets.{name_byte, same, leaf_named}
use Rattle.newick_rules.specs.Drawings.{names_in}
use Rattle.newick_rules.specs.Reader.{opening, closing, semicolon, blank, length_byte, with_part, closes, follows}
use Rattle.newick_rules.specs.Reader.{inside, step, Reading, draws, breaks, at_end, read_on, read}
use Rattle.newick_rules.specs.Exporting.{plain, drawing, top_parts, drawing_of_tree, exported}
use Rattle.newick_rules.specs.Importing.{ways, binary, binary_top, nodes_refusal, times_in, each_once}
use Rattle.newick_rules.specs.Importing.{strains_refusal, subtree, tree_drawn, deepest, imported}
use Rattle.newick_rules.specs.Cases.{ascii, strains, answer_to, due, cases}

cases_hold : map answer_to cases ≡ map due cases
unfolding any_in all_in refuse judged answered leaves size least join ordered reroot_along rerooted number_in post_order
    standard name_byte same leaf_named names_in blank length_byte with_part closes follows inside step at_end read_on
    read ways binary binary_top nodes_refusal times_in each_once strains_refusal subtree tree_drawn imported ascii
    strains cases
cases_hold = refl

-- the export of the five-strain sheet's tree, and the same of that tree in another order
five_turned : Tree
five_turned = node (node (node (leaf 4) (leaf 3)) (leaf 2)) (leaf 1)

export_holds :
    map (exported (strains "abcde")) (five_tree ∷ five_turned ∷ [])
    ≡ ascii "(a,b,(c,(d,e)));" ∷ ascii "(a,b,(c,(d,e)));" ∷ []
unfolding exported drawing_of_tree top_parts drawing plain ordered join least strains ascii five_turned
export_holds = refl

-- a name in so many brackets
nested : ℕ → List ℕ
nested k = replicate k opening ++ (97 ∷ replicate k closing) ++ (semicolon ∷ [])

break_of : Reading → Option ℕ
break_of (draws d) = none
break_of (breaks k) = some k

-- as many brackets as may be open pass; one more breaks the grammar, at its own offset
depths_hold :
    break_of (read deepest (nested deepest)) ∷ break_of (read deepest (nested (suc deepest))) ∷ []
    ≡ none ∷ some deepest ∷ []
unfolding nested break_of name_byte blank length_byte with_part closes follows inside step at_end read_on read
depths_hold = refl
