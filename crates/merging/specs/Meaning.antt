-- What a rebuild's answer means, said of the table and its trees alone, with no merging in it: the standard listing of
-- the only tree that has the table, or that no tree has it. A tree on n leaves is what a listing that keeps the rules
-- stands for. s is the table's scale, 1 for a count table and 6 for a poll's.
use Rattle.std.specs.Prelude.{◌≡◌, true, List, ℕ}
use Rattle.refusals.specs.declared.Refusal.TheVariants.{NoTree, Proposal}
use Rattle.refusals.specs.Refusals.{Answer, accepted, refused}
use Rattle.trees.specs.Listings.{KeepsRules, tree_of, standard}
use Rattle.trees.specs.Tables.{HasTable}
use Rattle.merging.specs.MergeLists.{Pair, each_eligible}
use Rattle.merging.specs.Demand3.{FirstIneligible}

-- l is the standard listing of the only tree that has the table t
pub record OnlyTree (n s : ℕ) (t l : List ℕ) : Type 0 where
  pub keeps_rules : KeepsRules n l
  pub is_standard : standard n (tree_of n l) ≡ l
  pub has_table : HasTable n s t (tree_of n l)
  pub no_other : (l' : List ℕ) → KeepsRules n l' → HasTable n s t (tree_of n l') → standard n (tree_of n l') ≡ l

-- the table has a tree: some tree has it; and it has none
abbrev pub HasTree : ℕ → ℕ → List ℕ → Type 0
HasTree n s t = (l : List ℕ) × KeepsRules n l × HasTable n s t (tree_of n l)

abbrev pub HasNoTree : ℕ → ℕ → List ℕ → Type 0
HasNoTree n s t = (l : List ℕ) → KeepsRules n l → HasTable n s t (tree_of n l) → ⊥

-- our own rebuild of a table with a zero diagonal and equal halves: the listing of its only tree, or 6
pub data TableMeans (n s : ℕ) (t : List ℕ) : Answer (List ℕ) → Type 0 where
  the_only_tree : {l : List ℕ} → OnlyTree n s t l → TableMeans n s t (accepted l)
  no_tree : HasNoTree n s t → TableMeans n s t (refused NoTree)

-- the guided rebuild of such a table, by n − 1 proposals L: where each names a pair eligible at its turn, the listing
-- of the table's only tree; else 12 with the first that does not
pub data ProposalsMean (n s : ℕ) (t : List ℕ) (L : List Pair) : Answer (List ℕ) → Type 0 where
  each_is_eligible : {l : List ℕ} → each_eligible n s t L ≡ true → OnlyTree n s t l → ProposalsMean n s t L (accepted l)
  one_is_not : {k : ℕ} → FirstIneligible n s t L k → ProposalsMean n s t L (refused (Proposal k))
