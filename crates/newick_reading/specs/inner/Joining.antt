-- The subtrees of a text while it is read: the parts of an open bracket so far are joined to one subtree, which has a
-- number, and so has the last drawing. No public contract cites this.
use Rattle.std.specs.Prelude.{Bool, List, [], ◌∷◌, ◌++◌, ℕ}
use Rattle.std.proofs.Math.Option.{Option, none, some}
use Rattle.trees.specs.Trees.{Tree}
use Rattle.trees.specs.Listings.{subtree_at}
use Rattle.rerooted_rows.specs.inner.Joining.{Stands, Accounted}
use Rattle.newick_rules.specs.Drawings.{Drawing}
use Rattle.newick_rules.specs.Reader.{Open}
use Rattle.newick_rules.specs.Importing.{subtree, subtree_of_parts}

-- each open bracket has a number, the innermost first, which stands for its parts if there are any
abbrev pub OpensStand : (known : List (List ℕ)) → (ℕ → Tree) → List ℕ → List Open → List ℕ → Type 0
OpensStand known f chain [] [] = Unit {0}
OpensStand known f chain [] (a ∷ l) = ⊥
OpensStand known f chain (o ∷ s) [] = ⊥
OpensStand known f chain (none ∷ s) (a ∷ l) = OpensStand known f chain s l
OpensStand known f chain (some p ∷ s) (a ∷ l) =
    Stands f chain a (subtree_of_parts known p) × OpensStand known f chain s l

-- so has the last drawing, if it is not yet a part of a bracket
abbrev pub LastStands : (known : List (List ℕ)) → (ℕ → Tree) → List ℕ → Option Drawing → ℕ → Type 0
LastStands known f chain none x = Unit {0}
LastStands known f chain (some d) x = Stands f chain x (subtree known d)

-- the numbers that stand for something
unfoldable pub numbers_of_opens : List Open → List ℕ → List ℕ
numbers_of_opens [] l = []
numbers_of_opens (o ∷ s) [] = []
numbers_of_opens (none ∷ s) (a ∷ l) = numbers_of_opens s l
numbers_of_opens (some p ∷ s) (a ∷ l) = a ∷ numbers_of_opens s l

unfoldable pub number_of_last : Option Drawing → ℕ → List ℕ
number_of_last none x = []
number_of_last (some d) x = x ∷ []

-- What is kept of a text, with these brackets open and this drawing last: numbers, the last one, m rows, the chain, and
-- which leaves were named.
pub record Keeps (known : List (List ℕ)) (n : ℕ) (s : List Open) (d : Option Drawing) (numbers : List ℕ)
    (last m : ℕ) (rows chain : List ℕ) (seen : ℕ → Bool) : Type 0 where
  pub accounted : Accounted n m rows chain (number_of_last d last ++ numbers_of_opens s numbers) seen
  pub opens : OpensStand known (subtree_at n rows) chain s numbers
  pub lasts : LastStands known (subtree_at n rows) chain d last
