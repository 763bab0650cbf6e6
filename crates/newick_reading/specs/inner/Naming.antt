-- 19 while a text is read: the names so far, how often each leaf is named, and which leaves are. No public contract
-- cites this.
use Rattle.std.specs.Prelude.{◌≡◌, ◌⊎◌, Bool, true, false, List, [], ◌∷◌, ◌++◌, ℕ, ◌+◌, ◌<◌, eqb}
use Rattle.std.proofs.Math.Option.{Option, none, some}
use Rattle.base.specs.Numbers.{indicator, count_below}
use Rattle.sheet_rules.specs.Sheets.{leaf_named}
use Rattle.newick_rules.specs.Drawings.{Drawing, names_in, names_in_parts}
use Rattle.newick_rules.specs.Reader.{Open}

-- the names in an open bracket, in all open brackets, in the last drawing
unfoldable pub open_names : Open → List (List ℕ)
open_names none = []
open_names (some p) = names_in_parts p

unfoldable pub opens_names : List Open → List (List ℕ)
opens_names [] = []
opens_names (o ∷ s) = opens_names s ++ open_names o

unfoldable pub last_names : Option Drawing → List (List ℕ)
last_names none = []
last_names (some d) = names_in d

-- the names so far, in order, with these brackets open and this drawing last
unfoldable pub names_so_far : List Open → Option Drawing → List (List ℕ)
names_so_far s d = opens_names s ++ last_names d

-- how often a leaf is named; names that are not known go to the number of those known
unfoldable pub hits : List (List ℕ) → ℕ → List (List ℕ) → ℕ
hits known i [] = 0
hits known i (x ∷ l) = indicator (eqb (leaf_named known x) i) 1 + hits known i l

-- these names are right so far: each is known and stands once; the leaves named are those seen, so many
pub record RightSoFar (known : List (List ℕ)) (n : ℕ) (names : List (List ℕ)) (seen : ℕ → Bool) (many : ℕ) :
    Type 0 where
  pub all_known : hits known n names ≡ 0
  pub once : (i : ℕ) → i < n → hits known i names ≡ indicator (seen i) 1
  pub many_is : many ≡ count_below n seen

-- a name is not known, or stands twice
abbrev pub Wrong : List (List ℕ) → ℕ → List (List ℕ) → Type 0
Wrong known n names = (0 < hits known n names) ⊎ ((i : ℕ) × (i < n) × (1 < hits known i names))

-- what a flag says of the names so far
pub record NamesSaid (known : List (List ℕ)) (n : ℕ) (names : List (List ℕ)) (seen : ℕ → Bool) (many : ℕ)
    (named : Bool) : Type 0 where
  pub right : named ≡ true → RightSoFar known n names seen many
  pub wrong : named ≡ false → Wrong known n names
