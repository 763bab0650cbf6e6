-- What import keeps of a text while it reads, in arrays: for each open bracket its parts so far and their number, for
-- each leaf whether it is named, the rows, and the chain. No public contract cites this.
use Rattle.std.specs.Prelude.{◌≡◌, Bool, true, List, [], ◌∷◌, ℕ, length, get_or, replicate}
use Rattle.std.proofs.Math.Option.{Option}
use Rattle.limits.specs.Limits.{most_leaves, most_numbers}
use Rattle.rerooted_rows.specs.inner.Arrays.{none_joined, rows_made, chain_kept}
use Rattle.newick_rules.specs.Drawings.{Drawing}
use Rattle.newick_rules.specs.Reader.{Open}
use Rattle.newick_reading.specs.inner.Fitting.{all_ways, fits}
use Rattle.newick_reading.specs.inner.Naming.{names_so_far, NamesSaid}
use Rattle.newick_reading.specs.inner.Joining.{Keeps}
use Rattle.newick_parts.specs.declared.Kept.{Kept}

-- an array holds these numbers, the last of them lowest
abbrev pub Piled : List ℕ → List ℕ → Type 0
Piled cells [] = Unit {0}
Piled cells (x ∷ l) = (get_or cells (length l) 0 ≡ x) × Piled cells l

-- before any byte
abbrev pub first_kept : Kept
first_kept = record {
  last = 0;
  binary = true;
  named = true;
  many = 0;
  parts = replicate most_leaves 0;
  numbers = replicate most_leaves 0;
  joined = none_joined;
}

-- numbers, rows and chain as the arrays have them
pub record Built (known : List (List ℕ)) (n : ℕ) (s : List Open) (d : Option Drawing) (K : Kept)
    (seen : ℕ → Bool) : Type 0 where
  pub of_opens : List ℕ
  pub opens_held : Piled K.numbers of_opens
  pub keeps :
      Keeps known n s d of_opens K.last K.joined.made (rows_made K.joined) (chain_kept K.joined) seen

-- What is kept, with these brackets open and this drawing last. Parts are counted while all nodes fit, and rows are
-- written while the names are right as well.
pub record KeptAt (known : List (List ℕ)) (n : ℕ) (s : List Open) (d : Option Drawing) (K : Kept)
    (seen : ℕ → Bool) : Type 0 where
  pub parts_long : length K.parts ≡ most_leaves
  pub numbers_long : length K.numbers ≡ most_leaves
  pub rows_long : length K.joined.rows ≡ most_numbers
  pub chain_long : length K.joined.chain ≡ most_leaves
  pub fits_is : K.binary ≡ fits s d
  pub ways_are : K.binary ≡ true → Piled K.parts (all_ways s)
  pub names : NamesSaid known n (names_so_far s d) seen K.many K.named
  pub built : K.binary ≡ true → K.named ≡ true → Built known n s d K seen
