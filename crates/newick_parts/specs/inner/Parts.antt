-- How parts are joined in the arrays: what the inner functions require and ensure. No public contract cites this.
use Rattle.std.specs.Prelude.{◌≡◌, ◌≢◌, Bool, false, cond, List, ◌∷◌, ℕ, suc, ◌≤◌, ◌<◌, ltb, eqb, length, get_or, set}
use Rattle.std.proofs.Math.Option.{Option, none, some}
use Rattle.limits.specs.Limits.{most_leaves, IsLeafCount}
use Rattle.sheet_rules.specs.Sheets.{between}
use Rattle.rerooted_rows.specs.declared.Rerooting.{Rerooting}
use Rattle.rerooted_rows.specs.inner.Arrays.{JoinFits, Joins}
use Rattle.newick_rules.specs.Drawings.{Drawing, bracket}
use Rattle.newick_rules.specs.Reader.{Open, with_part, Place}
use Rattle.newick_rules.specs.Importing.{deepest}
use Rattle.newick_reading.specs.inner.Moves.{opens_of, last_of, Moved}
use Rattle.newick_parts.specs.declared.Kept.{Kept}
use Rattle.newick_parts.specs.inner.Keeping.{KeptAt}

-- One more part is joined to those of the bracket at this place, which has c so far.
pub record PartFits (n place c : ℕ) (K : Kept) : Type 0 where
  pub inside : place < most_leaves
  pub numbers_long : length K.numbers ≡ most_leaves
  pub joint : c ≢ 0 → JoinFits n (get_or K.numbers place 0) K.last K.joined

-- what is kept then, with the number of the parts
abbrev pub part_kept : Kept → (place number : ℕ) → Rerooting → Kept
part_kept K place number R = record {
  last = K.last;
  binary = K.binary;
  named = K.named;
  many = K.many;
  parts = K.parts;
  numbers = set K.numbers place number;
  joined = R;
}

pub record PartMade (n place c : ℕ) (K K' : Kept) : Type 0 where
  pub first : c ≡ 0 → K' ≡ part_kept K place K.last K.joined
  pub more :
      c ≢ 0
      → (R : Rerooting) × (number : ℕ) × Joins n (get_or K.numbers place 0) K.last K.joined R number
      × (K' ≡ part_kept K place number R)

-- a bracket at a place, with c parts so far, may have one more and another behind it: the top, at place 0, three at
-- most, any other two
abbrev pub goes_on_at : (place c : ℕ) → Bool
goes_on_at place c = ltb c (cond (eqb place 0) 2 1)

-- and may close with one more
abbrev pub closes_at : (place c : ℕ) → Bool
closes_at place c = cond (eqb place 0) (between 1 2 c) (eqb c 1)

-- what is kept where a node is not binary
abbrev pub unfit_kept : Kept → Kept
unfit_kept K = record {
  last = K.last;
  binary = false;
  named = K.named;
  many = K.many;
  parts = K.parts;
  numbers = K.numbers;
  joined = K.joined;
}

-- what is kept where a bracket closes, with the number of its parts
abbrev pub closed_kept : (K : Kept) (number : ℕ) → Kept
closed_kept K number = record {
  last = number;
  binary = K.binary;
  named = K.named;
  many = K.many;
  parts = K.parts;
  numbers = K.numbers;
  joined = K.joined;
}

-- what is kept with other parts of the open brackets
abbrev pub with_parts : Kept → List ℕ → Kept
with_parts K parts = record {
  last = K.last;
  binary = K.binary;
  named = K.named;
  many = K.many;
  parts = parts;
  numbers = K.numbers;
  joined = K.joined;
}

-- a part ends: some bracket is open, and some drawing is its next part
pub record PartEnds (n depth : ℕ) (K : Kept) : Type 0 where
  pub count : IsLeafCount n
  pub shallow : depth ≤ most_leaves
  pub known : List (List ℕ)
  pub innermost : Open
  pub opens : List Open
  pub drawing : Drawing
  pub seen : ℕ → Bool
  pub depth_is : depth ≡ suc (length opens)
  pub kept : KeptAt known n (innermost ∷ opens) (some drawing) K seen

-- a byte comes that keeps the grammar, where some brackets are open
pub record Comes (b n depth : ℕ) (K : Kept) : Type 0 where
  pub count : IsLeafCount n
  pub shallow : depth < most_leaves
  pub known : List (List ℕ)
  pub opens : List Open
  pub last : Option Drawing
  pub next : Place
  pub seen : ℕ → Bool
  pub depth_is : depth ≡ length opens
  pub kept : KeptAt known n opens last K seen
  pub moved : Moved deepest b opens last next

-- Whatever is kept before is kept after: a part of the innermost bracket, that bracket closed, any byte.
abbrev pub PartAdded : (n depth : ℕ) (K K' : Kept) → Type 0
PartAdded n depth K K' =
    (known : List (List ℕ)) (o : Open) (s : List Open) (d : Drawing) (seen : ℕ → Bool) → depth ≡ suc (length s)
    → KeptAt known n (o ∷ s) (some d) K seen → KeptAt known n (some (with_part o d) ∷ s) none K' seen

abbrev pub BracketClosed : (n depth : ℕ) (K K' : Kept) → Type 0
BracketClosed n depth K K' =
    (known : List (List ℕ)) (o : Open) (s : List Open) (d : Drawing) (seen : ℕ → Bool) → depth ≡ suc (length s)
    → KeptAt known n (o ∷ s) (some d) K seen → KeptAt known n s (some (bracket (with_part o d))) K' seen

abbrev pub Came : (b n depth : ℕ) (K K' : Kept) → Type 0
Came b n depth K K' =
    (known : List (List ℕ)) (s : List Open) (d : Option Drawing) (Q : Place) (seen : ℕ → Bool) → depth ≡ length s
    → KeptAt known n s d K seen → Moved deepest b s d Q → KeptAt known n (opens_of Q) (last_of Q) K' seen
