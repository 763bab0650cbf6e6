-- A text as it is read: what is kept of the bytes so far, and what reading answers. No public contract cites this.
use Rattle.std.specs.Prelude.{◌≡◌, Bool, cond, ◌&&◌, List, [], ◌∷◌, ℕ, ◌≤◌, ◌<◌, eqb, length, drop}
use Rattle.std.specs.Prelude.{Result, Ok, Err}
use Rattle.std.proofs.Math.Option.{Option}
use Rattle.limits.specs.Limits.{most_leaves, IsLeafCount}
use Rattle.refusals.specs.declared.Refusal.{Refusal}
use Rattle.refusals.specs.declared.Refusal.TheVariants.{NotBinary, Unmatched}
use Rattle.refusals.specs.Refusals.{refuse, judged, outcome}
use Rattle.trees.specs.Listings.{KeepsRules, tree_of}
use Rattle.trees.specs.Rerooting.{rerooted}
use Rattle.sheet_rules.specs.Sheets.{names_of}
use Rattle.rerooted_rows.specs.declared.Rerooting.{Rerooting}
use Rattle.rerooted_rows.specs.inner.Arrays.{with_chain, ChainFits}
use Rattle.newick_rules.specs.Drawings.{Drawing}
use Rattle.newick_rules.specs.Reader.{Place, due, in_name, behind, at_length, in_length, ended, draws, read_on, read}
use Rattle.newick_rules.specs.Importing.{deepest, subtree, imported}
use Rattle.newick_rules.specs.Operations.{Strains}
use Rattle.name_index.specs.inner.Indexes.{FirstNames}
use Rattle.name_index.specs.inner.Hashes.{hashes, hash_step, hash_of}
use Rattle.newick_reading.specs.inner.Moves.{state_of, opens_of, last_of, NamesInside}
use Rattle.newick_parts.specs.declared.Kept.{Kept}
use Rattle.newick_parts.specs.inner.Keeping.{KeptAt}
use Rattle.newick_text.specs.inner.Names.{word_at, flags, Indexed}

-- where the name begins that the next byte may be in, and its hash so far
unfoldable pub next_from : (state from k : ℕ) → ℕ
next_from state from k = cond (eqb state 1) from k

unfoldable pub next_hash : (state after hash b : ℕ) → ℕ
next_hash state after hash b = cond (eqb after 1) (hash_step (cond (eqb state 1) hash 0) b) 0

-- the bytes of a name that the reader is in
abbrev pub NameSoFar : Place → (t : List ℕ) (from k hash : ℕ) → Type 0
NameSoFar (due s) t from k hash = Unit {0}
NameSoFar (in_name s x) t from k hash = (from ≤ k) × (x ≡ word_at t from k) × (hash ≡ hash_of x)
NameSoFar (behind s may d) t from k hash = Unit {0}
NameSoFar (at_length s d) t from k hash = Unit {0}
NameSoFar (in_length s d) t from k hash = Unit {0}
NameSoFar (ended d) t from k hash = Unit {0}

-- The first k bytes are read.
pub record ReadTo (S t : List ℕ) (n state depth from hash k : ℕ) (K : Kept)
    (seen : List Bool) : Type 0 where
  pub place : Place
  pub state_is : state_of place ≡ state
  pub depth_is : depth ≡ length (opens_of place)
  pub shallow : depth ≤ deepest
  pub inside : NamesInside place
  pub reads_on : read_on deepest place k (drop k t) ≡ read deepest t
  pub within : k ≤ length t
  pub name_so_far : NameSoFar place t from k hash
  pub hash_low : hash < hashes
  pub seen_long : length seen ≡ most_leaves
  pub kept : KeptAt (names_of S) n (opens_of place) (last_of place) K (flags seen)

-- what is judged of a text that keeps the grammar, by what is kept of it: 18, 19
unfoldable pub kept_refusal : ℕ → Kept → Option Refusal
kept_refusal n K =
    judged (refuse K.binary NotBinary ∷ refuse (K.named && eqb K.many n) Unmatched ∷ [])

-- before any byte
pub record Ready (x : FirstNames) : Type 0 where
  pub count : IsLeafCount x.many
  pub indexed : Indexed x
  pub strains : Strains x.many (names_of x.sheet)

-- the rows and the chain that a text leaves: those of a listing of the tree that it draws
pub record Drawn (known : List (List ℕ)) (n : ℕ) (t : List ℕ) (R : Rerooting) : Type 0 where
  pub drawing : Drawing
  pub read_is : read deepest t ≡ draws drawing
  pub room : ChainFits n R
  pub keeps : KeepsRules n (with_chain n R)
  pub tree : tree_of n (with_chain n R) ≡ rerooted (subtree known drawing)

-- what reading answers: 17, 18, 19, or rows and a chain
abbrev pub ReadSays : (S t : List ℕ) (n : ℕ) → Result Rerooting Refusal → Type 0
ReadSays S t n (Err e) = outcome (imported (names_of S) t) ≡ Err e
ReadSays S t n (Ok R) = (outcome (imported (names_of S) t) ≡ Ok tt) × Drawn (names_of S) n t R
