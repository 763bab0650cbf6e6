-- A name of a text ends: what the inner functions require and ensure. No public contract cites this.
use Rattle.std.specs.Prelude.{◌≡◌, ◌≢◌, Bool, true, false, List, ℕ, ◌+◌, ◌-◌, ◌≤◌, ◌<◌, length, get_or, set, take, drop}
use Rattle.limits.specs.Limits.{most_leaves}
use Rattle.sheet_rules.specs.Sheets.{leaves_of, leaf_named}
use Rattle.name_index.specs.inner.Hashes.{hash_of}
use Rattle.name_index.specs.inner.Indexes.{FirstNames}
use Rattle.newick_parts.specs.declared.Kept.{Kept}

-- so many bytes of a text, from a place on
abbrev pub word_at : (t : List ℕ) (from k : ℕ) → List ℕ
word_at t from k = take (k - from) (drop from t)

-- which leaves are named, as the array has it
abbrev pub flags : List Bool → ℕ → Bool
flags seen i = get_or seen i false

-- what is kept where a name is not known or stands twice
abbrev pub misnamed_kept : Kept → Kept
misnamed_kept K = record {
  last = K.last;
  binary = K.binary;
  named = false;
  many = K.many;
  parts = K.parts;
  numbers = K.numbers;
  joined = K.joined;
}

-- and where it is a leaf's that was not named before
abbrev pub named_kept : Kept → ℕ → Kept
named_kept K i = record {
  last = i;
  binary = K.binary;
  named = K.named;
  many = K.many + 1;
  parts = K.parts;
  numbers = K.numbers;
  joined = K.joined;
}

-- an index has the names of a whole sheet
abbrev pub Indexed : FirstNames → Type 0
Indexed x = x.many ≡ leaves_of x.sheet

-- a name may be taken
pub record NameFits (x : FirstNames) (w : List ℕ) (hash : ℕ) (K : Kept) (seen : List Bool) : Type 0 where
  pub indexed : Indexed x
  pub few : x.many ≤ most_leaves
  pub hash_is : hash ≡ hash_of w
  pub many_low : K.named ≡ true → K.many ≤ most_leaves
  pub seen_long : length seen ≡ most_leaves

-- it is taken
pub record NameTaken (known : List (List ℕ)) (n : ℕ) (x : List ℕ) (K : Kept) (seen : List Bool) (K' : Kept)
    (seen' : List Bool) : Type 0 where
  pub misnamed : K.named ≡ false → (K' ≡ K) × (seen' ≡ seen)
  pub unknown : K.named ≡ true → n ≤ leaf_named known x → (K' ≡ misnamed_kept K) × (seen' ≡ seen)
  pub again :
      K.named ≡ true → leaf_named known x < n → flags seen (leaf_named known x) ≡ true
      → (K' ≡ misnamed_kept K) × (seen' ≡ seen)
  pub new :
      K.named ≡ true → leaf_named known x < n → flags seen (leaf_named known x) ≡ false
      → (K' ≡ named_kept K (leaf_named known x)) × (seen' ≡ set seen (leaf_named known x) true)

-- between two states: a name ends where the first is in one and the second is not
pub record NameMayEnd (x : FirstNames) (t : List ℕ) (state from k hash : ℕ) (K : Kept) (seen : List Bool) : Type 0 where
  pub from_in : state ≡ 1 → from ≤ k
  pub within : state ≡ 1 → k ≤ length t
  pub fits : state ≡ 1 → NameFits x (word_at t from k) hash K seen

pub record NameEnded (known : List (List ℕ)) (n : ℕ) (x : List ℕ) (state after : ℕ) (K : Kept) (seen : List Bool)
    (K' : Kept) (seen' : List Bool) : Type 0 where
  pub outside : state ≢ 1 → (K' ≡ K) × (seen' ≡ seen)
  pub inside : after ≡ 1 → (K' ≡ K) × (seen' ≡ seen)
  pub ended : state ≡ 1 → after ≢ 1 → NameTaken known n x K seen K' seen'
