-- The index of the first names of a sheet: of each bucket the greatest leaf, and of each leaf the next smaller one of
-- its bucket. So a chain runs from a bucket through all its leaves. No operation's contract cites it.
use Rattle.std.specs.Prelude.{◌≡◌, Bool, false, cond, List, ℕ, zero, suc, ◌+◌, ◌≤◌, ◌<◌, eqb, length, get_or}
use Rattle.base.specs.Lists.{tab}
use Rattle.limits.specs.Limits.{most_leaves}
use Rattle.sheet_rules.specs.Sheets.{name, name_start}
use Rattle.sheet_rules.specs.Operations.{repeated}
use Rattle.name_index.specs.inner.Hashes.{buckets, bucket_of}

-- the bucket of leaf i's name
abbrev pub leaf_bucket : List ℕ → ℕ → ℕ
leaf_bucket S i = bucket_of (name S i)

-- 1 + the greatest number below k that f sends to b; 0 where it sends none there
unfoldable pub latest : (ℕ → ℕ) → ℕ → ℕ → ℕ
latest f b zero = 0
latest f b (suc k) = cond (eqb (f k) b) (suc k) (latest f b k)

-- The first k names of S, no two of them equal: where the chain of each bucket begins, where it goes on from each leaf,
-- and where each name starts.
pub record Indexes (S : List ℕ) (k : ℕ) (heads before starts : List ℕ) : Type 0 where
  pub few : k ≤ most_leaves
  pub ends : name_start S k ≤ length S
  pub distinct : (i : ℕ) → i < k → repeated S i ≡ false
  pub heads_long : length heads ≡ buckets
  pub before_long : length before ≡ most_leaves
  pub starts_long : length starts ≡ most_leaves
  pub heads_are : (b : ℕ) → b < buckets → get_or heads b 0 ≡ latest (leaf_bucket S) b k
  pub before_are : (i : ℕ) → i < k → get_or before i 0 ≡ latest (leaf_bucket S) (leaf_bucket S i) i
  pub starts_are : (i : ℕ) → i < k → get_or starts i 0 ≡ name_start S i

-- which names an index has: of this sheet the first so many
pub record FirstNames : Type 0 where
  pub sheet : List ℕ
  pub many : ℕ

abbrev pub first_names : List ℕ → ℕ → FirstNames
first_names S k = record { sheet = S; many = k }

-- they, in order
abbrev pub names_in : FirstNames → List (List ℕ)
names_in x = tab x.many (name x.sheet)

-- and the next one too, if it is new
abbrev pub with_next : Bool → FirstNames → FirstNames
with_next new x = first_names x.sheet (cond new (x.many + 1) x.many)

-- an array has where each of them starts, and the last of them ends within the sheet
pub record StartsOf (x : FirstNames) (starts : List ℕ) : Type 0 where
  pub few : x.many ≤ most_leaves
  pub ends : name_start x.sheet x.many ≤ length x.sheet
  pub starts_are : (i : ℕ) → i < x.many → get_or starts i 0 ≡ name_start x.sheet i
