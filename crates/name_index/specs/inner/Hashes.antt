-- The hash of some bytes, by which names are looked up, and the bucket that it stands for. No operation's contract
-- cites it.
use Rattle.std.specs.Prelude.{Bool, cond, List, [], ◌∷◌, ℕ, ◌+◌, ◌*◌, ◌%◌, Option, Some, None}
use Rattle.limits.specs.Limits.{most_leaves}

-- how many hashes there are
abbrev pub hashes : ℕ
hashes = 4294967296

-- a hash, one byte later
unfoldable pub hash_step : ℕ → ℕ → ℕ
hash_step h b = (31 * h + b) % hashes

-- the bytes taken in from the front, from a hash on
unfoldable pub hash_from : ℕ → List ℕ → ℕ
hash_from h [] = h
hash_from h (b ∷ x) = hash_from (hash_step h b) x

abbrev pub hash_of : List ℕ → ℕ
hash_of x = hash_from 0 x

-- the hash of bytes that pass a test
unfoldable pub hash_if : Bool → List ℕ → Option ℕ
hash_if pass x = cond pass (Some (hash_of x)) None

-- two buckets a leaf, so that most hold one name at most
abbrev pub buckets : ℕ
buckets = 2 * most_leaves

abbrev pub bucket_of : List ℕ → ℕ
bucket_of x = hash_of x % buckets
