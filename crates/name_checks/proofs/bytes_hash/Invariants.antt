-- `name_checks::bytes_hash` meets its contract: the test of the bytes left equals the test of all, and what they make
-- of the hash so far is the hash of all.
use mathlib.Core.Path.{◌≡◌}
use Prim.Native.Nat.{◌<◌}
use lib.ListN.{drop}
use Rattle.base.specs.Lists.{all_in}
use Rattle.sheet_rules.specs.Sheets.{name_byte}
use Rattle.name_index.specs.inner.Hashes.{hashes, hash_from, hash_of}
use Rattle.name_checks.proofs.bytes_hash.Given as goal

abbrev pub invariant-loop-b : goal.invariant-loop-b
invariant-loop-b l =
    (l.hash < hashes)
    × (all_in name_byte (drop l.b-index l.bytes) ≡ all_in name_byte l.bytes)
    × (hash_from l.hash (drop l.b-index l.bytes) ≡ hash_of l.bytes)
