-- `sets::words::to_bytes` meets its contract: before turn i the first i bytes are the set's.
use mathlib.Core.Path.{◌≡◌}
use Prim.Native.Nat.{ℕ, ◌+◌, ◌*◌, ◌≤◌}
use mathlib.Core.List.{List}
use lib.ListN.{length}
use Rattle.base.specs.Bits.{from_bits}
use Rattle.base.proofs.Filling.{Known}
use Rattle.limits.specs.Limits.{set_bytes}
use Rattle.sets.specs.Words.{set_of_words}
use Rattle.sets.proofs.words.to_bytes.Given as goal

-- byte j of the set
abbrev pub byte : List ℕ → ℕ → ℕ
byte w j = from_bits 8 (λ t. set_of_words w (8 * j + t))

abbrev pub invariant-loop-i : goal.invariant-loop-i
invariant-loop-i l = (l.i ≤ set_bytes) × (length l.r ≡ set_bytes) × Known (byte l.w) 0 l.r l.i
