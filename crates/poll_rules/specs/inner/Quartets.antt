-- Quartets as the code steps through them. No promise of the operation rests on these: they serve its proof.
use Rattle.std.specs.Prelude.{ℕ, ◌+◌, ◌<◌, cond, ltb}
use Rattle.poll_rules.specs.declared.Record.{Record}
use Rattle.poll_rules.specs.declared.Quartet.{Quartet}
use Rattle.poll_rules.specs.Records.{four}

-- the record of a quartet with this pairing code
abbrev pub record_of : Quartet → ℕ → Record
record_of q code = record { a = q.a; b = q.b; c = q.c; d = q.d; code = code }

-- a < b < c < d are leaves
pub record Leaves (n a b c d : ℕ) : Type 0 where
  pub ab : a < b
  pub bc : b < c
  pub cd : c < d
  pub dn : d < n

-- the quartet after q in lexicographic order; after the last one, leaves of which the fourth is n
unfoldable pub next_of : ℕ → Quartet → Quartet
next_of n q =
    cond (ltb (q.d + 1) n) (four q.a q.b q.c (q.d + 1))
    (cond (ltb (q.c + 2) n) (four q.a q.b (q.c + 1) (q.c + 2))
    (cond (ltb (q.b + 3) n) (four q.a (q.b + 1) (q.b + 2) (q.b + 3))
    (four (q.a + 1) (q.a + 2) (q.a + 3) (q.a + 4))))
