-- The quartet due, as the code carries it. No promise of the operation rests on this: it serves its proof.
use Rattle.std.specs.Prelude.{ℕ, ◌+◌, ◌*◌, ◌≤◌}
use Rattle.limits.specs.Limits.{most_polled}
use Rattle.poll_rules.specs.declared.Quartet.{Quartet}
use Rattle.poll_records.specs.declared.Due.{Due}

-- the four leaves in one number, a byte each
unfoldable pub packed : Quartet → ℕ
packed q = q.a + 256 * q.b + 65536 * q.c + 16777216 * q.d

-- each of the four is a leaf of a poll, or the number after the last leaf
abbrev pub Polled : Quartet → Type 0
Polled q = (q.a ≤ most_polled) × (q.b ≤ most_polled) × (q.c ≤ most_polled) × (q.d ≤ most_polled)

-- q is due, and nothing is kept back
abbrev pub fresh : ℕ → Quartet → Due
fresh n q =
    record { quartet = q; leaves = packed q; first = q.a * n; second = q.b * n; third = q.c * n; kept = 0 }
