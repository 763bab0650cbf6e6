-- `gap_sums::store` meets its contract. The loop's invariant: the sums with the labels passed are stored.
use mathlib.Core.Path.{◌≡◌, refl}
use Prim.Native.Nat.{◌<◌}
use native.Mathlib.Decide.{ℕ_discrete}
use native.Mathlib.Omega.{arith}
use Rattle.gap_sums.proofs.Columns.{store_turn, store_skip}
use Rattle.gap_sums.proofs.store.Goals as goal

pub loop-k-preserved : goal.loop-k-preserved
loop-k-preserved c =
    let l = c.loop-k in
    let lk : l.k < c.args.n = omega arith in (
      omega arith,
      elim (ℕ_discrete l.k c.args.a) [
        | yes e ↦ rw (c.store_one.ensures.0 e) (store_skip c.requires.0 c.requires.1 lk l.invariant.1 e)
        | no d ↦
            rw (c.store_one.ensures.1 d)
            (store_turn c.requires.0 c.requires.1 lk l.invariant.1 d (c.requires.3 l.k lk))
      ],
    )
