-- `gap_sums::store_one` meets its contract: the place is that of the smaller label and the greater one.
use mathlib.Core.Path.{refl}
use native.Mathlib.Omega.{arith}
use Rattle.gap_sums.proofs.PairPlaces.{place_up, place_down}
use Rattle.gap_sums.proofs.store_one.Goals as goal

pub returns-then-k-a : goal.returns-then-k-a
returns-then-k-a c =
    (λ e. absurd (omega arith), λ d. rw (place_down _ _ c.if-k-a.true, c.pair_place.ensures.0))

pub returns-then-a-k : goal.returns-then-a-k
returns-then-a-k c =
    (λ e. absurd (omega arith), λ d. rw (place_up _ _ c.if-a-k.true, c.pair_place-then-a-k.ensures.0))
