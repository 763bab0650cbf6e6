-- Each origin has its number, and the number names the origin; every other number names listed.
use mathlib.Core.Path.{◌≡◌, refl, ap}
use mathlib.Core.Logic.{◌≢◌}
use Prim.Native.Nat.{ℕ, zero, suc, ◌<◌}
use native.Mathlib.Omega.{arith}
use Rattle.tree_records.specs.declared.Origin.{Origin}
use Rattle.tree_records.specs.declared.Origin.TheVariants.{Rebuilt, Listed, Imported, Guessed, Grafted}
use Rattle.tree_records.specs.Origins.{origin_number, origin_of}

pub numbered : (o : Origin) → origin_of (origin_number o) ≡ o
unfolding origin_of
numbered Rebuilt = refl
numbered Listed = refl
numbered Imported = refl
numbered Guessed = refl
numbered Grafted = refl

-- a number that is none of theirs names listed
pub other_listed : (k : ℕ) → k ≢ 0 → k ≢ 2 → k ≢ 3 → k ≢ 4 → origin_of k ≡ Listed
unfolding origin_of
other_listed zero a b c d = absurd (a refl)
other_listed (suc zero) a b c d = refl
other_listed (suc (suc zero)) a b c d = absurd (b refl)
other_listed (suc (suc (suc zero))) a b c d = absurd (c refl)
other_listed (suc (suc (suc (suc zero)))) a b c d = absurd (d refl)
other_listed (suc (suc (suc (suc (suc k))))) a b c d = refl

pub above_listed : (k : ℕ) → 4 < k → origin_of k ≡ Listed
above_listed k h = other_listed k (λ e. omega arith) (λ e. omega arith) (λ e. omega arith) (λ e. omega arith)

-- only 0 names rebuilt
pub rebuilt_zero : (k : ℕ) → origin_of k ≡ Rebuilt → k ≡ 0
unfolding origin_of
rebuilt_zero zero e = refl
rebuilt_zero (suc zero) e = absurd (omega (arith, ap origin_number e))
rebuilt_zero (suc (suc zero)) e = absurd (omega (arith, ap origin_number e))
rebuilt_zero (suc (suc (suc zero))) e = absurd (omega (arith, ap origin_number e))
rebuilt_zero (suc (suc (suc (suc zero)))) e = absurd (omega (arith, ap origin_number e))
rebuilt_zero (suc (suc (suc (suc (suc k))))) e = absurd (omega (arith, ap origin_number e))
