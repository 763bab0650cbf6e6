-- What is made of two numbers that hold parts of two sets: bytes, or words.
use Rattle.std.specs.Prelude.{ℕ}
use Rattle.std.specs.Int.Bits.{bit_and, bit_or}
use Rattle.sets.specs.declared.Combination.{Combination}
use Rattle.sets.specs.declared.Combination.TheVariants.{Union, Intersection}

abbrev pub of_numbers : Combination → ℕ → ℕ → ℕ
of_numbers Union x y = bit_or x y
of_numbers Intersection x y = bit_and x y
