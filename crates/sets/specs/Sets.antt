-- What is made of two leaf sets (02, request 6), and whether they are the same.
use Rattle.std.specs.Prelude.{Bool, ◌&&◌, ◌||◌, ◌*◌}
use Rattle.base.specs.Numbers.{all_below}
use Rattle.limits.specs.Limits.{set_bytes}
use Rattle.trees.specs.Trees.{LeafSet}
use Rattle.trees.specs.Edges.{alike}
use Rattle.sets.specs.declared.Combination.{Combination}
use Rattle.sets.specs.declared.Combination.TheVariants.{Union, Intersection}

-- joined, two sets have the leaves of either; intersected, those of both
abbrev pub of_bits : Combination → Bool → Bool → Bool
of_bits Union a b = a || b
of_bits Intersection a b = a && b

unfoldable pub combined : Combination → LeafSet → LeafSet → LeafSet
combined what e f k = of_bits what (e k) (f k)

-- they agree at each bit that a set has, those of no leaf among them
unfoldable pub same_set : LeafSet → LeafSet → Bool
same_set e f = all_below (8 * set_bytes) (λ k. alike (e k) (f k))
