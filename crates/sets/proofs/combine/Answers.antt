-- `sets::combine` meets its contract: what is made of two sets' words has the bytes of what is made of the sets.
use mathlib.Core.Path.{◌∙◌}
use Rattle.trees.specs.Splits.{set_of}
use Rattle.sets.specs.Sets.{of_bits, combined}
use Rattle.sets.proofs.SetLaws.{bytes_by}
use Rattle.sets.proofs.combine.Goals as goal

pub returns : goal.returns
unfolding combined
returns c =
    let s = c.args in
    let first = c.of_bytes.ensures in
    let second = c.of_bytes-2.ensures in
    c.to_bytes.ensures
    ∙ rw (c.combine.ensures, first, second) (bytes_by (of_bits s.what) (set_of s.a) (set_of s.b))
