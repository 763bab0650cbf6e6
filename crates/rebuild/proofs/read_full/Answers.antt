-- `rebuild::read_full` meets its contract: each read goes behind what is filled, so that this part is what was read.
use Rattle.std.proofs.Common.{◌≡◌, ℕ, ◌+◌, ◌-◌, ◌≤◌, List, ◌++◌, rules, arith, length, take, slice_range, sym, ap}
use Rattle.std.proofs.Common.{◌∙◌, subst, le_refl, drop_at, length-take-le}
use Rattle.std.proofs.lemmas.Slice.{take-put_mid_below}
use Rattle.std.specs.Io.KnownBytes.{Consumes}
use Rattle.std.proofs.KnownBytes.{Consumes-trans}
use borrow.Rule.Slice.PartMut.{put_mid, post_of}
use lib.Seq.{take-add, take-append-le}
use Rattle.rebuild.proofs.read_full.Goals as goal

-- What stands before a place, and then what stands behind it.
take_split : (a b : ℕ) (old new : List ℕ) → a ≤ b → take a new ≡ take a old
    → take a old ++ slice_range new a b ≡ take b new
take_split a b old new h front =
    let same : a + (b - a) ≡ b = omega arith in
    ap (λ l. l ++ slice_range new a b) (sym front) ∙ sym (take-add a (b - a) new) ∙ ap (λ n. take n new) same

-- The first numbers of a part that is written into a list.
range_put : (a k n : ℕ) (xs ys : List ℕ) → a ≤ length xs → n ≤ length ys
    → slice_range (put_mid a k xs ys) a (a + n) ≡ take n ys
range_put a k n xs ys within fits =
    let same : (a + n) - a ≡ n = omega arith in
    let after = post_of a k xs in
    ap (take ((a + n) - a)) (drop_at (take a xs) (ys ++ after) a (length-take-le a xs within))
    ∙ ap (λ m. take m (ys ++ after)) same ∙ take-append-le n ys after fits

pub loop-got-preserved : goal.loop-got-preserved
loop-got-preserved g c =
    let from = c.loop-got.got in
    let held = c.loop-got.buffer in
    let many = c.in_ok-many.many in
    let room = length held - from in
    let read = c.read.new.buf in
    let kept = c.loop-got.invariant in
    let given = c.in_ok-many.ensures in
    let part = range_put from room many held read kept.1 given.bound.0 in
    let front = take-put_mid_below _ _ _ _ _ (le_refl _) kept.1 in
    let joined = take_split from (from + many) held (put_mid from room held read) (omega arith) front in
    let bytes = Consumes-trans _ _ _ _ _ kept.2 given.bytes.0 in
    (search rules, search rules, subst (Consumes _ _) (ap (λ l. take from held ++ l) (sym part) ∙ joined) bytes)
