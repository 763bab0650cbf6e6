-- `sets::words::word_at` meets its contract: the eight bytes of the word, the lowest first.
use mathlib.Core.Path.{◌≡◌, ◌∙◌}
use Prim.Native.Nat.{ℕ, ◌+◌, ◌-◌, ◌*◌, ◌<◌}
use native.Mathlib.Omega.{arith}
use lib.ListN.{get_or, drop}
use lib.Seq.{get_or-take, get_or-drop}
use mir.Syntax.{w8}
use Rattle.limits.specs.Limits.{set_bytes}
use Rattle.sets.proofs.WordSets.{array_cells, word_is}
use Rattle.sets.proofs.words.word_at.Goals as goal

pub returns : goal.returns
returns c =
    let s = c.args.s in
    let i = c.args.i in
    let cells = array_cells w8 set_bytes s _ c.well_formed.0 tt in
    let copied = c.copy_from_slice.ensures.after in
    let at : (k : ℕ) → k < 8 → get_or c.copy_from_slice.new.self k 0 ≡ get_or s (8 * i + k) 0 =
    λ k h. rw (copied, get_or-take (8 * i + 8 - 8 * i) (drop (8 * i) s) k 0 (omega arith), get_or-drop (8 * i) s k 0) in
    c.from_le_bytes.ensures ∙ word_is s cells i c.copy_from_slice.new.self at 7 (omega arith)
