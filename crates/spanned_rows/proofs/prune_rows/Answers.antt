-- `spanned_rows::prune_rows` meets its contract: all leaves but one are marked, and what they span is standardised.
use mathlib.Core.Path.{◌≡◌, sym, ◌∙◌}
use native.Mathlib.Omega.{arith}
use Prim.Native.Nat.{ℕ, ◌-◌}
use lib.ListN.{length-replicate}
use lib.Seq.{length-take-le}
use Rattle.limits.specs.Limits.{most_numbers}
use Rattle.spanned_rows.proofs.Spanned.{few_marked, pruned_count, pruned_listed}
use Rattle.spanned_rows.proofs.prune_rows.Goals.{After-span_rows-m}
use Rattle.spanned_rows.proofs.prune_rows.Goals as goal

pub span_rows-m-requires : goal.span_rows-m-requires
span_rows-m-requires c =
    let p = c.requires in
    (p.0, p.2, few_marked p.0 p.3 p.1, length-replicate {A = ℕ} most_numbers 0)

-- how many leaves are left
fewer : (c : After-span_rows-m) → c.span_rows-m.result ≡ c.args.n - 1
fewer c =
    pruned_count c.requires.0 c.requires.3 c.span_rows-m.ensures

pub overflow_sub-end : goal.overflow_sub-end
overflow_sub-end c = omega (arith, fewer c, c.requires.1)

pub overflow_mul-end : goal.overflow_mul-end
overflow_mul-end c = omega (arith, fewer c, c.requires.1)

pub slice_bounds-rows-end : goal.slice_bounds-rows-end
slice_bounds-rows-end c = omega (arith, fewer c, c.requires.1)

pub slice_bounds-standard_rows-end : goal.slice_bounds-standard_rows-end
slice_bounds-standard_rows-end c =
    let less = fewer (goal.at.slice_bounds-standard_rows-end c).After-span_rows-m in
    sym (length-take-le _ _ (omega (arith, c.span_rows-m.ensures.long, less, c.requires.1)))

pub standard_rows-requires : goal.standard_rows-requires
standard_rows-requires c =
    let less = fewer (goal.at.standard_rows-requires c).After-span_rows-m in
    (rw less c.requires.1, c.span_rows-m.ensures.keeps, rw less c.requires.4)

pub returns : goal.returns
returns c =
    let tree = pruned_listed c.requires.0 c.requires.3 c.span_rows-m.ensures c.requires.1 c.requires.2 in
    c.standard_rows.ensures ∙ rw (tree, fewer (goal.at.returns c).After-span_rows-m)
