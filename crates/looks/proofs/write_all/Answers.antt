-- `looks::write_all` meets its contract: the totals are worked out from the standard listing of the tree.
use mathlib.Core.Path.{ap, sym, ◌∙◌, fun_ext}
use Prim.Native.Nat.{◌+◌, ◌-◌, ◌*◌}
use Rattle.base.specs.Lists.{filled}
use Rattle.looks.proofs.AllEdges.{last_edge, front_fits, front_long, given, front_total}
use Rattle.looks.proofs.write_all.Goals as goal

pub total_at-last-requires : goal.total_at-last-requires
total_at-last-requires c =
    let p = c.requires in
    (p.0, p.1, p.2, p.4, last_edge _ p.0)

pub slice_bounds-rows-end : goal.slice_bounds-rows-end
slice_bounds-rows-end c =
    let p = c.requires in
    front_fits c.args.kind _ _ _ _ p.0 p.1 p.2 p.3 p.4 _ _ c.standard_rows.ensures

pub slice_bounds-write_totals-end : goal.slice_bounds-write_totals-end
slice_bounds-write_totals-end c =
    let p = c.requires in
    let put = c.standard_rows.ensures in
    sym (front_long c.args.kind _ _ _ _ p.0 p.1 p.2 p.3 p.4 _ _ put)

pub write_totals-requires : goal.write_totals-requires
write_totals-requires c =
    let p = c.requires in
    let put = c.standard_rows.ensures in
    let total =
    front_total c.args.kind _ _ _ _ p.0 p.1 p.2 p.3 p.4 _ _ put (2 * c.args.n - 3) in
    rw c.scale-scale.ensures (
      given c.args.kind _ _ _ _ p.0 p.1 p.2 p.3 p.4 _ _ put _
          c.scaled_counts-p.ensures,
      p.5,
      c.total_at-last.ensures ∙ sym total,
    )

pub returns : goal.returns
returns c =
    let p = c.requires in
    let put = c.standard_rows.ensures in
    rw c.scale-scale.ensures at c.write_totals.ensures
    ∙ ap (λ f. filled (2 * c.args.n - 3) f c.args.out.now)
    (fun_ext (λ k. front_total c.args.kind _ _ _ _ p.0 p.1 p.2 p.3 p.4 _ _ put (k + 1)))
