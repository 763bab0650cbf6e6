-- `sheet_tables::table::write_table` meets its contract: after i turns the rows before row i stand in the buffer.
use mathlib.Core.Path.{◌≡◌, refl, sym, ◌∙◌}
use Prim.Native.Nat.{◌+◌, ◌*◌}
use native.Mathlib.Nat.{zero-mul}
use native.Mathlib.Omega.{arith}
use Rattle.base.proofs.Filling.{filled_none}
use Rattle.sheet_tables.proofs.table.write_table.Goals as goal

pub loop-i-init : goal.loop-i-init
loop-i-init c = (refl, rw (zero-mul c.args.n) (sym (filled_none _ _)))

pub loop-i-preserved : goal.loop-i-preserved
loop-i-preserved c =
    let a = c.args in
    let l = c.loop-i in
    let w = c.write_row.ensures in
    let next : (l.i + 1) * a.n ≡ l.i * a.n + a.n = omega arith in
    (w.long ∙ l.invariant.0, rw next (w.row a.out.now (omega arith) l.invariant.1))

pub returns : goal.returns
returns c =
    let l = c.loop-i in
    let e : l.i ≡ c.args.n = omega arith in
    rw e at l.invariant.1
