-- `Rerooting::finish` meets its contract: what is written and what is left to write stay the listing, and nothing else
-- changes.
use mathlib.Core.Path.{◌≡◌, refl}
use native.Mathlib.Omega.{arith}
use Prim.Native.Nat.{◌+◌, ◌-◌}
use Rattle.rerooted_rows.proofs.Chains.{chain_start, chain_more, chain_end}
use Rattle.rerooted_rows.proofs.Rerooting.finish.Goals as goal

pub loop-r-init : goal.loop-r-init
loop-r-init c = (refl, refl, refl, chain_start c.requires refl)

pub loop-r-preserved : goal.loop-r-preserved
loop-r-preserved c =
    let inv = c.loop-r.invariant in
    (inv.0, inv.1, inv.2, rw inv.0 (chain_more c.loop-r-test.true inv.3))

pub returns : goal.returns
returns c =
    let R = c.args.self.now in
    let all : c.loop-r.r ≡ R.made + (R.chained - 1) = omega (arith, c.loop-r-test.false, c.loop-r.auto.r-end) in
    let inv = c.loop-r.invariant in
    let front = chain_end all inv.3 in (
      (
        refl,
        λ _. tt,
        record {
          rows_are = front;
          rows_long = inv.3.long;
          made_stays = inv.1;
          chain_stays = inv.0;
          chained_stays = inv.2;
        },
      ),
      record { after = tt; rows = front },
    )
