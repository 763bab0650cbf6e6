-- `guess_merges::merge_by_means` meets its contract. The loop's invariant: k merges of the guess are made.
use mathlib.Core.Path.{◌≡◌, sym, ◌∙◌}
use Prim.Native.Nat.{◌-◌}
use native.Mathlib.Omega.{arith}
use Rattle.guess_merges.proofs.NextMerge.{search_ready, block_ready, pair_ready, sums_ready, partners_ready}
use Rattle.guess_merges.proofs.NextMerge.{merge_made}
use Rattle.guess_merges.proofs.merge_by_means.Goals as goal

pub choose-pair-requires : goal.choose-pair-requires
choose-pair-requires c =
    let l = c.loop-k in
    (search_ready c.requires.0 l._k c.loop-k-test.true l.invariant, l.invariant.partnered)

pub put_block-requires : goal.put_block-requires
put_block-requires c =
    let l = c.loop-k in
    block_ready c.requires.0 l._k c.loop-k-test.true l.invariant c.choose-pair.ensures

pub merge-requires : goal.merge-requires
merge-requires c =
    let l = c.loop-k in
    pair_ready c.requires.0 l._k c.loop-k-test.true l.invariant c.choose-pair.ensures

pub renew-requires : goal.renew-requires
renew-requires c =
    let l = c.loop-k in (
      c.requires.0.given.is_table,
      sums_ready c.requires.0 l._k c.loop-k-test.true l.invariant c.choose-pair.ensures c.merge.ensures,
      l.invariant.small,
    )

pub renew_partners-requires : goal.renew_partners-requires
renew_partners-requires c =
    let l = c.loop-k in
    partners_ready c.requires.0 l._k c.loop-k-test.true l.invariant c.choose-pair.ensures c.merge.ensures
    c.renew.ensures

pub loop-k-preserved : goal.loop-k-preserved
loop-k-preserved c =
    let l = c.loop-k in
    merge_made c.requires.0 l._k c.loop-k-test.true l.invariant c.choose-pair.ensures c.merge.ensures c.renew.ensures
    c.put_block.ensures c.renew_partners.ensures
