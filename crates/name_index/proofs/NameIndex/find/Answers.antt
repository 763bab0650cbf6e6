-- `name_index::NameIndex::find` meets its contract. The loop's invariant: the search goes on with this leaf of the
-- chain.
use mathlib.Core.Path.{sym, ◌∙◌}
use Prim.Native.Nat.{◌-◌, ◌<◌}
use native.Mathlib.Omega.{arith}
use Rattle.name_index.proofs.Indexes.{index_place, index_name, search_starts}
use Rattle.name_index.proofs.Indexes.{search_more, search_falls, search_finds, search_fails}
use Rattle.name_index.proofs.NameIndex.find.Goals as goal

pub loop-chain-init : goal.loop-chain-init
loop-chain-init c =
    search_starts c.self.invariant.1 _ (rw c.requires at c.bucket.ensures.0) c.from-chain.ensures

pub name_at-requires : goal.name_at-requires
name_at-requires c =
    index_place c.self.invariant.1 (omega (arith, c.loop-chain.invariant.within)) c.from.ensures

pub returns-then-same : goal.returns-then-same
returns-then-same c =
    let i = c.loop-chain.chain - 1 in
    let below : i < c.self.inside.many = omega (arith, c.loop-chain.invariant.within) in
    let named = rw (c.name_at.ensures, index_name c.self.invariant.1 below c.from.ensures) at c.same.ensures in
    rw (← c.self.view_is)
    (search_finds c.self.invariant.1 _ c.loop-chain.invariant i (omega arith) (sym named ∙ c.if-same.true))

pub loop-chain-smaller : goal.loop-chain-smaller
loop-chain-smaller c =
    search_falls c.self.invariant.1 _ c.loop-chain.invariant (c.loop-chain.chain - 1) (omega arith)
    c.from-chain-in-loop-chain.ensures

pub loop-chain-preserved : goal.loop-chain-preserved
loop-chain-preserved c =
    let i = c.loop-chain.chain - 1 in
    let below : i < c.self.inside.many = omega (arith, c.loop-chain.invariant.within) in
    let named = rw (c.name_at.ensures, index_name c.self.invariant.1 below c.from.ensures) at c.same.ensures in
    search_more c.self.invariant.1 _ c.loop-chain.invariant i (omega arith) (sym named ∙ c.if-same.false)
    c.from-chain-in-loop-chain.ensures

pub returns : goal.returns
returns c = rw (← c.self.view_is) (search_fails (rw c.loop-chain-test.false at c.loop-chain.invariant))
