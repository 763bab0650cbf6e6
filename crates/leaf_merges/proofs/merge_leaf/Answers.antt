-- `leaf_merges::merge_leaf` meets its contract. The loop's invariant: the subtree of leaf t is being merged.
use native.Mathlib.Omega.{arith}
use Rattle.leaf_merges.proofs.LeafMerges.{begin, own_label, leaf_merge_sizes_fit, merges, leaf_merge_room}
use Rattle.leaf_merges.proofs.LeafMerges.{leaf_merge_names, leaf_merge_step, leaf_merge_over}
use Rattle.leaf_merges.proofs.merge_leaf.Goals as goal

pub loop-k-init : goal.loop-k-init
loop-k-init g c = begin c.requires.1 c.requires.3

pub partner-requires : goal.partner-requires
partner-requires g c =
    let b = c.loop-k.invariant in
    (leaf_merge_sizes_fit c.requires.0 b c.requires.2, own_label c.requires.0 b c.requires.2, c.requires.2)

pub merge-requires : goal.merge-requires
merge-requires g c =
    let hit = c.partner.ensures.hit c.in-Some.k c.in-Some.is in
    merges c.requires.0 c.loop-k.invariant c.requires.2 c.in-Some.k hit.0 (hit.1, hit.2)

pub add-requires : goal.add-requires
add-requires g c =
    let b = c.loop-k.invariant in
    let hit = c.partner.ensures.hit c.in-Some.k c.in-Some.is in
    let room = leaf_merge_room c.requires.0 b c.requires.2 c.in-Some.k hit.0 (hit.1, hit.2) in
    let few = c.requires.0.leaf_count.1 in
    let names = leaf_merge_names c.requires.0 b c.requires.2 c.in-Some.k hit.0 (hit.1, hit.2) in
    (few, c.requires.2, hit.0, omega (arith, few, room), names.0, names.1)

pub loop-k-smaller : goal.loop-k-smaller
loop-k-smaller g c =
    let hit = c.partner.ensures.hit c.in-Some.k c.in-Some.is in
    let room = leaf_merge_room c.requires.0 c.loop-k.invariant c.requires.2 c.in-Some.k hit.0 (hit.1, hit.2) in
    omega (arith, room, c.add.ensures.made)

pub loop-k-preserved : goal.loop-k-preserved
loop-k-preserved g c =
    let hit = c.partner.ensures.hit c.in-Some.k c.in-Some.is in
    let added = c.add.ensures in
    rw added.made
    (leaf_merge_step c.requires.0 c.loop-k.invariant c.requires.2 c.in-Some.k hit.0 (hit.1, hit.2) c.merge.ensures
    added.names added.rows)

pub returns : goal.returns
returns g c =
    leaf_merge_over c.requires.0 c.loop-k.invariant c.requires.2 (c.partner.ensures.miss c.in_default.is)
