-- `guess_merges::merge_by_means` meets its contract. The loop's invariant: k merges of the guess are made.
use Rattle.state_arrays.specs.inner.Fits.{counts_scale}
use Rattle.guess_merges.specs.inner.Guessing.{Guessing}
use Rattle.guess_merges.proofs.merge_by_means.Given as goal

abbrev pub invariant-loop-k : goal.invariant-loop-k
invariant-loop-k l =
    let arrays = l.arrays in
    Guessing l.n (counts_scale l.p) l.table arrays.label arrays.m arrays.sizes l.sums l.partners l.own l._k
