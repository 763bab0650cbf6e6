-- `name_index::compare::same` meets its contract: the test of the bytes left equals the test of all.
use mathlib.Core.Path.{◌≡◌, sym, ◌∙◌}
use Prim.Native.Nat.{◌+◌, ◌*◌, ◌/◌}
use native.Mathlib.Omega.{arith}
use borrow.Author.Tests.{eq-eqb, ne_eqb}
use lib.ListN.{length}
use Rattle.sheet_rules.proofs.Names.{same_lengths}
use Rattle.name_index.proofs.Parts.{same_turn, same_part, same_end, stops, goes_on}
use Rattle.name_index.proofs.compare.same.Goals as goal

pub returns-then-many-t : goal.returns-then-many-t
returns-then-many-t c = sym (same_lengths _ _ c.if-many-t.true)

pub returns-then-not-same_eight : goal.returns-then-not-same_eight
returns-then-not-same_eight c =
    let turn = same_part c.args.s.now c.args.t.now (8 * c.loop-e.e) 8 (omega arith) (omega arith) in
    stops _ _ (sym turn ∙ c.loop-e.invariant) (sym c.same_eight.ensures ∙ c.if-not-same_eight.true)

pub loop-e-preserved : goal.loop-e-preserved
loop-e-preserved c =
    let turn = same_part c.args.s.now c.args.t.now (8 * c.loop-e.e) 8 (omega arith) (omega arith) in
    let more : 8 * c.loop-e.e + 8 ≡ 8 * (c.loop-e.e + 1) = omega arith in
    rw (← more) (goes_on _ _ (sym turn ∙ c.loop-e.invariant) (sym c.same_eight.ensures ∙ c.if-not-same_eight.false))

pub loop-k-init : goal.loop-k-init
loop-k-init c =
    let all : c.loop-e.e ≡ length c.args.s.now / 8 = omega arith in
    rw (← all) c.loop-e.invariant

pub returns-then-s-k : goal.returns-then-s-k
returns-then-s-k c =
    let turn = same_turn c.args.s.now c.args.t.now c.loop-k.k (omega arith) (omega arith) in
    stops _ _ (sym turn ∙ c.loop-k.invariant) (ne_eqb _ _ c.if-s-k.true)

pub loop-k-preserved : goal.loop-k-preserved
loop-k-preserved c =
    let turn = same_turn c.args.s.now c.args.t.now c.loop-k.k (omega arith) (omega arith) in
    goes_on _ _ (sym turn ∙ c.loop-k.invariant) (eq-eqb _ _ c.if-s-k.false)

pub returns : goal.returns
returns c = sym (same_end c.args.s.now c.args.t.now c.loop-k.k (omega arith) (omega arith)) ∙ c.loop-k.invariant
