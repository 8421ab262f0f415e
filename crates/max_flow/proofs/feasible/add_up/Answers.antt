use Rattle.std.proofs.Common.{◌<◌, length, slice_index, refl, arith}
use Rattle.max_flow.proofs.Balances.{sums_none, sums_more}
use Rattle.max_flow.proofs.feasible.add_up.Goals as goal

pub loop-i-init : goal.loop-i-init
loop-i-init c = sums_none c.args.keys.now c.args.flows.now c.args.sums.now c.requires.none

pub loop-i-preserved : goal.loop-i-preserved
loop-i-preserved c =
    let inside : slice_index c.args.keys.now c.loop-i.i < length c.args.sums.now = c.requires.inside c.loop-i.i
    c.loop-i-test.true in
    let sum = rw c.in-Some.is at c.checked_add.ensures in
    sums_more c.args.keys.now c.args.flows.now c.loop-i.sums c.loop-i.i (slice_index c.args.keys.now c.loop-i.i)
    c.in-Some.sum c.loop-i.invariant refl (omega (arith, inside, c.loop-i.auto.sums)) sum.1
