use Rattle.std.proofs.Common.{length, sym, refl, arith}
use Rattle.max_flow.specs.Private.GraphNetworks.{halves_from}
use Rattle.max_flow.proofs.Graphs.{half_at}
use Rattle.flow_certificate.proofs.Counters.{added_none, added_more, added_room}
use Rattle.flow_certificate.proofs.sums.add_points.Goals as goal

pub loop-i-init : goal.loop-i-init
loop-i-init c = added_none c.args.base (halves_from c.args.start (length c.args.flows.now)) c.args.flows.now
    c.args.sums.now

pub add_at-requires : goal.add_at-requires
add_at-requires c = added_room c.args.base (halves_from c.args.start (length c.args.flows.now)) c.args.flows.now
    c.loop-i.i c.args.sums.now c.loop-i.sums (omega arith) c.requires.small c.requires.room c.loop-i.invariant

pub loop-i-preserved : goal.loop-i-preserved
loop-i-preserved c = added_more c.args.base (halves_from c.args.start (length c.args.flows.now)) c.args.flows.now
    c.loop-i.i _ _ c.args.sums.now c.loop-i.sums c.add_at.new.sums
    (sym (half_at c.args.start (length c.args.flows.now) c.loop-i.i (omega arith))) refl c.loop-i.invariant
    c.add_at.ensures
