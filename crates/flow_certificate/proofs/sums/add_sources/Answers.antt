use Rattle.std.proofs.Common.{sym, refl, ◌∙◌, arith}
use Rattle.flow_certificate.specs.Private.Sums.{tails_of}
use Rattle.flow_certificate.proofs.Counters.{added_none, added_more, added_room, tails_of_at}
use Rattle.flow_certificate.proofs.sums.add_sources.Goals as goal

pub loop-i-init : goal.loop-i-init
loop-i-init c = added_none c.args.base (tails_of c.args.count c.args.links.now) c.args.flows.now c.args.sums.now

pub add_at-requires : goal.add_at-requires
add_at-requires c = added_room c.args.base (tails_of c.args.count c.args.links.now) c.args.flows.now c.loop-i.i
    c.args.sums.now c.loop-i.sums (omega arith) c.requires.small c.requires.room c.loop-i.invariant

pub loop-i-preserved : goal.loop-i-preserved
loop-i-preserved c = added_more c.args.base (tails_of c.args.count c.args.links.now) c.args.flows.now c.loop-i.i
    c.tail_number.result _ c.args.sums.now c.loop-i.sums c.add_at.new.sums (c.tail_number.ensures ∙ sym
    (tails_of_at c.args.count c.args.links.now c.loop-i.i _ (omega arith))) refl c.loop-i.invariant c.add_at.ensures
