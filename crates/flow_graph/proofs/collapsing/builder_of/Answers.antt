use Rattle.std.proofs.Common.{◌≡◌, take, sym, subst, arith}
use Rattle.std.proofs.lemmas.List.{take_more, length-take, take_all}
use Rattle.flow_graph.specs.EventGraphs.{passed}
use Rattle.flow_graph.specs.Builders.{StandsFor, count_at}
use Rattle.flow_graph.proofs.KeptAfterEvent.{passed_bound}
use Rattle.flow_graph.proofs.collapsing.builder_of.Goals as goal

pub add-requires-clause-positive : goal.add-requires-clause-positive
add-requires-clause-positive c = c.loop-event.invariant.positive

pub add-requires-clause-room : goal.add-requires-clause-room
add-requires-clause-room c = λ q.
    let counted : count_at c.loop-event.builder q ≡ passed (take c.loop-event.event-index c.args.events.now) q =
    c.loop-event.invariant.counted q in
    let bound = passed_bound (take c.loop-event.event-index c.args.events.now) q in
    let taken = length-take c.loop-event.event-index c.args.events.now in
    omega (arith, counted, bound, taken)

pub loop-event-init : goal.loop-event-init
loop-event-init c = c.new-builder.ensures

pub loop-event-preserved : goal.loop-event-preserved
loop-event-preserved c =
    subst (StandsFor c.add.new.self)
    (sym (take_more c.args.events.now c.loop-event.event-index _ c.loop-event-test.true))
    (c.in_ok-add.ensures.ok (take c.loop-event.event-index c.args.events.now) c.loop-event.invariant)

pub returns : goal.returns
returns c = subst (StandsFor c.loop-event.builder)
    (take_all c.loop-event.event-index c.args.events.now c.loop-event-test.false) c.loop-event.invariant
