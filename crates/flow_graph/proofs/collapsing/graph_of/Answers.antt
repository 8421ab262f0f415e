use Rattle.std.proofs.Common.{◌∙◌, subst}
use Rattle.flow_graph.specs.Builders.{StandsFor}
use Rattle.flow_graph.proofs.CapacityEntries.{few_kept}
use Rattle.flow_graph.proofs.collapsing.graph_of.Goals as goal

pub finish-requires-clause-positive : goal.finish-requires-clause-positive
finish-requires-clause-positive c = c.in_ok-builder.ensures.positive

pub finish-requires-clause-sound : goal.finish-requires-clause-sound
finish-requires-clause-sound c = c.in_ok-builder.ensures.sound

pub finish-requires-clause-few : goal.finish-requires-clause-few
finish-requires-clause-few c =
    few_kept c.in_ok-builder.builder c.args.events.now (subst (StandsFor c.in_ok-builder.builder)
    (c.as_slice.ensures ∙ c.events.ensures) c.in_ok-builder.ensures) c.requires

pub returns : goal.returns
returns c = c.in_ok-graph.ensures c.args.events.now (subst (StandsFor c.in_ok-builder.builder)
    (c.as_slice.ensures ∙ c.events.ensures) c.in_ok-builder.ensures)
