use Rattle.std.specs.Map.{keys_of}
use Rattle.location_collapse.proofs.SortedCollapses.{sorted_positive, sorted_sound, sorted_keeps}
use Rattle.location_collapse.proofs.sorting.graph_in.Goals as goal

pub finish-requires-clause-positive : goal.finish-requires-clause-positive
finish-requires-clause-positive c =
    sorted_positive c.in_ok-builder.builder.capacities.entries c.args.collapse.now.points.capacities.map.entries
    c.in_ok-builder.ensures.points c.args.collapse.now.points.small

pub finish-requires-clause-sound : goal.finish-requires-clause-sound
finish-requires-clause-sound c =
    sorted_sound c.in_ok-builder.builder.capacities.entries c.args.collapse.now.points.capacities.map.entries
    c.in_ok-builder.builder.links.keys (keys_of c.args.collapse.now.links.named.map.entries) c.in_ok-builder.ensures.points
    c.in_ok-builder.ensures.links c.args.collapse.now.sound

pub returns : goal.returns
returns c = λ events stands. c.in_ok-graph.ensures events
    (sorted_keeps c.in_ok-builder.builder.capacities.entries c.args.collapse.now.points.capacities.map.entries
    c.in_ok-builder.builder.links.keys (keys_of c.args.collapse.now.links.named.map.entries) events
    c.in_ok-builder.ensures.points c.in_ok-builder.ensures.links stands)
