use Rattle.std.proofs.Common.{sym}
use Rattle.flow_graph.proofs.Indices.{found_index, apart_index, rises}
use Rattle.flow_base.specs.Points.{nowhere}
use Rattle.flow_graph.proofs.finishing.index_of.Goals as goal

pub returns-in-Ok : goal.returns-in-Ok
returns-in-Ok c = sym (found_index c.args.names.now c.args.point.now c.in-Ok.index nowhere c.requires.sorted
    c.in-Ok.ensures.bound (c.in-Ok.ensures.ok nowhere))

pub returns-in-Err : goal.returns-in-Err
returns-in-Err c = sym (apart_index c.args.names.now c.args.point.now c.in-Err.field-0
    (c.in-Err.ensures.position (rises c.args.names.now c.args.point.now c.requires.sorted)))
