use Rattle.region_machine.proofs.Marking.{mark_one}
use Rattle.replay_machine.specs.Tables.{is_marked}
use Rattle.replay_machine.proofs.cut_tables.marks_of.Goals as goal

pub loop-cut_point-preserved : goal.loop-cut_point-preserved
loop-cut_point-preserved c =
    mark_one (is_marked c.loop-cut_point.marks) (is_marked c.mark.new.self) c.args.points.now c.loop-cut_point.cut_point-index
    c.cut_point-item.result c.loop-cut_point-test.true c.cut_point-item.is
    (λ other. c.mark.ensures.kept other.point.address) c.mark.ensures.marked c.loop-cut_point.invariant
