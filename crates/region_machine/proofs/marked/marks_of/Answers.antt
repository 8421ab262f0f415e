use Rattle.region_machine.specs.Private.Marked.{is_marked}
use Rattle.region_machine.proofs.Marking.{mark_one}
use Rattle.region_machine.proofs.marked.marks_of.Goals as goal

pub loop-region-preserved : goal.loop-region-preserved
loop-region-preserved c =
    mark_one (is_marked c.loop-region.marks) (is_marked c.mark.new.self) c.args.regions.now c.loop-region.region-index
    c.region-item.result c.loop-region-test.true c.region-item.is (λ other. c.mark.ensures.kept other.enter)
    c.mark.ensures.marked c.loop-region.invariant
