use Rattle.std.proofs.Common.{length}
use Rattle.replay_machine.proofs.Searching.{IsPart}
use Rattle.replay_machine.proofs.search.find.Given as goal

abbrev pub invariant-loop-part : goal.invariant-loop-part
invariant-loop-part l = IsPart l.part l.points l.from l.point

abbrev pub decreases-loop-part : goal.decreases-loop-part
decreases-loop-part l = length l.part
