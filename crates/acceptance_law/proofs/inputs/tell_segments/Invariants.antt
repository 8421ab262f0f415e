use Rattle.std.specs.Prelude.{length}
use Rattle.acceptance_law.specs.GuestLaws.{HasBytes}
use Rattle.acceptance_law.proofs.inputs.tell_segments.Given as goal

abbrev pub invariant-loop-rest : goal.invariant-loop-rest
invariant-loop-rest l = HasBytes l.rest → HasBytes l.segments

abbrev pub decreases-loop-rest : goal.decreases-loop-rest
decreases-loop-rest l = length l.rest
