use Rattle.std.proofs.Common.{◌≡◌, ◌+◌, ◌*◌, ◌++◌, ◌∷◌, length, min}
use Rattle.measuring.specs.VisitRuns.{run_masks}
use Rattle.many_runs.specs.Uniting.{united_masks}
use Rattle.many_runs.proofs.joining.join.Given as goal

abbrev pub invariant-visits : goal.invariant-visits
invariant-visits l =
    run_masks l.runs ++ united_masks (run_masks (l.one ∷ l.ones)) (run_masks (l.other ∷ l.others))
    ≡ united_masks (run_masks l.first) (run_masks l.second)

abbrev pub decreases-visits : goal.decreases-visits
decreases-visits l = 2 * (length l.ones + length l.others) + (min 1 l.one.count + min 1 l.other.count)
