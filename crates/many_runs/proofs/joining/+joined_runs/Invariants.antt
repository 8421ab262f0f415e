use Rattle.std.proofs.Common.{length}
use Rattle.many_runs.proofs.joining.+joined_runs.Given as goal

abbrev pub decreases-joined_runs : goal.decreases-joined_runs
decreases-joined_runs l = length l.recordings.now
