use Rattle.std.proofs.Common.{◌-◌}
use Rattle.max_flow.proofs.preflow.Preflow.push_all.Given as goal

abbrev pub decreases-loop-looked : goal.decreases-loop-looked
decreases-loop-looked l = l.enough - l.looked
