use Rattle.std.proofs.Common.{length}
use Rattle.every_secret.proofs.entries.+secret_base.Given as goal

abbrev pub decreases-secret_base : goal.decreases-secret_base
decreases-secret_base l = length l.ranges.now
