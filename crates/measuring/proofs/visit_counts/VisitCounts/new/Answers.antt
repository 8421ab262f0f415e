use Rattle.measuring.proofs.Counters.{none_counted}
use Rattle.measuring.proofs.visit_counts.VisitCounts.new.Goals as goal

pub returns : goal.returns
returns c = none_counted _ c.new.ensures
