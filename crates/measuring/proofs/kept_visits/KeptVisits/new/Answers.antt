use Rattle.measuring.proofs.AddedVisits.{starts_empty}
use Rattle.measuring.proofs.kept_visits.KeptVisits.new.Goals as goal

pub returns : goal.returns
returns c = starts_empty c.new.result c.new-2.result.map.entries c.new-2.ensures c.new.ensures
