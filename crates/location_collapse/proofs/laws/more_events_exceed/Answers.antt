use Rattle.location_collapse.proofs.ExceedingEvents.{more_exceed}
use Rattle.location_collapse.proofs.laws.more_events_exceed.Goals as goal

pub returns : goal.returns
returns c = more_exceed
