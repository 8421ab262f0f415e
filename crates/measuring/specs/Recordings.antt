-- What a recording stands for.
use Rattle.std.specs.Prelude.{◌≡◌, true, false, List}
use Rattle.flow_graph.specs.declared.events.Event.{Event}
use Rattle.location_collapse.specs.Collapses.{StandsFor}
use Rattle.location_collapse.specs.Limits.{ExceedsLimit}
use Rattle.measuring.specs.declared.recordings.Recording.{Recording}
use Rattle.measuring.specs.Visits.{HasVisits}

-- while no limit is exceeded it has the graph of the events and the masks of their visits, and else they exceed one
pub record Records (recording : Recording) (events : List Event) : Type 0 where
  pub graph : recording.collapse.is_full ≡ false → StandsFor recording.collapse events
  pub visits : recording.collapse.is_full ≡ false → HasVisits recording.visits events
  pub exceeds : recording.collapse.is_full ≡ true → ExceedsLimit events

-- it stands for some events
pub record HasEvents (recording : Recording) : Type 0 where
  pub events : List Event
  pub records : Records recording events
