-- What the recordings of several runs have together.
use Rattle.std.specs.Prelude.{ℕ, ◌++◌, List, [], ◌∷◌}
use Rattle.std.specs.Map.{keys_of}
use Rattle.flow_base.specs.declared.points.Point.{Point}
use Rattle.flow_graph.specs.declared.events.Event.{Event}
use Rattle.flow_graph.specs.declared.events.Event.TheVariants.{Pass, Link, FromSecret, Implicit, Out}
use Rattle.flow_graph.specs.declared.named_links.NamedEnd.{NamedEnd}
use Rattle.flow_graph.specs.declared.named_links.NamedEnd.TheVariants.{Source, At, Relay, Sink}
use Rattle.flow_graph.specs.declared.named_links.NamedLink.{NamedLink}
use Rattle.measuring.specs.declared.recordings.Recording.{Recording}
use Rattle.measuring.specs.Visits.{all_masks}
use Rattle.many_runs.specs.Uniting.{united_masks}

-- the masks of a point in all recordings, visit by visit
unfoldable pub recorded_masks : Point → List Recording → List ℕ
recorded_masks point [] = []
recorded_masks point (recording ∷ recordings) =
    united_masks (all_masks recording.visits point) (recorded_masks point recordings)

-- the visits of a point with these masks
unfoldable pub passes : Point → List ℕ → List Event
passes point [] = []
passes point (mask ∷ masks) = Pass point mask ∷ passes point masks

-- the event that makes a link, where events make one from the one end to the other
abbrev pub event_between : NamedEnd → NamedEnd → List Event
event_between Source (At point) = FromSecret point ∷ []
event_between Source Source = []
event_between Source (Relay region) = []
event_between Source Sink = []
event_between (At point) (At target) = Link point target ∷ []
event_between (At point) (Relay region) = Implicit point region ∷ []
event_between (At point) Sink = Implicit point 0 ∷ []
event_between (At point) Source = []
event_between (Relay region) (At point) = Out region point ∷ []
event_between (Relay region) Source = []
event_between (Relay region) (Relay other) = []
event_between (Relay region) Sink = []
event_between Sink target = []

-- the events that make these links
unfoldable pub link_events : List NamedLink → List Event
link_events [] = []
link_events (link ∷ links) = event_between link.source link.target ++ link_events links

-- the visits of these points, each with its masks in all recordings
unfoldable pub passes_at : List Recording → List Point → List Event
passes_at recordings [] = []
passes_at recordings (point ∷ points) =
    passes point (recorded_masks point recordings) ++ passes_at recordings points

-- the events that make the links of all recordings
unfoldable pub recorded_links : List Recording → List Event
recorded_links [] = []
recorded_links (recording ∷ recordings) =
    link_events (keys_of recording.collapse.links.named.map.entries) ++ recorded_links recordings
