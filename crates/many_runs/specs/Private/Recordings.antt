-- The recordings of several runs.
use Rattle.std.specs.Prelude.{◌≡◌, false, List, [], ◌∷◌}
use Rattle.flow_graph.specs.declared.events.Event.{Event}
use Rattle.measuring.specs.declared.recordings.Recording.{Recording}
use Rattle.measuring.specs.Recordings.{Records}
use Rattle.flow_base.specs.declared.points.Point.{Point}
use Rattle.flow_graph.specs.declared.named_links.NamedLink.{NamedLink}
use Rattle.flow_graph.specs.EventGraphs.{is_among}
use Rattle.many_runs.specs.Uniting.{IsUnited, all_links, joined_masks}

-- each recording has the graph and the visits of a list of events, and exceeds no limit
pub record Keeps (recording : Recording) (events : List Event) : Type 0 where
  pub within : recording.collapse.is_full ≡ false
  pub records : Records recording events

unfoldable pub AllKeep : List Recording → List (List Event) → Type 0
AllKeep [] [] = Unit {0}
AllKeep [] (events ∷ runs) = ⊥
AllKeep (recording ∷ recordings) [] = ⊥
AllKeep (recording ∷ recordings) (events ∷ runs) = Keeps recording events × AllKeep recordings runs

-- the runs of both lists have the same masks and links together
pub record AreSameTogether (runs others : List (List Event)) : Type 0 where
  pub masks : (point : Point) → joined_masks point others ≡ joined_masks point runs
  pub links : (link : NamedLink) → is_among (all_links others) link ≡ is_among (all_links runs) link

-- it has what united events of these runs make
pub record RecordsUnion (runs : List (List Event)) (recording : Recording) : Type 0 where
  pub events : List Event
  pub united : IsUnited runs events
  pub records : Records recording events
