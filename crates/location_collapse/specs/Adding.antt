-- What an event has to add to the graph that is kept: only for that is memory wanted.
use Rattle.std.specs.Map.{keys_of}
use Rattle.std.specs.Prelude.{◌≡◌, true, false}
use Rattle.flow_graph.specs.declared.events.Event.{Event}
use Rattle.flow_graph.specs.declared.events.Event.TheVariants.{Pass, Link, FromSecret, Implicit, Out}
use Rattle.flow_graph.specs.declared.named_links.NamedLink.{NamedLink}
use Rattle.flow_graph.specs.declared.named_links.NamedEnd.TheVariants.{At, Relay, Source}
use Rattle.flow_graph.specs.EventGraphs.{is_among, outlet_of}
use Rattle.location_collapse.specs.declared.collapses.Collapse.{Collapse}
use Rattle.location_collapse.specs.Collapses.{has_ends, knows}
use Rattle.location_collapse.specs.Limits.{WantsPoint}

-- a link that is not kept, whose ends are there
pub record WantsLink (collapse : Collapse) (link : NamedLink) : Type 0 where
  pub new : is_among (keys_of collapse.links.named.map.entries) link ≡ false
  pub ends : has_ends (knows collapse) link ≡ true

-- an event makes a point or a link that is not kept
abbrev pub WantsMore : Collapse → Event → Type 0
WantsMore collapse (Pass p mask) = WantsPoint collapse.points.capacities.map.entries p mask
WantsMore collapse (Link s t) = WantsLink collapse (record { source = At s; target = At t })
WantsMore collapse (FromSecret p) = WantsLink collapse (record { source = Source; target = At p })
WantsMore collapse (Implicit p r) = WantsLink collapse (record { source = At p; target = outlet_of r })
WantsMore collapse (Out r p) = WantsLink collapse (record { source = Relay r; target = At p })
