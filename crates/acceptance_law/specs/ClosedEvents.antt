-- What it is that a side is closed for a link of a graph, and for an event of a run; and what the events of a run are
-- like.
use Rattle.std.specs.Prelude.{◌≡◌, ◌≤◌, ◌==◌, Bool, true, false, List}
use Rattle.std.specs.List.{AllByRecursion}
use Rattle.flow_base.specs.Points.{is_slot, width_of}
use Rattle.flow_graph.specs.declared.events.Event.{Event}
use Rattle.flow_graph.specs.declared.events.Event.TheVariants.{Pass, Link, FromSecret, Implicit, Out}
use Rattle.flow_graph.specs.declared.named_links.NamedEnd.{NamedEnd}
use Rattle.flow_graph.specs.declared.named_links.NamedEnd.TheVariants.{Source, At, Relay, Sink}
use Rattle.flow_graph.specs.declared.named_links.NamedLink.{NamedLink}
use Rattle.flow_graph.specs.EventGraphs.{outlet_of}
use Rattle.acceptance_law.specs.Sides.{NamedSide}

-- whether what a link comes from is in the side: the source is, of a point it is the second half, the sink is not
abbrev pub starts_in : NamedSide → NamedEnd → Bool
starts_in side Source = true
starts_in side (At point) = side.second point
starts_in side (Relay region) = side.relay region
starts_in side Sink = false

-- whether what a link leads to is in the side: of a point it is the first half
abbrev pub ends_in : NamedSide → NamedEnd → Bool
ends_in side Source = true
ends_in side (At point) = side.first point
ends_in side (Relay region) = side.relay region
ends_in side Sink = false

-- the side is not left from the one end to the other
abbrev pub Stays : NamedSide → NamedEnd → NamedEnd → Type 0
Stays side source target = starts_in side source ≡ true → ends_in side target ≡ true

abbrev pub IsClosedLink : NamedSide → NamedLink → Type 0
IsClosedLink side link = Stays side link.source link.target

-- no link leaves the side
abbrev pub IsClosedFor : NamedSide → List NamedLink → Type 0
IsClosedFor side links = AllByRecursion (IsClosedLink side) links

-- what an event says flows on does not leave the side
abbrev pub IsClosedEvent : NamedSide → Event → Type 0
IsClosedEvent side (Pass point mask) = Unit {0}
IsClosedEvent side (Link source target) = Stays side (At source) (At target)
IsClosedEvent side (FromSecret point) = side.first point ≡ true
IsClosedEvent side (Implicit point region) = Stays side (At point) (outlet_of region)
IsClosedEvent side (Out region point) = Stays side (Relay region) (At point)

abbrev pub AreClosedEvents : NamedSide → List Event → Type 0
AreClosedEvents side events = AllByRecursion (IsClosedEvent side) events

-- what passes has a mask within the width of its slot, and an output is of a region
abbrev pub IsProperEvent : Event → Type 0
IsProperEvent (Pass point mask) = (mask ≤ width_of point.slot) × (is_slot point.slot ≡ true)
IsProperEvent (Link source target) = Unit {0}
IsProperEvent (FromSecret point) = Unit {0}
IsProperEvent (Implicit point region) = Unit {0}
IsProperEvent (Out region point) = (region == 0) ≡ false

abbrev pub AreProperEvents : List Event → Type 0
AreProperEvents events = AllByRecursion IsProperEvent events
