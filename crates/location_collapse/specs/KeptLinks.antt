-- The links of the two kinds that come again and again, by what names their ends, and what is kept of the latest ones.
use Rattle.std.specs.Prelude.{ℕ, ◌==◌, ◌&&◌, Bool, false, List, Option, None, Some}
use Rattle.flow_base.specs.declared.points.Point.{Point}
use Rattle.flow_graph.specs.declared.named_links.NamedLink.{NamedLink}
use Rattle.flow_graph.specs.declared.named_links.NamedEnd.{NamedEnd}
use Rattle.flow_graph.specs.declared.named_links.NamedEnd.TheVariants.{At, Relay, Source, Sink}
use Rattle.flow_graph.specs.EventGraphs.{is_among}
use Rattle.flow_base.specs.PointOrders.{is_same}

-- whether the link from a point to a point has occurred
abbrev pub has_flow : List NamedLink → Point → Point → Bool
has_flow links source target = is_among links (record { source = At source; target = At target })

-- whether the link from the relay of a region to a point has occurred
abbrev pub has_output : List NamedLink → ℕ → Point → Bool
has_output links region point = is_among links (record { source = Relay region; target = At point })

-- whether these are the ends of the latest link between two points, if there was one
abbrev pub is_latest_flow : Option (Point × Point) → Point → Point → Bool
is_latest_flow None source target = false
is_latest_flow (Some ends) source target = is_same ends.0 source && is_same ends.1 target

-- whether these are the ends of the latest link from a relay to a point, if there was one
abbrev pub is_latest_output : Option (ℕ × Point) → ℕ → Point → Bool
is_latest_output None region point = false
is_latest_output (Some ends) region point = (ends.0 == region) && is_same ends.1 point

-- the ends of the latest link between two points, after a link with these ends
abbrev pub flow_after : NamedEnd → NamedEnd → Option (Point × Point) → Option (Point × Point)
flow_after (At source) (At target) latest = Some (source, target)
flow_after (At source) Source latest = latest
flow_after (At source) (Relay region) latest = latest
flow_after (At source) Sink latest = latest
flow_after Source target latest = latest
flow_after (Relay region) target latest = latest
flow_after Sink target latest = latest

-- the ends of the latest link from a relay to a point, after a link with these ends
abbrev pub output_after : NamedEnd → NamedEnd → Option (ℕ × Point) → Option (ℕ × Point)
output_after (Relay region) (At target) latest = Some (region, target)
output_after (Relay region) Source latest = latest
output_after (Relay region) (Relay other) latest = latest
output_after (Relay region) Sink latest = latest
output_after Source target latest = latest
output_after (At source) target latest = latest
output_after Sink target latest = latest
