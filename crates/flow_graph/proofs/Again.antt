-- The events of an output that gives out again what it gave before, one after the other.
use Rattle.std.proofs.Common.{◌≡◌, ℕ, List, [], ◌∷◌, ◌++◌, append_assoc, ◌∙◌, ap}
use Rattle.flow_base.specs.declared.points.Point.{Point}
use Rattle.flow_graph.specs.declared.events.Event.{Event}
use Rattle.flow_graph.specs.declared.events.Event.TheVariants.{Pass, Link, Out}
use Rattle.flow_graph.specs.Events.{again_events}

pub again_in_turn : (events : List Event) (point : Point) (mask : ℕ) →
    ((events ++ Pass point mask ∷ []) ++ Link point point ∷ []) ++ Out point.region point ∷ []
    ≡ events ++ again_events point mask
again_in_turn events point mask =
    ap (λ list. list ++ Out point.region point ∷ []) (append_assoc events (Pass point mask ∷ []) (Link point point ∷ []))
    ∙ append_assoc events (Pass point mask ∷ Link point point ∷ []) (Out point.region point ∷ [])
