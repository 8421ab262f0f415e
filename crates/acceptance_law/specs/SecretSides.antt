-- The largest flow of a run's graph.
use Rattle.std.specs.Prelude.{◌≡◌, ◌≤◌, Bool, true, List}
use Rattle.std.specs.List.{list_all}
use Rattle.flow_graph.specs.declared.events.Event.{Event}
use Rattle.flow_graph.specs.declared.graphs.Graph.{Graph}
use Rattle.flow_graph.specs.EventGraphs.{IsGraphOf}
use Rattle.max_flow.specs.declared.answers.Half.{Half}
use Rattle.max_flow.specs.Flows.{Least, side_capacity}
use Rattle.acceptance_law.specs.SecretBits.{is_from_secret, secret_bits}

-- where all that comes from the secret comes to slots `in`, no side of least capacity has more than the bits there
abbrev pub LeastBitsLaw : Type 0
LeastBitsLaw =
    (events : List Event) (graph : Graph) (halves : List Half) (relays : List Bool) → IsGraphOf events graph →
    Least graph halves relays → list_all is_from_secret events ≡ true →
    side_capacity graph halves relays ≤ secret_bits events
