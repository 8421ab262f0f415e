-- What a certificate says, line by line.
use Rattle.std.specs.Prelude.{ℕ, ◌^◌, ◌==◌, ◌&&◌, nat_lt, Bool, List, [], ◌∷◌, length}
use Rattle.std.specs.List.{list_all}
use Rattle.flow_graph.specs.declared.ends.Arc.{Arc}
use Rattle.flow_graph.specs.declared.graphs.Graph.{Graph}
use Rattle.flow_graph.specs.declared.nodes.Node.{Node}
use Rattle.max_flow.specs.declared.answers.Half.{Half}
use Rattle.max_flow.specs.declared.answers.Solved.{Solved}
use Rattle.flow_certificate.specs.declared.lines.LinkLine.{LinkLine}
use Rattle.flow_certificate.specs.declared.lines.PointLine.{PointLine}
use Rattle.flow_certificate.specs.declared.lines.RelayLine.{RelayLine}
use Rattle.flow_certificate.specs.Certificates.{Picture}
use Rattle.flow_certificate.specs.Keeping.{has_name, is_node, is_number, is_region_or_outside}

-- points with their flows and their halves in the side
abbrev pub point_lines : List Node → List ℕ → List Half → List PointLine
point_lines [] flows halves = []
point_lines (node ∷ nodes) [] halves = []
point_lines (node ∷ nodes) (flow ∷ flows) [] = []
point_lines (node ∷ nodes) (flow ∷ flows) (half ∷ halves) =
    record { point = node.point; capacity = node.capacity; flow = flow; half = half } ∷ point_lines nodes flows halves

-- relays with their answers
abbrev pub relay_lines : List ℕ → List Bool → List RelayLine
relay_lines [] answers = []
relay_lines (region ∷ regions) [] = []
relay_lines (region ∷ regions) (answer ∷ answers) =
    record { region = region; inside = answer } ∷ relay_lines regions answers

-- links with their flows
abbrev pub link_lines : List Arc → List ℕ → List LinkLine
link_lines [] flows = []
link_lines (link ∷ links) [] = []
link_lines (link ∷ links) (flow ∷ flows) = record { link = link; flow = flow } ∷ link_lines links flows

-- what a graph, a flow and a side say
abbrev pub certificate_picture : Graph → Solved → Picture
certificate_picture graph solved = record {
  value = solved.value;
  points = point_lines graph.points solved.flow.points solved.side.points;
  relays = relay_lines graph.relays solved.side.relays;
  links = link_lines graph.links solved.flow.links;
}

-- a flow and a side of a graph may be a certificate: a number for each point and link and an answer for each point and
-- relay, and all of them have a text
abbrev pub have_counts : Graph → Solved → Bool
have_counts graph solved =
    nat_lt (length graph.points) (2 ^ 32) && ((length solved.flow.points == length graph.points)
    && ((length solved.flow.links == length graph.links) && ((length solved.side.points == length graph.points)
    && (length solved.side.relays == length graph.relays))))

abbrev pub have_texts : Graph → Solved → Bool
have_texts graph solved =
    is_number solved.value && (list_all is_node graph.points && (list_all is_region_or_outside graph.relays
    && (list_all is_number solved.flow.points && list_all is_number solved.flow.links)))

-- all numbers are below 2^48, and all slots are known; nothing else keeps parts with these counts from a certificate
abbrev pub have_names : Graph → Solved → Bool
have_names graph solved =
    is_number solved.value && (list_all has_name graph.points
    && (list_all is_number solved.flow.points && list_all is_number solved.flow.links))

-- the parts of lines
abbrev pub flow_at_point : PointLine → ℕ
flow_at_point line = line.flow

abbrev pub half_at : PointLine → Half
half_at line = line.half

abbrev pub inside_at : RelayLine → Bool
inside_at line = line.inside

abbrev pub flow_at_link : LinkLine → ℕ
flow_at_link line = line.flow
