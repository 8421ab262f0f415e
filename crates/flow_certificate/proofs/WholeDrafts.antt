-- A whole draft gives the parts of a certificate, and these say what the draft says.
use Rattle.std.proofs.Common.{◌≡◌, ℕ, ◌&&◌, Bool, true, List, [], ◌∷◌, ◌++◌, map, refl, sym, ap, ◌∙◌}
use Rattle.std.proofs.Common.{append_assoc}
use Rattle.std.specs.List.{list_all}
use Rattle.std.proofs.lemmas.Bool.{and_from, and_parts}
use Rattle.flow_graph.specs.declared.ends.Arc.{Arc}
use Rattle.flow_graph.specs.declared.graphs.Graph.{Graph}
use Rattle.flow_graph.specs.declared.nodes.Node.{Node}
use Rattle.max_flow.specs.declared.answers.Half.{Half}
use Rattle.max_flow.specs.declared.answers.Solved.{Solved}
use Rattle.flow_certificate.specs.declared.lines.Line.{Line}
use Rattle.flow_certificate.specs.declared.lines.Line.TheVariants.{Point, Relay, Link, End}
use Rattle.flow_certificate.specs.declared.lines.LinkLine.{LinkLine}
use Rattle.flow_certificate.specs.declared.lines.PointLine.{PointLine}
use Rattle.flow_certificate.specs.declared.lines.RelayLine.{RelayLine}
use Rattle.flow_certificate.specs.Certificates.{Picture, arc_of, is_certificate_picture, lines_of, makes_graph, node_of, region_of}
use Rattle.flow_certificate.specs.Keeping.{is_node, is_number, is_certificate_point, is_region_or_outside}
use Rattle.flow_certificate.specs.Lines.{is_line}
use Rattle.flow_certificate.specs.Pictures.{flow_at_link, flow_at_point, half_at, have_texts, inside_at, link_lines}
use Rattle.flow_certificate.specs.Pictures.{certificate_picture, point_lines, relay_lines}

point_parts : (lines : List PointLine) →
    point_lines (map node_of lines) (map flow_at_point lines) (map half_at lines) ≡ lines
point_parts [] = refl
point_parts (line ∷ lines) = ap (λ (rest : List PointLine). line ∷ rest) (point_parts lines)

relay_parts : (lines : List RelayLine) → relay_lines (map region_of lines) (map inside_at lines) ≡ lines
relay_parts [] = refl
relay_parts (line ∷ lines) = ap (λ (rest : List RelayLine). line ∷ rest) (relay_parts lines)

link_parts : (lines : List LinkLine) → link_lines (map arc_of lines) (map flow_at_link lines) ≡ lines
link_parts [] = refl
link_parts (line ∷ lines) = ap (λ (rest : List LinkLine). line ∷ rest) (link_parts lines)

-- the graph and the answers are made of the lines of a picture
pub record AreParts (graph : Graph) (solved : Solved) (picture : Picture) : Type 0 where
  pub value : solved.value ≡ picture.value
  pub points : graph.points ≡ map node_of picture.points
  pub point_flows : solved.flow.points ≡ map flow_at_point picture.points
  pub halves : solved.side.points ≡ map half_at picture.points
  pub relays : graph.relays ≡ map region_of picture.relays
  pub answers : solved.side.relays ≡ map inside_at picture.relays
  pub links : graph.links ≡ map arc_of picture.links
  pub link_flows : solved.flow.links ≡ map flow_at_link picture.links

abbrev pictured : ℕ → List PointLine → List RelayLine → List LinkLine → Picture
pictured value points relays links = record { value = value; points = points; relays = relays; links = links }

pub same_picture : (graph : Graph) (solved : Solved) (picture : Picture) → AreParts graph solved picture →
    certificate_picture graph solved ≡ picture
same_picture graph solved picture are =
    let points : point_lines graph.points solved.flow.points solved.side.points ≡ picture.points =
    ap (λ (ns : List Node). point_lines ns solved.flow.points solved.side.points) are.points
    ∙ (ap (λ (fs : List ℕ). point_lines (map node_of picture.points) fs solved.side.points) are.point_flows
    ∙ (ap (λ (hs : List Half). point_lines (map node_of picture.points) (map flow_at_point picture.points) hs)
    are.halves ∙ point_parts picture.points)) in
    let relays : relay_lines graph.relays solved.side.relays ≡ picture.relays =
    ap (λ (rs : List ℕ). relay_lines rs solved.side.relays) are.relays
    ∙ (ap (λ (bs : List Bool). relay_lines (map region_of picture.relays) bs) are.answers
    ∙ relay_parts picture.relays) in
    let links : link_lines graph.links solved.flow.links ≡ picture.links =
    ap (λ (ls : List Arc). link_lines ls solved.flow.links) are.links
    ∙ (ap (λ (fs : List ℕ). link_lines (map arc_of picture.links) fs) are.link_flows ∙ link_parts picture.links) in
    ap (λ (v : ℕ). pictured v (point_lines graph.points solved.flow.points solved.side.points) (relay_lines
    graph.relays solved.side.relays) (link_lines graph.links solved.flow.links)) are.value
    ∙ (ap (λ (ps : List PointLine). pictured picture.value ps (relay_lines graph.relays solved.side.relays)
    (link_lines graph.links solved.flow.links)) points
    ∙ (ap (λ (rs : List RelayLine). pictured picture.value picture.points rs (link_lines graph.links
    solved.flow.links)) relays
    ∙ ap (λ (ls : List LinkLine). pictured picture.value picture.points picture.relays ls) links))

record ArePointTexts (lines : List PointLine) (rest : List Line) : Type 0 where
  nodes : list_all is_node (map node_of lines) ≡ true
  flows : list_all is_number (map flow_at_point lines) ≡ true
  others : list_all is_line rest ≡ true

point_texts : (lines : List PointLine) (rest : List Line) → list_all is_line (map Point lines ++ rest) ≡ true →
    ArePointTexts lines rest
point_texts [] rest all = record { nodes = refl; flows = refl; others = all }
point_texts (line ∷ lines) rest all =
    let parts = and_parts (is_line (Point line)) (list_all is_line (map Point lines ++ rest)) all in
    let place = and_parts (is_certificate_point line.point) _ parts.0 in
    let numbers = and_parts _ (is_number line.capacity && is_number line.flow) place.1 in
    let both = and_parts (is_number line.capacity) (is_number line.flow) numbers.1 in
    let later = point_texts lines rest parts.1 in
    record {
      nodes = and_from (is_node (node_of line)) (list_all is_node (map node_of lines)) (and_from
          (is_number line.capacity) (is_certificate_point line.point) both.0 place.0) later.nodes;
      flows = and_from (is_number line.flow) (list_all is_number (map flow_at_point lines)) both.1 later.flows;
      others = later.others;
    }

record AreRelayTexts (lines : List RelayLine) (rest : List Line) : Type 0 where
  regions : list_all is_region_or_outside (map region_of lines) ≡ true
  others : list_all is_line rest ≡ true

relay_texts : (lines : List RelayLine) (rest : List Line) → list_all is_line (map Relay lines ++ rest) ≡ true →
    AreRelayTexts lines rest
relay_texts [] rest all = record { regions = refl; others = all }
relay_texts (line ∷ lines) rest all =
    let parts = and_parts (is_region_or_outside line.region) (list_all is_line (map Relay lines ++ rest)) all in
    let later = relay_texts lines rest parts.1 in
    record {
      regions = and_from (is_region_or_outside line.region) (list_all is_region_or_outside (map region_of lines)) parts.0 later.regions;
      others = later.others;
    }

link_texts : (lines : List LinkLine) (rest : List Line) → list_all is_line (map Link lines ++ rest) ≡ true →
    list_all is_number (map flow_at_link lines) ≡ true
link_texts [] rest all = refl
link_texts (line ∷ lines) rest all =
    let parts = and_parts (is_line (Link line)) (list_all is_line (map Link lines ++ rest)) all in
    let more = and_parts _ _ parts.0 in
    let last = and_parts _ (is_number line.flow) more.1 in
    and_from (is_number line.flow) (list_all is_number (map flow_at_link lines)) last.1
    (link_texts lines rest parts.1)

pub parts_texts : (graph : Graph) (solved : Solved) (picture : Picture) → AreParts graph solved picture →
    is_certificate_picture picture ≡ true → have_texts graph solved ≡ true
parts_texts graph solved picture are valid =
    let parts = and_parts (list_all is_line (lines_of picture)) (makes_graph picture) valid in
    let value = and_parts (is_number picture.value) _ parts.0 in
    let split : list_all is_line ((map Point picture.points ++ (map Relay picture.relays ++ map Link picture.links))
    ++ (End ∷ [])) ≡ list_all is_line (map Point picture.points ++ (map Relay picture.relays ++ (map Link
    picture.links ++ (End ∷ [])))) =
    ap (list_all is_line) (append_assoc (map Point picture.points) (map Relay picture.relays ++ map Link picture.links)
    (End ∷ []) ∙ ap (λ (ls : List Line). map Point picture.points ++ ls) (append_assoc (map Relay picture.relays)
    (map Link picture.links) (End ∷ []))) in
    let points = point_texts picture.points (map Relay picture.relays ++ (map Link picture.links ++ (End ∷ [])))
    (sym split ∙ value.1) in
    let relays = relay_texts picture.relays (map Link picture.links ++ (End ∷ [])) points.others in
    let links = link_texts picture.links (End ∷ []) relays.others in
    and_from (is_number solved.value) _ (ap is_number are.value ∙ value.0)
    (and_from (list_all is_node graph.points) _ (ap (list_all is_node) are.points ∙ points.nodes)
    (and_from (list_all is_region_or_outside graph.relays) _ (ap (list_all is_region_or_outside) are.relays ∙ relays.regions)
    (and_from (list_all is_number solved.flow.points) (list_all is_number solved.flow.links)
    (ap (list_all is_number) are.point_flows ∙ points.flows) (ap (list_all is_number) are.link_flows ∙ links))))
