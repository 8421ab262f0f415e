-- What is written of a certificate is its text.
use Rattle.std.proofs.Common.{◌≡◌, ℕ, ◌<◌, ◌^◌, nat_lt, Bool, true, List, [], ◌∷◌, ◌++◌, length, map, refl, sym}
use Rattle.std.proofs.Common.{ap, ◌∙◌, append_assoc, arith}
use Rattle.std.specs.List.{list_all}
use Rattle.std.proofs.lemmas.Bool.{and_from, and_parts, lt-ltb, ltb-true}
use Rattle.flow_graph.specs.declared.ends.Arc.{Arc}
use Rattle.flow_graph.specs.declared.ends.End.{End as AnEnd}
use Rattle.flow_graph.specs.declared.ends.End.TheVariants as ends
use Rattle.flow_graph.specs.declared.nodes.Node.{Node}
use Rattle.flow_graph.specs.Graphs.{are_arcs, are_links, are_points, are_relays, ascend, has_capacity, is_graph, is_link}
use Rattle.flow_graph.specs.Graphs.{is_origin, is_target, leads_on, node_cmp}
use Rattle.max_flow.specs.declared.answers.Half.{Half}
use Rattle.flow_certificate.specs.declared.certificates.Certificate.{Certificate}
use Rattle.flow_certificate.specs.declared.lines.Line.{Line}
use Rattle.flow_certificate.specs.declared.lines.Line.TheVariants.{Version, Value, Point, Relay, Link, End}
use Rattle.flow_certificate.specs.Certificates.{Picture, arc_of, is_certificate_picture, lines_of, lines_text, makes_graph, node_of}
use Rattle.flow_certificate.specs.Certificates.{region_of}
use Rattle.flow_certificate.specs.Keeping.{is_node, is_number, is_certificate_point, is_region_or_outside}
use Rattle.flow_certificate.specs.Lines.{is_end, is_line, line_text}
use Rattle.flow_certificate.specs.Pictures.{link_lines, certificate_picture, point_lines, relay_lines}
use Rattle.flow_certificate.proofs.Prefixes.{text_append, text_more, text_none}

-- ---- the text

pub one_line : (line : Line) → line_text line ++ (10 ∷ []) ≡ lines_text (line ∷ [])
one_line line = sym (text_more line [] ∙ ap (λ (l : List ℕ). line_text line ++ (10 ∷ l)) text_none)

grow : (lines more : List Line) (before after : List ℕ) → before ≡ lines_text lines →
    after ≡ before ++ lines_text more → after ≡ lines_text (lines ++ more)
grow lines more before after first second =
    second ∙ (ap (λ (l : List ℕ). l ++ lines_text more) first ∙ sym (text_append lines more))

pub written_text : (picture : Picture) (first second third fourth fifth last : List ℕ) →
    first ≡ line_text Version ++ (10 ∷ []) → second ≡ first ++ (line_text (Value picture.value) ++ (10 ∷ [])) →
    third ≡ second ++ lines_text (map Point picture.points) → fourth ≡ third ++ lines_text (map Relay picture.relays) →
    fifth ≡ fourth ++ lines_text (map Link picture.links) → last ≡ fifth ++ (line_text End ++ (10 ∷ [])) →
    last ≡ lines_text (lines_of picture)
written_text picture first second third fourth fifth last a b c d e f =
    let one = a ∙ one_line Version in
    let two = grow (Version ∷ []) (Value picture.value ∷ []) first second one
    (b ∙ ap (λ (l : List ℕ). first ++ l) (one_line (Value picture.value))) in
    let three = grow (Version ∷ (Value picture.value ∷ [])) (map Point picture.points) second third two c in
    let four = grow (Version ∷ (Value picture.value ∷ map Point picture.points)) (map Relay picture.relays) third
    fourth three d in
    let five = grow (Version ∷ (Value picture.value ∷ (map Point picture.points ++ map Relay picture.relays)))
    (map Link picture.links) fourth fifth four e in
    let six = grow (Version ∷ (Value picture.value ∷ ((map Point picture.points ++ map Relay picture.relays) ++ map
    Link picture.links))) (End ∷ []) fifth last five (f ∙ ap (λ (l : List ℕ). fifth ++ l) (one_line End)) in
    six ∙ ap (λ (ls : List Line). lines_text (Version ∷ (Value picture.value ∷ (ls ++ (End ∷ [])))))
    (append_assoc (map Point picture.points) (map Relay picture.relays) (map Link picture.links))

-- ---- the lines

points_known : (nodes : List Node) (flows : List ℕ) (halves : List Half) (rest : List Line) →
    list_all is_node nodes ≡ true → list_all has_capacity nodes ≡ true → list_all is_number flows ≡ true →
    list_all is_line rest ≡ true → list_all is_line (map Point (point_lines nodes flows halves) ++ rest) ≡ true
points_known [] flows halves rest named some small all = all
points_known (node ∷ nodes) [] halves rest named some small all = all
points_known (node ∷ nodes) (flow ∷ flows) [] rest named some small all = all
points_known (node ∷ nodes) (flow ∷ flows) (half ∷ halves) rest named some small all =
    let a = and_parts (is_node node) (list_all is_node nodes) named in
    let b = and_parts (has_capacity node) (list_all has_capacity nodes) some in
    let c = and_parts (is_number flow) (list_all is_number flows) small in
    let n = and_parts (is_number node.capacity) (is_certificate_point node.point) a.0 in
    and_from _ (list_all is_line (map Point (point_lines nodes flows halves) ++ rest))
    (and_from (is_certificate_point node.point) _ n.1 (and_from (has_capacity node) _ b.0 (and_from (is_number node.capacity)
    (is_number flow) n.0 c.0))) (points_known nodes flows halves rest a.1 b.1 c.1 all)

relays_known : (regions : List ℕ) (answers : List Bool) (rest : List Line) → list_all is_region_or_outside regions ≡ true →
    list_all is_line rest ≡ true → list_all is_line (map Relay (relay_lines regions answers) ++ rest) ≡ true
relays_known [] answers rest small all = all
relays_known (region ∷ regions) [] rest small all = all
relays_known (region ∷ regions) (answer ∷ answers) rest small all =
    let a = and_parts (is_region_or_outside region) (list_all is_region_or_outside regions) small in
    and_from (is_region_or_outside region) _ a.0 (relays_known regions answers rest a.1 all)

origin_known : (count : ℕ) (relays : List ℕ) (end : AnEnd) → count < 2 ^ 32 → is_origin count relays end ≡ true →
    is_end end ≡ true
origin_known count relays ends.Source few is = refl
origin_known count relays (ends.Point index) few is =
    let below : index < count = ltb-true index count is in lt-ltb index (2 ^ 32) (omega (arith, below, few))
origin_known count relays (ends.Relay region) few is = (and_parts (nat_lt region 65536) _ is).0
origin_known count relays ends.Sink few is = refl

target_known : (count : ℕ) (relays : List ℕ) (end : AnEnd) → count < 2 ^ 32 → is_target count relays end ≡ true →
    is_end end ≡ true
target_known count relays ends.Source few is = refl
target_known count relays (ends.Point index) few is =
    let below : index < count = ltb-true index count is in lt-ltb index (2 ^ 32) (omega (arith, below, few))
target_known count relays (ends.Relay region) few is = (and_parts (nat_lt region 65536) _ is).0
target_known count relays ends.Sink few is = refl

links_known : (count : ℕ) (relays : List ℕ) (links : List Arc) (flows : List ℕ) (rest : List Line) →
    count < 2 ^ 32 → are_links count relays links ≡ true → list_all is_number flows ≡ true →
    list_all is_line rest ≡ true → list_all is_line (map Link (link_lines links flows) ++ rest) ≡ true
links_known count relays [] flows rest few joined small all = all
links_known count relays (link ∷ links) [] rest few joined small all = all
links_known count relays (link ∷ links) (flow ∷ flows) rest few joined small all =
    let a = and_parts (is_link count relays link) (are_links count relays links) joined in
    let b = and_parts (is_number flow) (list_all is_number flows) small in
    let s = and_parts (is_origin count relays link.source) _ a.0 in
    let t = and_parts (is_target count relays link.target) (leads_on link.source link.target) s.1 in
    and_from _ (list_all is_line (map Link (link_lines links flows) ++ rest))
    (and_from (is_end link.source) _ (origin_known count relays link.source few s.0)
    (and_from (is_end link.target) (is_number flow) (target_known count relays link.target few t.0) b.0))
    (links_known count relays links flows rest few a.1 b.1 all)

-- ---- the graph

pub nodes_kept : (nodes : List Node) (flows : List ℕ) (halves : List Half) → length flows ≡ length nodes →
    length halves ≡ length nodes → map node_of (point_lines nodes flows halves) ≡ nodes
nodes_kept [] flows halves first second = refl
nodes_kept (node ∷ nodes) [] halves first second = absurd (omega (arith, first))
nodes_kept (node ∷ nodes) (flow ∷ flows) [] first second = absurd (omega (arith, second))
nodes_kept (node ∷ nodes) (flow ∷ flows) (half ∷ halves) first second =
    ap (λ (ns : List Node). node ∷ ns) (nodes_kept nodes flows halves (omega (arith, first)) (omega (arith, second)))

pub regions_kept : (regions : List ℕ) (answers : List Bool) → length answers ≡ length regions →
    map region_of (relay_lines regions answers) ≡ regions
regions_kept [] answers same = refl
regions_kept (region ∷ regions) [] same = absurd (omega (arith, same))
regions_kept (region ∷ regions) (answer ∷ answers) same =
    ap (λ (rs : List ℕ). region ∷ rs) (regions_kept regions answers (omega (arith, same)))

pub arcs_kept : (links : List Arc) (flows : List ℕ) → length flows ≡ length links →
    map arc_of (link_lines links flows) ≡ links
arcs_kept [] flows same = refl
arcs_kept (link ∷ links) [] same = absurd (omega (arith, same))
arcs_kept (link ∷ links) (flow ∷ flows) same =
    ap (λ (ls : List Arc). link ∷ ls) (arcs_kept links flows (omega (arith, same)))

pub written_valid : (certificate : Certificate) → is_certificate_picture (certificate_picture certificate.graph certificate.solved) ≡ true
written_valid certificate =
    let graph = certificate.graph in
    let solved = certificate.solved in
    let picture = certificate_picture certificate.graph certificate.solved in
    let nodes = and_parts (list_all has_capacity certificate.graph.points) (ascend node_cmp
    certificate.graph.points) certificate.graph.points_ascend in
    let links = links_known (length certificate.graph.points) certificate.graph.relays certificate.graph.links
    certificate.solved.flow.links (End ∷ []) certificate.has_few_points certificate.graph.links_are_valid
    certificate.link_flows_are_numbers refl in
    let relays = relays_known certificate.graph.relays certificate.solved.side.relays (map Link (link_lines
    certificate.graph.links certificate.solved.flow.links) ++ (End ∷ [])) certificate.relays_are_regions links in
    let points = points_known certificate.graph.points certificate.solved.flow.points certificate.solved.side.points
    (map Relay (relay_lines certificate.graph.relays certificate.solved.side.relays) ++ (map Link (link_lines
    certificate.graph.links certificate.solved.flow.links) ++ (End ∷ []))) certificate.nodes_are_named nodes.0
    certificate.point_flows_are_numbers relays in
    let split = ap (list_all is_line) (append_assoc (map Point picture.points) (map Relay picture.relays ++ map Link
    picture.links) (End ∷ []) ∙ ap (λ (ls : List Line). map Point picture.points ++ ls) (append_assoc (map Relay
    picture.relays) (map Link picture.links) (End ∷ []))) in
    let made : is_graph certificate.graph.points certificate.graph.relays certificate.graph.links ≡ true =
    and_from (are_points certificate.graph.points) _ certificate.graph.points_ascend
    (and_from (are_relays certificate.graph.relays) _ certificate.graph.relays_ascend
    (and_from (are_arcs certificate.graph.links) _ certificate.graph.links_ascend certificate.graph.links_are_valid)) in
    and_from (list_all is_line (lines_of picture)) (makes_graph picture)
    (and_from (is_number certificate.solved.value) _ certificate.value_is_number (split ∙ points))
    (ap (λ (ns : List Node). is_graph ns (map region_of picture.relays) (map arc_of picture.links)) (nodes_kept
    certificate.graph.points certificate.solved.flow.points certificate.solved.side.points certificate.point_flows
    certificate.halves)
    ∙ (ap (λ (rs : List ℕ). is_graph certificate.graph.points rs (map arc_of picture.links)) (regions_kept
    certificate.graph.relays certificate.solved.side.relays certificate.relay_answers)
    ∙ (ap (λ (ls : List Arc). is_graph certificate.graph.points certificate.graph.relays ls) (arcs_kept
    certificate.graph.links certificate.solved.flow.links certificate.link_flows) ∙ made)))
