-- Lines follow each other as those of a certificate do, and only so.
use Rattle.std.proofs.Common.{◌≡◌, ℕ, true, List, [], ◌∷◌, ◌++◌, length, map}
use Rattle.std.proofs.Common.{Some, sym, ap, ◌∙◌, append_assoc, append-nil}
use Rattle.std.specs.List.{list_all}
use Rattle.std.specs.Ordering.{nat_cmp}
use Rattle.std.proofs.lemmas.Bool.{and_parts}
use Rattle.std.proofs.lemmas.List.{length-map}
use Rattle.flow_graph.specs.Graphs.{arc_cmp, are_arcs, are_points, are_relays, ascend, has_capacity, is_link}
use Rattle.flow_graph.specs.Graphs.{node_cmp}
use Rattle.flow_certificate.specs.declared.drafts.Stage.TheVariants as stages
use Rattle.flow_certificate.specs.declared.lines.Line.{Line}
use Rattle.flow_certificate.specs.declared.lines.Line.TheVariants.{Point, Relay, Link, End}
use Rattle.flow_certificate.specs.declared.lines.LinkLine.{LinkLine}
use Rattle.flow_certificate.specs.declared.lines.PointLine.{PointLine}
use Rattle.flow_certificate.specs.declared.lines.RelayLine.{RelayLine}
use Rattle.flow_certificate.specs.Certificates.{Picture, arc_of, lines_of, makes_graph, node_of, region_of}
use Rattle.flow_certificate.specs.Private.Drafts.{Sketch, blank}
use Rattle.flow_certificate.specs.Private.Drafts.{link_line_cmp, may_follow}
use Rattle.flow_certificate.specs.Private.Drafts.{point_line_cmp, step, steps}
use Rattle.flow_certificate.proofs.LastItems.{all_middle, ascend_middle, follow_map, map_over_both}

-- ---- each certificate is drafted

abbrev opened : ℕ → List PointLine → List RelayLine → List LinkLine → Sketch
opened value points relays links = record {
  stage = stages.Open;
  picture = record { value = value; points = points; relays = relays; links = links };
}

draft_points : (value : ℕ) (before points : List PointLine) (rest : List Line) →
    ascend node_cmp (map node_of (before ++ points)) ≡ true →
    steps (opened value before [] []) (map Point points ++ rest) ≡ steps (opened value (before ++ points) [] []) rest
unfolding step
draft_points value before [] rest up =
    ap (λ (ps : List PointLine). steps (opened value ps [] []) rest) (sym (append-nil before))
draft_points value before (line ∷ points) rest up =
    let may : may_follow point_line_cmp before line ≡ true = sym (follow_map node_of node_cmp before line)
    ∙ ascend_middle node_cmp (map node_of before) (map node_of points) (node_of line)
    (sym (ap (ascend node_cmp) (map_over_both node_of before (line ∷ points))) ∙ up) in
    let moved = append_assoc before (line ∷ []) points in
    let later = draft_points value (before ++ (line ∷ [])) points rest
    (ap (λ (ps : List PointLine). ascend node_cmp (map node_of ps)) moved ∙ up) in
    rw may (later ∙ ap (λ (ps : List PointLine). steps (opened value ps [] []) rest) moved)

draft_relays : (value : ℕ) (points : List PointLine) (before relays : List RelayLine) (rest : List Line) →
    ascend nat_cmp (map region_of (before ++ relays)) ≡ true →
    steps (opened value points before []) (map Relay relays ++ rest) ≡ steps (opened value points (before ++ relays) [])
    rest
unfolding step
draft_relays value points before [] rest up =
    ap (λ (rs : List RelayLine). steps (opened value points rs []) rest) (sym (append-nil before))
draft_relays value points before (line ∷ relays) rest up =
    let may : may_follow nat_cmp (map region_of before) line.region ≡ true =
    ascend_middle nat_cmp (map region_of before) (map region_of relays) (region_of line)
    (sym (ap (ascend nat_cmp) (map_over_both region_of before (line ∷ relays))) ∙ up) in
    let moved = append_assoc before (line ∷ []) relays in
    let later = draft_relays value points (before ++ (line ∷ [])) relays rest
    (ap (λ (rs : List RelayLine). ascend nat_cmp (map region_of rs)) moved ∙ up) in
    rw may (later ∙ ap (λ (rs : List RelayLine). steps (opened value points rs []) rest) moved)

draft_links : (value : ℕ) (points : List PointLine) (relays : List RelayLine) (before links : List LinkLine)
    (rest : List Line) → ascend arc_cmp (map arc_of (before ++ links)) ≡ true →
    list_all (is_link (length points) (map region_of relays)) (map arc_of (before ++ links)) ≡ true →
    steps (opened value points relays before) (map Link links ++ rest) ≡ steps (opened value points relays
    (before ++ links)) rest
unfolding step
draft_links value points relays before [] rest up all =
    ap (λ (ls : List LinkLine). steps (opened value points relays ls) rest) (sym (append-nil before))
draft_links value points relays before (line ∷ links) rest up all =
    let split = map_over_both arc_of before (line ∷ links) in
    let may : may_follow link_line_cmp before line ≡ true = sym (follow_map arc_of arc_cmp before line)
    ∙ ascend_middle arc_cmp (map arc_of before) (map arc_of links) (arc_of line) (sym (ap (ascend arc_cmp) split)
    ∙ up) in
    let joins : is_link (length points) (map region_of relays) line.link ≡ true =
    all_middle (is_link (length points) (map region_of relays)) (map arc_of before) (map arc_of links) line.link
    (sym (ap (list_all (is_link (length points) (map region_of relays))) split) ∙ all) in
    let moved = append_assoc before (line ∷ []) links in
    let later = draft_links value points relays (before ++ (line ∷ [])) links rest
    (ap (λ (ls : List LinkLine). ascend arc_cmp (map arc_of ls)) moved ∙ up)
    (ap (λ (ls : List LinkLine). list_all (is_link (length points) (map region_of relays)) (map arc_of ls)) moved
    ∙ all) in
    rw (may, joins) (later ∙ ap (λ (ls : List LinkLine). steps (opened value points relays ls) rest) moved)

-- the sketch of a whole certificate
abbrev pub whole : Picture → Sketch
whole picture = record { stage = stages.Whole; picture = picture }

pub drafted : (picture : Picture) → makes_graph picture ≡ true → steps blank (lines_of picture) ≡ Some (whole picture)
unfolding step
drafted picture made =
    let points = picture.points in
    let relays = picture.relays in
    let links = picture.links in
    let graph = and_parts (are_points (map node_of picture.points)) _ made in
    let up = and_parts (list_all has_capacity (map node_of picture.points)) (ascend node_cmp (map node_of
    picture.points)) graph.0 in
    let more = and_parts (are_relays (map region_of picture.relays)) _ graph.1 in
    let last = and_parts (are_arcs (map arc_of picture.links)) _ more.1 in
    let all : list_all (is_link (length picture.points) (map region_of picture.relays)) (map arc_of picture.links) ≡
    true = ap (λ (n : ℕ). list_all (is_link n (map region_of picture.relays)) (map arc_of picture.links))
    (sym (length-map picture.points node_of)) ∙ last.1 in
    let regroup : (map Point picture.points ++ (map Relay picture.relays ++ map Link picture.links)) ++ (End ∷ []) ≡
    map Point picture.points ++ (map Relay picture.relays ++ (map Link picture.links ++ (End ∷ []))) =
    append_assoc (map Point picture.points) (map Relay picture.relays ++ map Link picture.links) (End ∷ [])
    ∙ ap (λ (ls : List Line). map Point picture.points ++ ls) (append_assoc (map Relay picture.relays)
    (map Link picture.links) (End ∷ [])) in
    ap (steps (opened picture.value [] [] [])) regroup
    ∙ (draft_points picture.value [] picture.points (map Relay picture.relays ++ (map Link picture.links ++ (End ∷
    []))) up.1
    ∙ (draft_relays picture.value picture.points [] picture.relays (map Link picture.links ++ (End ∷ [])) more.0
    ∙ draft_links picture.value picture.points picture.relays [] picture.links (End ∷ []) last.0 all))
