-- A certificate file is of one graph, one flow and one side, and its verdict has one status.
use Rattle.std.proofs.Common.{◌≡◌, ◌∙◌, ℕ, List, [], ◌∷◌, Bool, true, length, map, refl, sym, ap, arith}
use Rattle.std.proofs.lemmas.Bool.Decides.{nat_tests}
use Rattle.flow_graph.specs.declared.ends.Arc.{Arc}
use Rattle.flow_graph.specs.declared.graphs.Graph.{Graph}
use Rattle.flow_graph.specs.declared.nodes.Node.{Node}
use Rattle.flow_graph.proofs.SameGraphs.{same_graph}
use Rattle.max_flow.specs.declared.answers.Half.{Half}
use Rattle.max_flow.specs.declared.answers.Solved.{Solved}
use Rattle.flow_certificate.specs.Certificates.{Picture, arc_of, node_of, region_of}
use Rattle.flow_certificate.specs.Pictures.{flow_at_link, flow_at_point, half_at, have_counts, inside_at, link_lines, certificate_picture, point_lines, relay_lines}
use Rattle.flow_certificate.proofs.OneText.{texts_one}
use Rattle.flow_certificate.proofs.Written.{arcs_kept, nodes_kept, regions_kept}
use Rattle.command_tasks.specs.CertificateFiles.{IsCertificate}

-- ---- the parts of lines

flows_kept : (nodes : List Node) (flows : List ℕ) (halves : List Half) → length flows ≡ length nodes →
    length halves ≡ length nodes → map flow_at_point (point_lines nodes flows halves) ≡ flows
flows_kept [] [] halves first second = refl
flows_kept [] (flow ∷ flows) halves first second = absurd (omega (arith, first))
flows_kept (node ∷ nodes) [] halves first second = absurd (omega (arith, first))
flows_kept (node ∷ nodes) (flow ∷ flows) [] first second = absurd (omega (arith, second))
flows_kept (node ∷ nodes) (flow ∷ flows) (half ∷ halves) first second =
    ap (λ fs. flow ∷ fs) (flows_kept nodes flows halves (omega (arith, first)) (omega (arith, second)))

halves_kept : (nodes : List Node) (flows : List ℕ) (halves : List Half) → length flows ≡ length nodes →
    length halves ≡ length nodes → map half_at (point_lines nodes flows halves) ≡ halves
halves_kept [] flows [] first second = refl
halves_kept [] flows (half ∷ halves) first second = absurd (omega (arith, second))
halves_kept (node ∷ nodes) [] halves first second = absurd (omega (arith, first))
halves_kept (node ∷ nodes) (flow ∷ flows) [] first second = absurd (omega (arith, second))
halves_kept (node ∷ nodes) (flow ∷ flows) (half ∷ halves) first second =
    ap (λ hs. half ∷ hs) (halves_kept nodes flows halves (omega (arith, first)) (omega (arith, second)))

answers_kept : (regions : List ℕ) (answers : List Bool) → length answers ≡ length regions →
    map inside_at (relay_lines regions answers) ≡ answers
answers_kept [] [] same = refl
answers_kept [] (answer ∷ answers) same = absurd (omega (arith, same))
answers_kept (region ∷ regions) [] same = absurd (omega (arith, same))
answers_kept (region ∷ regions) (answer ∷ answers) same =
    ap (λ bs. answer ∷ bs) (answers_kept regions answers (omega (arith, same)))

carried_kept : (links : List Arc) (flows : List ℕ) → length flows ≡ length links →
    map flow_at_link (link_lines links flows) ≡ flows
carried_kept [] [] same = refl
carried_kept [] (flow ∷ flows) same = absurd (omega (arith, same))
carried_kept (link ∷ links) [] same = absurd (omega (arith, same))
carried_kept (link ∷ links) (flow ∷ flows) same =
    ap (λ fs. flow ∷ fs) (carried_kept links flows (omega (arith, same)))

-- ---- what a picture is of

record AreAsMany (graph : Graph) (solved : Solved) : Type 0 where
  flows : length solved.flow.points ≡ length graph.points
  links : length solved.flow.links ≡ length graph.links
  halves : length solved.side.points ≡ length graph.points
  relays : length solved.side.relays ≡ length graph.relays

as_many : (graph : Graph) (solved : Solved) → have_counts graph solved ≡ true → AreAsMany graph solved
as_many graph solved counts = record {
  flows = grind (arith, nat_tests, counts);
  links = grind (arith, nat_tests, counts);
  halves = grind (arith, nat_tests, counts);
  relays = grind (arith, nat_tests, counts);
}

abbrev solved_in : Picture → Solved
solved_in picture = record {
  value = picture.value;
  flow = record { points = map flow_at_point picture.points; links = map flow_at_link picture.links };
  side = record { points = map half_at picture.points; relays = map inside_at picture.relays };
}

-- ---- a flow and a side are what their lists are

made_solved : ℕ → List ℕ → List ℕ → List Half → List Bool → Solved
made_solved value points links halves relays = record {
  value = value;
  flow = record { points = points; links = links };
  side = record { points = halves; relays = relays };
}

solved_kept : (graph : Graph) (solved : Solved) → AreAsMany graph solved → solved_in (certificate_picture graph solved) ≡ solved
unfolding made_solved
solved_kept graph solved many =
    let lines = point_lines graph.points solved.flow.points solved.side.points in
    let relays = relay_lines graph.relays solved.side.relays in
    let links = link_lines graph.links solved.flow.links in
    ap (λ v. made_solved solved.value v (map flow_at_link links) (map half_at lines) (map inside_at relays))
    (flows_kept graph.points solved.flow.points solved.side.points many.flows many.halves)
    ∙ (ap (λ v. made_solved solved.value solved.flow.points v (map half_at lines) (map inside_at relays))
    (carried_kept graph.links solved.flow.links many.links)
    ∙ (ap (λ v. made_solved solved.value solved.flow.points solved.flow.links v (map inside_at relays))
    (halves_kept graph.points solved.flow.points solved.side.points many.flows many.halves)
    ∙ ap (λ v. made_solved solved.value solved.flow.points solved.flow.links solved.side.points v)
    (answers_kept graph.relays solved.side.relays many.relays)))

-- ---- one certificate

pub record SameCertificate (graph other : Graph) (solved another : Solved) : Type 0 where
  pub graphs : graph ≡ other
  pub solutions : solved ≡ another

pub one_certificate : (file : List ℕ) (graph other : Graph) (solved another : Solved) →
    IsCertificate file graph solved → IsCertificate file other another → SameCertificate graph other solved another
one_certificate file graph other solved another one second =
    let same : certificate_picture graph solved ≡ certificate_picture other another = texts_one file (certificate_picture graph solved)
    (certificate_picture other another) one.text second.text in
    let many = as_many graph solved one.counts in
    let also = as_many other another second.counts in
    let points = sym (nodes_kept graph.points solved.flow.points solved.side.points many.flows many.halves)
    ∙ (ap (λ p. map node_of p.points) same
    ∙ nodes_kept other.points another.flow.points another.side.points also.flows also.halves) in
    let relays = sym (regions_kept graph.relays solved.side.relays many.relays)
    ∙ (ap (λ p. map region_of p.relays) same ∙ regions_kept other.relays another.side.relays also.relays) in
    let links = sym (arcs_kept graph.links solved.flow.links many.links)
    ∙ (ap (λ p. map arc_of p.links) same ∙ arcs_kept other.links another.flow.links also.links) in
    record {
      graphs = same_graph graph other points relays links;
      solutions = sym (solved_kept graph solved many) ∙ (ap solved_in same ∙ solved_kept other another also);
    }
