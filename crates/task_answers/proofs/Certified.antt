-- A measured run has a certificate: its numbers are below 2^48, and its slots are known.
use Rattle.std.proofs.Common.{◌≡◌, ℕ, ◌<◌, ◌≤◌, ◌^◌, ◌&&◌, true, List, [], ◌∷◌, length, refl, arith, suc}
use Rattle.std.specs.List.{list_all}
use Rattle.std.proofs.lemmas.Bool.{and_from, and_parts, eq-eqb, lt-ltb}
use Rattle.cut_file.proofs.Following.{is_so}
use Rattle.flow_certificate.specs.Keeping.{has_name, is_number}
use Rattle.flow_certificate.specs.Pictures.{have_counts, have_names}
use Rattle.flow_graph.specs.declared.nodes.Node.{Node}
use Rattle.max_flow.specs.Flows.{AreAtMost, is_small}
use Rattle.measuring.specs.declared.measured.Measured.{Measured}
use Rattle.measuring.specs.Measured.{has_slot}
use Rattle.command_tasks.specs.Tasks.{RunTask}
use Rattle.task_answers.specs.Runs.{IsMeasured}
use Rattle.task_answers.specs.Tellings.{solved_of}

are_numbers : (most : ℕ) (numbers : List ℕ) → most < 2 ^ 48 → AreAtMost most numbers → list_all is_number numbers ≡ true
are_numbers most [] small all = refl
are_numbers most (number ∷ numbers) small all =
    and_from _ _ (lt-ltb number (2 ^ 48) (let first = all 0 in omega (arith, first, small)))
    (are_numbers most numbers small (λ i. all (suc i)))

have_nodes : (nodes : List Node) → list_all is_small nodes ≡ true → list_all has_slot nodes ≡ true →
    list_all has_name nodes ≡ true
have_nodes [] small known = refl
have_nodes (node ∷ nodes) small known =
    let first = and_parts (is_small node) (list_all is_small nodes) small in
    let slots = and_parts (has_slot node) (list_all has_slot nodes) known in
    and_from _ _ (and_from _ _ first.0 slots.0) (have_nodes nodes first.1 slots.1)

pub certified : (run : RunTask) (measured : Measured) → IsMeasured run measured → length run.secret ≤ 65536 →
    (have_counts measured.graph (solved_of measured) && have_names measured.graph (solved_of measured)) ≡ true
certified run measured is short =
    let m = is.measures.measure in
    let value : measured.value < 2 ^ 48 = let few = is.few in omega (arith, few, short) in
    let counts : have_counts measured.graph (solved_of measured) ≡ true =
    and_from _ _ (lt-ltb (length measured.graph.points) (2 ^ 32) (let few = measured.few_points in omega (arith, few)))
    (and_from _ _ (eq-eqb _ _ m.flow.points_count) (and_from _ _ (eq-eqb _ _ m.flow.links_count)
    (and_from _ _ (eq-eqb _ _ m.side.side.points_count) (eq-eqb _ _ m.side.side.relays_count)))) in
    let names : have_names measured.graph (solved_of measured) ≡ true =
    and_from _ _ (lt-ltb measured.value (2 ^ 48) value)
    (and_from _ _ (have_nodes measured.graph.points (is_so _ measured.small) (is_so _ measured.slots))
    (and_from _ _ (are_numbers measured.value measured.flow.points value m.points_most)
    (are_numbers measured.value measured.flow.links value m.links_most))) in
    and_from _ _ counts names
