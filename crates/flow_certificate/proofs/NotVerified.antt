-- A certificate with a fault does not show a maximum flow.
use Rattle.std.proofs.Common.{◌≡◌, ℕ, ◌≤◌, ◌<◌, ◌==◌, not, true, false, length, slice_index, sym, ap, ◌∙◌, arith}
use Rattle.std.proofs.lemmas.Bool.{eq-eqb, ltb-true}
use Rattle.flow_graph.specs.declared.graphs.Graph.{Graph}
use Rattle.max_flow.specs.declared.answers.Solved.{Solved}
use Rattle.max_flow.specs.Flows.{capacities}
use Rattle.flow_certificate.specs.declared.verdicts.CertFault.{CertFault}
use Rattle.flow_certificate.specs.declared.verdicts.CertFault.TheVariants.{Over, Unbalanced, OpenAcross, Values}
use Rattle.flow_certificate.specs.declared.verdicts.Member.{Member}
use Rattle.flow_certificate.specs.declared.verdicts.Member.TheVariants.{In, Out, Relay}
use Rattle.flow_certificate.specs.Verdicts.{IsFirstFlowFault, IsVerified, is_across, is_node_of, is_unbalanced}
use Rattle.flow_certificate.proofs.OneVerdict.{none_has}

no_difference : (a b : ℕ) → a ≡ b → not (a == b) ≡ false
no_difference a b same = ap not (eq-eqb a b same)

balanced : (graph : Graph) (solved : Solved) (value : ℕ) → IsVerified graph solved value → (node : Member) →
    is_node_of (length graph.points) node ≡ true → is_unbalanced graph solved node ≡ false
balanced graph solved value verified (In point) known =
    no_difference _ _ (verified.flow.into_points point (ltb-true point (length graph.points) known))
balanced graph solved value verified (Out point) known =
    no_difference _ _ (sym (verified.flow.out_of_points point (ltb-true point (length graph.points) known)))
balanced graph solved value verified (Relay region) known =
    no_difference _ _ (verified.flow.through_relays region)

pub not_verified : (graph : Graph) (solved : Solved) (value : ℕ) (fault : CertFault) →
    IsFirstFlowFault graph solved fault → IsVerified graph solved value → ⊥
not_verified graph solved value (Over point) is verified =
    let within : slice_index solved.flow.points point ≤ slice_index (capacities graph) point =
    verified.flow.within point is.below in
    let over : slice_index (capacities graph) point < slice_index solved.flow.points point =
    ltb-true (slice_index (capacities graph) point) (slice_index solved.flow.points point) is.passes in
    omega (arith, within, over)
not_verified graph solved value (Unbalanced node) is verified =
    let fails = balanced graph solved value verified node is.first.known in
    let passes = is.first.unbalanced in
    absurd cc
not_verified graph solved value (OpenAcross link) is verified =
    let fails = none_has (is_across graph solved) graph.links is.first.index link verified.side.closed is.first.is in
    let passes = is.first.across in
    absurd cc
not_verified graph solved value (Values named flow cut) is verified =
    is.differ (is.value_is ∙ (sym verified.named ∙ (sym verified.flow_value ∙ sym is.flow_is)))
    (is.value_is ∙ (sym verified.named ∙ (sym verified.capacity ∙ sym is.cut_is)))
