use Rattle.std.proofs.Common.{◌≡◌, ap, sym, subst, ◌∙◌}
use Rattle.max_flow.specs.Private.Networks.{IsFlow, IsSide, source_flow, capacity_of}
use Rattle.max_flow.specs.Private.Rooms.{HasSmallSide, IsLeast}
use Rattle.max_flow.specs.Private.Searching.{is_found}
use Rattle.max_flow.proofs.FewRelays.{same_capacity, small_has_side, whole_flow, whole_least, whole_side}
use Rattle.max_flow.proofs.SmallSides.{small_side}
use Rattle.max_flow.proofs.solving.answer_of.Goals as goal

pub solve_network-requires-clause-small : goal.solve_network-requires-clause-small
solve_network-requires-clause-small c = subst HasSmallSide (sym c.in_ok-network.ensures.net)
    (small_has_side c.args.graph.now (small_side c.args.graph.now c.requires))

pub returns-clause-count : goal.returns-clause-count
returns-clause-count c = c.in_ok-answer.ensures.count ∙ ap (λ n. n.nodes) c.in_ok-network.ensures.net

pub returns-clause-flow : goal.returns-clause-flow
returns-clause-flow c = whole_flow c.args.graph.now c.in_ok-answer.answer.flows.items
    (subst (λ n. IsFlow n c.in_ok-answer.answer.flows.items) c.in_ok-network.ensures.net c.in_ok-answer.ensures.flow)

pub returns-clause-value : goal.returns-clause-value
returns-clause-value c =
    subst (λ n. source_flow n c.in_ok-answer.answer.flows.items ≡ c.in_ok-answer.answer.value)
    c.in_ok-network.ensures.net c.in_ok-answer.ensures.value

pub returns-clause-side : goal.returns-clause-side
returns-clause-side c = whole_side c.args.graph.now (is_found c.in_ok-answer.answer.places.items)
    (subst (λ n. IsSide n (is_found c.in_ok-answer.answer.places.items)) c.in_ok-network.ensures.net
    c.in_ok-answer.ensures.side)

pub returns-clause-capacity : goal.returns-clause-capacity
returns-clause-capacity c =
    sym (same_capacity c.args.graph.now (is_found c.in_ok-answer.answer.places.items))
    ∙ subst (λ n. capacity_of n (is_found c.in_ok-answer.answer.places.items) ≡ c.in_ok-answer.answer.value)
    c.in_ok-network.ensures.net c.in_ok-answer.ensures.capacity

pub returns-clause-least : goal.returns-clause-least
returns-clause-least c = whole_least c.args.graph.now c.in_ok-answer.answer.value c.in_ok-answer.answer.places.items
    (c.in_ok-answer.ensures.count ∙ ap (λ n. n.nodes) c.in_ok-network.ensures.net)
    (subst (λ n. IsLeast n c.in_ok-answer.answer.value (is_found c.in_ok-answer.answer.places.items))
    c.in_ok-network.ensures.net c.in_ok-answer.ensures.least)
