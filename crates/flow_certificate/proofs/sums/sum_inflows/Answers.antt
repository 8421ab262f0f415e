use Rattle.std.proofs.Common.{◌≡◌, ℕ, ◌∙◌, length, sym, subst, arith}
use Rattle.std.proofs.lemmas.List.{length-map}
use Rattle.max_flow.specs.Private.GraphNetworks.{halves_from}
use Rattle.max_flow.proofs.Graphs.{length_halves}
use Rattle.flow_certificate.specs.Private.Sums.{AreAdded, brought, heads_of}
use Rattle.flow_certificate.proofs.SmallNumbers.{all_small}
use Rattle.flow_certificate.proofs.Blocks.{room_after, sums_whole}
use Rattle.flow_certificate.proofs.sums.sum_inflows.Goals as goal

pub add_targets-requires-clause-room : goal.add_targets-requires-clause-room
add_targets-requires-clause-room c =
    let t = c.args.certificate.now in
    room_after c.args.base (halves_from 3 (length t.solved.flow.points)) t.solved.flow.points
    (length t.solved.flow.points) c.args.sums.now c.add_points.new.sums c.requires
    (let few = t.has_few_points in let same = t.point_flows in omega (arith, few, same))
    (all_small t.solved.flow.points t.point_flows_are_numbers) (rw c.as_slice.ensures at c.add_points.ensures)

pub returns-clause-sums : goal.returns-clause-sums
returns-clause-sums c =
    let t = c.args.certificate.now in
    let count : length t.solved.flow.points ≡ length t.graph.points = t.point_flows in
    let halves = halves_from 3 (length t.graph.points) in
    let points : AreAdded c.args.base (brought (halves_from 3 (length t.graph.points)) t.solved.flow.points
    (length (halves_from 3 (length t.graph.points)))) c.args.sums.now c.add_points.new.sums =
    subst (λ (n : ℕ). AreAdded c.args.base (brought (halves_from 3 (length t.graph.points)) t.solved.flow.points n)
    c.args.sums.now c.add_points.new.sums) (sym (length_halves 3 (length t.graph.points)))
    (subst (λ (n : ℕ). AreAdded c.args.base (brought (halves_from 3 n) t.solved.flow.points n) c.args.sums.now
    c.add_points.new.sums) count (rw c.as_slice.ensures at c.add_points.ensures)) in
    let links : AreAdded c.args.base (brought (heads_of (length t.graph.points) t.graph.links) t.solved.flow.links
    (length (heads_of (length t.graph.points) t.graph.links))) c.add_points.new.sums c.add_targets.new.sums =
    subst (λ (n : ℕ). AreAdded c.args.base (brought (heads_of (length t.graph.points) t.graph.links) t.solved.flow.links
    n) c.add_points.new.sums c.add_targets.new.sums) (sym (length-map t.graph.links _))
    (rw (c.as_slice-2.ensures, c.as_slice-3.ensures, c.len-count.ensures) at c.add_targets.ensures) in
    sums_whole c.args.base (halves_from 3 (length t.graph.points)) (heads_of (length t.graph.points) t.graph.links)
    t.solved.flow.points t.solved.flow.links c.args.sums.now c.add_points.new.sums c.add_targets.new.sums
    (length_halves 3 (length t.graph.points) ∙ sym count) c.requires points links
