use Rattle.std.proofs.Common.{◌≡◌, ap, ◌∙◌}
use Rattle.std.proofs.lemmas.Bool.{and_from}
use Rattle.std.specs.Prelude.{nat_lt}
use Rattle.cut_file.proofs.Following.{is_true}
use Rattle.cut_file.specs.Cuts.{neighbours_pass}
use Rattle.measuring.specs.CutRuns.{points_of}
use Rattle.measuring.specs.Splits.{skipped, split_points}
use Rattle.measuring.proofs.RunCut.{nodes_up, relays_up}
use Rattle.measuring.proofs.Splits.{cut_ascends, skipped_ascend}
use Rattle.measuring.proofs.cutting.cut_of.Goals as goal

pub invariant_of-result-clause-skips : goal.invariant_of-result-clause-skips
invariant_of-result-clause-skips c =
    let same : c.in_ok-skip.skip ≡ skipped c.args.graph.now.relays c.args.side.now.relays =
    c.in_ok-skip.ensures.skip ∙ (ap (λ relays. skipped relays c.as_slice-2.result.now) c.as_slice.ensures
    ∙ ap (skipped c.args.graph.now.relays) c.as_slice-2.ensures) in
    is_true _ (and_from _ _ c.in_ok-skip.ensures.valid (ap (neighbours_pass nat_lt) same
    ∙ skipped_ascend c.args.graph.now.relays c.args.side.now.relays (relays_up c.args.graph.now)))

pub invariant_of-result-clause-crosses : goal.invariant_of-result-clause-crosses
invariant_of-result-clause-crosses c =
    let same : points_of c.in_ok-points.points ≡ split_points c.in_ok-skip.skip c.args.graph.now.points
    c.args.side.now.points =
    c.in_ok-points.ensures.points ∙ (c.as_slice-6.ensures ∙ (c.in_ok-split.ensures
    ∙ (ap (λ skip. split_points skip c.as_slice-4.result.now c.as_slice-5.result.now) c.as_slice-3.ensures
    ∙ (ap (λ nodes. split_points c.in_ok-skip.skip nodes c.as_slice-5.result.now) c.as_slice-4.ensures
    ∙ ap (split_points c.in_ok-skip.skip c.args.graph.now.points) c.as_slice-5.ensures)))) in
    is_true _ (and_from _ _ c.in_ok-points.ensures.valid (cut_ascends c.in_ok-skip.skip c.args.graph.now.points
    c.args.side.now.points c.in_ok-points.points (nodes_up c.args.graph.now) same c.in_ok-points.ensures.valid))
