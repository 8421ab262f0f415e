-- A measured run is accepted with the fold of its cut.
use Rattle.std.proofs.Common.{◌≡◌, ◌∙◌, ◌≤◌, ◌||◌, ◌&&◌, ℕ, List, [], ◌∷◌, true, ap, inl, inr, length, refl, subst, sym}
use Rattle.std.specs.List.{list_all}
use Rattle.flow_base.specs.declared.points.Point.{Point}
use Rattle.flow_base.specs.Points.{is_slot}
use Rattle.cut_file.specs.declared.points.CutPoint.{CutPoint}
use Rattle.cut_file.specs.Cuts.{CutPicture, has_slot}
use Rattle.cut_file.specs.Folds.{AreFolded, IsFold, IsFolded}
use Rattle.cut_file.specs.Masks.{MaskAt}
use Rattle.cut_file.proofs.Periods.{fold_mask}
use Rattle.flow_base.specs.PointOrders.{is_same}
use Rattle.lockstep_replay.specs.Crossing.{cross_after}
use Rattle.max_flow.specs.Flows.{side_capacity}
use Rattle.region_machine.specs.Starts.{guest}
use Rattle.acceptance_law.specs.Covers.{AreContained}
use Rattle.acceptance_law.specs.FoldLaws.{FoldedLaw}
use Rattle.acceptance_law.specs.Laws.{CoveredLaw, IsMeasuredRun}
use Rattle.acceptance_law.specs.MeasuredLaws.{labelled_run}
use Rattle.acceptance_law.specs.RunCuts.{names_point}
use Rattle.acceptance_law.specs.Sides.{named_side}
use Rattle.acceptance_law.proofs.CutMeasured.{valid_slots}
use Rattle.acceptance_law.proofs.CutRuns.{crossing_by}
use Rattle.acceptance_law.proofs.CutVisits.{IsLike, like_contains, mask_missing}
use Rattle.acceptance_law.proofs.GraphSides.{side_closed, side_outside}
use Rattle.acceptance_law.proofs.ProperRuns.{proper_events_law}
use Rattle.acceptance_law.proofs.ProperStarts.{guest_start_law}
use Rattle.acceptance_law.proofs.TurnKinds.{all_regions}
use Rattle.flow_base.specs.Listed.{is_listed}

-- ---- a fold has the points of its cut

same_point : (cut_point folded : CutPoint) → IsFolded cut_point folded → folded.point ≡ cut_point.point
same_point cut_point folded (inl (count, least, same, none, rest)) = same
same_point cut_point folded (inr (none, same)) = ap (λ (p : CutPoint). p.point) same

folded_names : (points folded : List CutPoint) (point : Point) → AreFolded points folded →
    names_point folded point ≡ names_point points point
folded_names [] [] point are = refl
folded_names [] (first ∷ folded) point are = absurd are
folded_names (cut_point ∷ points) [] point are = absurd are
folded_names (cut_point ∷ points) (first ∷ folded) point are =
    ap (λ (p : Point). is_same p point || names_point folded point) (same_point cut_point first are.0)
    ∙ ap (λ b. is_same cut_point.point point || b) (folded_names points folded point are.1)

folded_slots : (points folded : List CutPoint) → AreFolded points folded →
    list_all has_slot folded ≡ list_all has_slot points
folded_slots [] [] are = refl
folded_slots [] (first ∷ folded) are = absurd are
folded_slots (cut_point ∷ points) [] are = absurd are
folded_slots (cut_point ∷ points) (first ∷ folded) are =
    ap (λ (p : Point). is_slot p.slot && list_all has_slot folded) (same_point cut_point first are.0)
    ∙ ap (λ b. is_slot cut_point.point.slot && b) (folded_slots points folded are.1)

fold_like : (cut folded : CutPicture) → IsFold cut folded → list_all has_slot cut.points ≡ true →
    IsLike cut.points (MaskAt folded.points)
fold_like cut folded fold slots = record {
  within = λ point visit one few. fold_mask cut folded point visit fold one few;
  missing = λ point visit slot none.
      mask_missing folded.points point visit (folded_slots cut.points folded.points fold.points ∙ slots) slot
      (folded_names cut.points folded.points point fold.points ∙ none);
}

-- ---- the law

pub folded_law : CoveredLaw → FoldedLaw
folded_law covered program public_input regions secret answers graph halves relays cut folded turns output inputs run
    enough is_graph is_side is_cut valid fold =
    let slots = valid_slots cut valid in
    let like = fold_like cut folded fold slots in
    let start = guest_start_law program public_input secret inputs.program_valid inputs.program_bytes
    inputs.public_bytes inputs.secret_bytes in
    let proper = proper_events_law regions answers (guest program public_input secret) inputs.regions_valid start
    run.sound in
    let events = (labelled_run program public_input regions secret answers).events in
    let side = named_side graph halves relays in
    let skip : (region : ℕ) → is_listed folded.skip region ≡ side.relay region =
    λ region. ap (λ skip. is_listed skip region) fold.skip ∙ is_cut.skip region in
    let measured : IsMeasuredRun regions answers (guest program public_input secret) output =
    record { guest = start; sound = run.sound; unrefused = run.unrefused; exits = run.exits } in
    covered program public_input regions secret folded side answers (side_capacity graph halves relays) turns output
    inputs.regions_valid measured enough (sym (fold.secret_len ∙ is_cut.length))
    (record {
      closed = side_closed events graph halves relays is_graph is_side;
      outside = skip 0 ∙ side_outside events graph halves relays is_graph;
      skips = all_regions (λ n. is_listed folded.skip n ≡ side.relay n) skip regions;
      contains = subst (λ (skip : List ℕ). AreContained side skip (MaskAt folded.points) [] events) (sym fold.skip)
          (like_contains side cut (length secret) (side_capacity graph halves relays) (MaskAt folded.points) like events
          is_cut slots proper);
    })
    (subst (λ (skip : List ℕ). length (cross_after (record { regions = regions; skip = skip }) (MaskAt folded.points)
    turns (guest program public_input secret)) ≤ side_capacity graph halves relays) (sym fold.skip)
    (crossing_by program public_input regions secret cut (MaskAt folded.points) graph halves relays answers
    (length secret) (side_capacity graph halves relays) turns output inputs.regions_valid measured enough is_graph
    is_side is_cut slots like))
