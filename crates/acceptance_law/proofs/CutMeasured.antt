-- A measured run is accepted with its cut, since the cut covers it and no more bits cross than the side's capacity.
use Rattle.std.proofs.Common.{◌≡◌, ◌∷◌, ◌∙◌, [], true, List, length, sym, refl, nat_le}
use Rattle.std.specs.List.{list_all}
use Rattle.std.proofs.lemmas.Bool.{and_parts, and_from}
use Rattle.cut_file.specs.declared.points.CutPoint.{CutPoint}
use Rattle.cut_file.specs.Cuts.{CutPicture, is_cut_picture, is_version, is_word, are_regions, are_points_of, is_point_of}
use Rattle.cut_file.specs.Cuts.{is_cut_point, has_slot, neighbours_pass, stands_before}
use Rattle.cut_file.proofs.CutMasks.{slot_known}
use Rattle.max_flow.specs.Flows.{side_capacity}
use Rattle.acceptance_law.specs.Laws.{CoveredLaw, IsMeasuredRun}
use Rattle.acceptance_law.specs.MeasuredLaws.{MeasuredLaw, labelled_run}
use Rattle.region_machine.specs.Starts.{guest}
use Rattle.acceptance_law.specs.Sides.{named_side}
use Rattle.acceptance_law.proofs.CutRuns.{crossing_law}
use Rattle.acceptance_law.proofs.CutVisits.{cut_contains}
use Rattle.acceptance_law.proofs.GraphSides.{side_closed, side_outside}
use Rattle.acceptance_law.proofs.ProperRuns.{proper_events_law}
use Rattle.acceptance_law.proofs.ProperStarts.{guest_start_law}
use Rattle.acceptance_law.proofs.TurnKinds.{all_regions}
use Rattle.flow_base.specs.Listed.{is_listed}

-- ---- the points of a cut have slots

points_slots : (version : _) (points : List CutPoint) → list_all (is_point_of version) points ≡ true →
    list_all has_slot points ≡ true
points_slots version [] known = refl
points_slots version (first ∷ points) known =
    let both = and_parts (is_point_of version first) (list_all (is_point_of version) points) known in
    and_from (has_slot first) (list_all has_slot points)
    (slot_known first (and_parts (is_cut_point first) _ both.0).0) (points_slots version points both.1)

pub valid_slots : (cut : CutPicture) → is_cut_picture cut ≡ true → list_all has_slot cut.points ≡ true
valid_slots cut valid =
    let a = and_parts (is_version cut.version) _ valid in
    let b = and_parts (nat_le cut.secret_len 65536) _ a.1 in
    let c = and_parts (is_word cut.bits) _ b.1 in
    let d = and_parts (are_regions cut.skip) (are_points_of cut.version cut.points) c.1 in
    points_slots cut.version cut.points
    (and_parts (list_all (is_point_of cut.version) cut.points) (neighbours_pass stands_before cut.points) d.1).0

-- ---- the law

pub measured_law : CoveredLaw → MeasuredLaw
measured_law covered program public_input regions secret answers graph halves relays cut turns output inputs run enough
    is_graph is_side is_cut valid =
    let slots = valid_slots cut valid in
    let start = guest_start_law program public_input secret inputs.program_valid inputs.program_bytes
    inputs.public_bytes inputs.secret_bytes in
    let proper = proper_events_law regions answers (guest program public_input secret) inputs.regions_valid start
    run.sound in
    let events = (labelled_run program public_input regions secret answers).events in
    let measured : IsMeasuredRun regions answers (guest program public_input secret) output =
    record { guest = start; sound = run.sound; unrefused = run.unrefused; exits = run.exits } in
    covered program public_input regions secret cut (named_side graph halves relays) answers
    (side_capacity graph halves relays) turns output inputs.regions_valid measured enough (sym is_cut.length)
    (record {
      closed = side_closed events graph halves relays is_graph is_side;
      outside = is_cut.skip 0 ∙ side_outside events graph halves relays is_graph;
      skips = all_regions (λ n. is_listed cut.skip n ≡ (named_side graph halves relays).relay n) is_cut.skip regions;
      contains = cut_contains (named_side graph halves relays) cut (length secret)
          (side_capacity graph halves relays) events is_cut slots proper;
    })
    (crossing_law program public_input regions secret cut graph halves relays answers (length secret)
    (side_capacity graph halves relays) turns output inputs.regions_valid measured enough is_graph is_side is_cut slots)
