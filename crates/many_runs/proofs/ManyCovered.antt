-- Each of the runs is accepted with the cut of all, and with its fold.
use Rattle.std.proofs.Common.{◌≡◌, ℕ, suc, ◌+◌, ◌≤◌, ◌<◌, ◌++◌, ◌∷◌, [], cond, not, Bool, true, false, List, length, get_or}
use Rattle.std.proofs.Common.{refl, sym, ap, ◌∙◌, subst, arith, append_assoc, length-append}
use Rattle.std.specs.Int.{bit_at}
use Rattle.std.specs.List.{AllByRecursion, list_all}
use Rattle.std.proofs.lemmas.Bool.{and_from}
use Rattle.cut_file.specs.Cuts.{CutPicture, has_slot}
use Rattle.cut_file.specs.Masks.{MaskAt}
use Rattle.elf32_loader.specs.Pictures.{Picture}
use Rattle.enclosure_regions.specs.declared.region_parts.Region.{Region}
use Rattle.flow_base.specs.declared.outputs.Output.{Output}
use Rattle.flow_base.specs.declared.points.Point.{Point}
use Rattle.flow_graph.specs.declared.events.Event.{Event}
use Rattle.flow_graph.specs.declared.events.Event.TheVariants.{Pass, Link, FromSecret, Implicit, Out}
use Rattle.flow_graph.specs.declared.graphs.Graph.{Graph}
use Rattle.flow_graph.specs.EventGraphs.{IsGraphOf, named_links}
use Rattle.lockstep_replay.specs.Acceptance.{Accept}
use Rattle.lockstep_replay.specs.Crossing.{cross_after}
use Rattle.lockstep_replay.specs.Tasks.{task_of}
use Rattle.lockstep_replay.proofs.Stillness.{cross_later}
use Rattle.max_flow.specs.declared.answers.Half.{Half}
use Rattle.max_flow.specs.Flows.{IsSideOf, side_capacity}
use Rattle.region_machine.specs.Enclosures.{Enclosures}
use Rattle.region_machine.specs.Runs.{Real}
use Rattle.region_machine.specs.Starts.{guest}
use Rattle.region_machine.proofs.Stillness.{IsOver}
use Rattle.replay_machine.specs.Runs.{Masks}
use Rattle.rv32im_machine.specs.declared.stepping.Stepped.{Stepped}
use Rattle.rv32im_machine.specs.declared.stepping.Stepped.TheVariants.{Ran, Exited, Stopped}
use Rattle.acceptance_law.specs.ClosedEvents.{AreProperEvents, IsClosedFor, IsClosedLink, IsProperEvent}
use Rattle.acceptance_law.specs.Covers.{AreContained, IsContained, IsMaskWithin, past_after}
use Rattle.acceptance_law.specs.Laws.{IsMeasuredRun}
use Rattle.acceptance_law.specs.MeasuredLaws.{AreInputs, IsWholeRun, labelled_run}
use Rattle.acceptance_law.specs.RunCuts.{IsCutOf, is_inner, visit_masks}
use Rattle.acceptance_law.specs.Sides.{NamedSide, is_split, named_side}
use Rattle.acceptance_law.proofs.CoveredRuns.{covered_law}
use Rattle.acceptance_law.proofs.CutVisits.{Counts, IsLike, counts_more, visit_masks_append}
use Rattle.acceptance_law.proofs.GraphEvents.{same_itself}
use Rattle.acceptance_law.proofs.GraphSides.{side_closed, side_outside}
use Rattle.many_runs.specs.Uniting.{IsUnited, joined_masks}
use Rattle.acceptance_law.proofs.ProperRuns.{proper_events_law}
use Rattle.acceptance_law.proofs.ProperStarts.{guest_start_law}
use Rattle.acceptance_law.proofs.TurnKinds.{all_regions}
use Rattle.many_runs.proofs.MasksOfRuns.{IsPartOf, joined_fits}
use Rattle.many_runs.proofs.PastBits.{cross_bits}
use Rattle.many_runs.proofs.RunPasts.{runs_beside}
use Rattle.many_runs.proofs.SameLinks.{each_among, of_among}
use Rattle.many_runs.proofs.UnitedCuts.{Cuts, bits-within, exact-at}
use Rattle.flow_base.specs.Listed.{is_listed}

-- ---- one run

module _ (runs : List (List Event)) (united_events : List Event) (united : IsUnited runs united_events) (graph : Graph)
    (halves : List Half) (relays : List Bool) (secret_len capacity : ℕ) (cut : CutPicture) (masks : Masks)
    (cuts : Cuts united_events graph halves relays secret_len capacity cut masks) (events : List Event)
    (part : IsPartOf runs events) where
  side : NamedSide
  side = named_side graph halves relays

  closed : IsClosedFor (named_side graph halves relays) (named_links events)
  closed =
      each_among (IsClosedLink (named_side graph halves relays)) (named_links events)
      (λ link among. of_among (IsClosedLink (named_side graph halves relays)) (named_links united_events) link
      (side_closed united_events graph halves relays cuts.graph_of cuts.side_of)
      (united.links link ∙ part.links link among))

  -- the mask of the run at a visit of a split point
  visit-within : (point : Point) (n : ℕ) → is_split (named_side graph halves relays) point ≡ true →
      is_inner cut.skip point ≡ false → n < length (visit_masks point events) →
      IsMaskWithin (get_or (visit_masks point events) n 0) (masks point (suc n))
  visit-within point n split inner below i none =
      let same = united.masks point in
      let count : length (visit_masks point united_events) ≡ length (joined_masks point runs) = ap length same in
      let few = (part.masks point).few in
      (part.masks point).within n below i
      (ap (λ list. bit_at (get_or list n 0) i) (sym same)
      ∙ (ap (λ m. bit_at m i) (sym (exact-at united_events graph halves relays secret_len capacity cut masks cuts point n
      (cuts.cut_of.points point ∙ and_from _ _ split (ap not inner)) (omega (arith, count, few, below))))
      ∙ none))

  get-here : (list more : List ℕ) (mask : ℕ) → get_or (list ++ (mask ∷ more)) (length list) 0 ≡ mask
  get-here [] more mask = refl
  get-here (first ∷ list) more mask = get-here list more mask

  contained-from : (seen rest : List Event) (past : List Point) → events ≡ seen ++ rest → AreProperEvents rest →
      Counts past seen → AreContained (named_side graph halves relays) cut.skip masks past rest
  unfolding AreContained visit_masks
  contained-from seen [] past are proper counts = tt
  contained-from seen (event ∷ rest) past are proper counts = (
    contained-event event are proper.0,
    contained-from (seen ++ event ∷ []) rest (past_after event past)
        (are ∙ sym (append_assoc seen (event ∷ []) rest)) proper.1 (counts_more past seen event proper.0 counts),
  )
    where
      here : (point : Point) (mask : ℕ) → visit_masks point (Pass point mask ∷ rest) ≡ mask ∷ visit_masks point rest
      here point mask = ap (λ b. cond b (mask ∷ []) [] ++ visit_masks point rest) (same_itself point)

      contained-event : (event : Event) → events ≡ seen ++ (event ∷ rest) → IsProperEvent event →
          IsContained (named_side graph halves relays) cut.skip masks past event
      contained-event (Pass point mask) are proper =
          λ split inner i none.
          let visits : visit_masks point events ≡ visit_masks point seen ++ (mask ∷ visit_masks point rest) =
          ap (λ es. visit_masks point es) are
          ∙ (visit_masks_append point seen (Pass point mask ∷ rest)
          ∙ ap (λ list. visit_masks point seen ++ list) (here point mask)) in
          let count : length (visit_masks point events)
          ≡ length (visit_masks point seen) + suc (length (visit_masks point rest)) =
          ap length visits ∙ length-append (visit_masks point seen) (mask ∷ visit_masks point rest) in
          let at : get_or (visit_masks point events) (length (visit_masks point seen)) 0 ≡ mask =
          ap (λ list. get_or list (length (visit_masks point seen)) 0) visits
          ∙ get-here (visit_masks point seen) (visit_masks point rest) mask in
          ap (λ m. bit_at m i) (sym at)
          ∙ visit-within point (length (visit_masks point seen)) split inner (omega (arith, count)) i
          (ap (λ n. bit_at (masks point (suc n)) i) (sym (counts point proper.1)) ∙ none)
      contained-event (Link source target) are proper = tt
      contained-event (FromSecret point) are proper = tt
      contained-event (Implicit point region) are proper = tt
      contained-event (Out region point) are proper = tt

  no_counts : Counts [] []
  unfolding visit_masks
  no_counts = λ point slot. refl

  pub contained : AreProperEvents events → AreContained (named_side graph halves relays) cut.skip masks [] events
  contained proper = contained-from [] events [] refl proper no_counts

  pub run-closed : IsClosedFor (named_side graph halves relays) (named_links events)
  run-closed = closed

-- ---- the law

over : (mode : Stepped) (status : ℕ) → mode ≡ Exited status → IsOver mode
over Ran status e = absurd (cc)
over (Exited other) status e = tt
over (Stopped fault) status e = tt

-- a cut with the length and the skipped regions of the cut of all runs, whose masks are that cut's wherever it lists them
pub record IsUsed (cut used : CutPicture) : Type 0 where
  pub skip : used.skip ≡ cut.skip
  pub length_is : used.secret_len ≡ cut.secret_len
  pub like : IsLike cut.points (MaskAt used.points)

-- what is so of the cut of all runs
pub record CutsAll (runs : List (List Event)) (events : List Event) (graph : Graph) (halves : List Half)
    (relays : List Bool) (secret_len : ℕ) (cut : CutPicture) : Type 0 where
  pub united : IsUnited runs events
  pub graph_of : IsGraphOf events graph
  pub side_of : IsSideOf graph halves relays
  pub cut_of : IsCutOf secret_len events (named_side graph halves relays) (side_capacity graph halves relays) cut
  pub slots : list_all has_slot cut.points ≡ true
  pub proper : AllByRecursion AreProperEvents runs

module _ (runs : List (List Event)) (united_events : List Event) (graph : Graph) (halves : List Half)
    (relays : List Bool) (secret_len : ℕ) (cut : CutPicture)
    (all : CutsAll runs united_events graph halves relays secret_len cut) where
  as-cuts : (used : CutPicture) → IsUsed cut used →
      Cuts united_events graph halves relays secret_len (side_capacity graph halves relays) cut (MaskAt used.points)
  as-cuts used is_used = record {
    graph_of = all.graph_of;
    side_of = all.side_of;
    cut_of = all.cut_of;
    slots = all.slots;
    like = is_used.like;
    fits = λ point n below.
        let same = all.united.masks point in
        let count : length (visit_masks point united_events) ≡ length (joined_masks point runs) = ap length same in
        let fits = joined_fits point runs n all.proper (omega (arith, below, count)) in
        let at : get_or (visit_masks point united_events) n 0 ≡ get_or (joined_masks point runs) n 0 =
        ap (λ list. get_or list n 0) same in
        omega (arith, fits, at);
  }

  pub run-accepted : (used : CutPicture) → IsUsed cut used → (program : Picture) (public_input : List ℕ)
      (regions : List Region) (secret : List ℕ) (answers : List (List ℕ)) (output : Output) (turns : ℕ) →
      AreInputs program public_input regions secret → IsWholeRun program public_input regions secret answers output →
      length answers ≤ turns → length secret ≡ secret_len →
      IsPartOf runs (labelled_run program public_input regions secret answers).events →
      Accept (task_of program public_input regions used)
      (record { budget = side_capacity graph halves relays; turns = turns }) secret output
  run-accepted used is_used program public_input regions secret answers output turns inputs run enough long part =
      let side = named_side graph halves relays in
      let cuts = as-cuts used is_used in
      let place = guest program public_input secret in
      let events = (labelled_run program public_input regions secret answers).events in
      let start = guest_start_law program public_input secret inputs.program_valid inputs.program_bytes
      inputs.public_bytes inputs.secret_bytes in
      let proper = proper_events_law regions answers place inputs.regions_valid start run.sound in
      let measured : IsMeasuredRun regions answers place output =
      record { guest = start; sound = run.sound; unrefused = run.unrefused; exits = run.exits } in
      let enclosures : Enclosures = record { regions = regions; skip = cut.skip } in
      let beside = runs_beside regions cut.skip answers place refl refl run.unrefused proper in
      let ended = over _ output.status (ap (λ s. s.control.mode) beside.state ∙ run.exits.status) in
      let same : cross_after enclosures (MaskAt used.points) turns place
      ≡ cross_after enclosures (MaskAt used.points) (length answers) place =
      cross_later enclosures (MaskAt used.points) place (length answers) turns enough ended in
      let count = ap length same in
      let bits = cross_bits enclosures (MaskAt used.points) (length answers) place refl in
      let within = bits-within united_events graph halves relays secret_len (side_capacity graph halves relays) cut
      (MaskAt used.points) cuts (Real enclosures (length answers) place).past beside.within.slots
      (λ point named.
      let masks : length (visit_masks point united_events) ≡ length (joined_masks point runs) =
      ap length (all.united.masks point) in
      let few = beside.within.few point in
      let most = (part.masks point).few in
      omega (arith, masks, few, most)) in
      let skip : (region : ℕ) → is_listed used.skip region ≡ side.relay region =
      λ region. ap (λ skip. is_listed skip region) is_used.skip ∙ all.cut_of.skip region in
      covered_law program public_input regions secret used side answers (side_capacity graph halves relays) turns output
      inputs.regions_valid measured enough (long ∙ sym (is_used.length_is ∙ all.cut_of.length))
      (record {
        closed = run-closed runs united_events all.united graph halves relays secret_len
            (side_capacity graph halves relays) cut (MaskAt used.points) cuts events part;
        outside = skip 0 ∙ side_outside united_events graph halves relays all.graph_of;
        skips = all_regions (λ n. is_listed used.skip n ≡ side.relay n) skip regions;
        contains = subst (λ (skip : List ℕ). AreContained side skip (MaskAt used.points) [] events) (sym is_used.skip)
            (contained runs united_events all.united graph halves relays secret_len (side_capacity graph halves relays)
            cut (MaskAt used.points) cuts events part proper);
      })
      (subst (λ (skip : List ℕ). length (cross_after (record { regions = regions; skip = skip }) (MaskAt used.points)
      turns place) ≤ side_capacity graph halves relays) (sym is_used.skip) (omega (arith, count, bits, within)))
