-- Runs that are measured together are accepted with the one cut and with its fold, and its text is short.
use Rattle.std.proofs.Common.{◌≡◌, ◌∙◌, ℕ, ◌&&◌, ◌||◌, List, [], ◌∷◌, true, ap, inl, inr, refl, subst, sym, arith}
use Rattle.std.specs.List.{AllByRecursion, list_all}
use Rattle.cut_file.proofs.Following.{cut_valid}
use Rattle.cut_file.proofs.Periods.{fold_mask}
use Rattle.cut_file.specs.declared.points.CutPoint.{CutPoint}
use Rattle.cut_file.specs.Cuts.{CutPicture, has_slot}
use Rattle.cut_file.specs.Folds.{AreFolded, IsFold, IsFolded}
use Rattle.cut_file.specs.Pictures.{cut_picture}
use Rattle.flow_base.specs.declared.points.Point.{Point}
use Rattle.flow_base.specs.PointOrders.{is_same}
use Rattle.flow_base.specs.Points.{is_slot}
use Rattle.flow_graph.specs.declared.events.Event.{Event}
use Rattle.lockstep_replay.specs.Acceptance.{Accept}
use Rattle.lockstep_replay.specs.Tasks.{task_of}
use Rattle.region_machine.specs.Starts.{guest}
use Rattle.acceptance_law.specs.ClosedEvents.{AreProperEvents}
use Rattle.acceptance_law.specs.MeasuredLaws.{AreInputs, IsWholeRun}
use Rattle.acceptance_law.specs.RunCuts.{IsCutOf, names_point}
use Rattle.acceptance_law.specs.Sides.{named_side}
use Rattle.acceptance_law.proofs.CutMeasured.{valid_slots}
use Rattle.acceptance_law.proofs.CutVisits.{like_itself, mask_missing}
use Rattle.acceptance_law.proofs.ProperRuns.{proper_events_law}
use Rattle.acceptance_law.proofs.ProperStarts.{guest_start_law}
use Rattle.many_runs.specs.declared.many.Many.{Many}
use Rattle.many_runs.specs.Accepting.{AreAcceptedByFolds, AreAcceptedByTheCut, HasAccepted}
use Rattle.many_runs.specs.Measures.{AreRunsOn, HaveLength, MeasuresTogether, Setup, first_length}
use Rattle.many_runs.proofs.ManyCovered.{CutsAll, IsUsed, run-accepted}
use Rattle.many_runs.proofs.MasksOfRuns.{IsPartOf, parts_of}

-- ---- the fold of a cut may be used in its place

same_point : (cut_point folded : CutPoint) → IsFolded cut_point folded → folded.point ≡ cut_point.point
same_point cut_point folded (inl (count, least, same, none, rest)) = same
same_point cut_point folded (inr (none, same)) = ap (λ (p : CutPoint). p.point) same

folded_names : (points folded : List CutPoint) (point : Point) → AreFolded points folded →
    names_point folded point ≡ names_point points point
folded_names [] [] point are = refl
folded_names [] (first ∷ folded) point are = absurd are
folded_names (cut_point ∷ points) [] point are = absurd are
folded_names (cut_point ∷ points) (first ∷ folded) point are =
    ap (λ (p : Point). is_same p point || names_point folded point) (same_point cut_point first are.0)
    ∙ ap (λ b. is_same cut_point.point point || b) (folded_names points folded point are.1)

folded_slots : (points folded : List CutPoint) → AreFolded points folded →
    list_all has_slot folded ≡ list_all has_slot points
folded_slots [] [] are = refl
folded_slots [] (first ∷ folded) are = absurd are
folded_slots (cut_point ∷ points) [] are = absurd are
folded_slots (cut_point ∷ points) (first ∷ folded) are =
    ap (λ (p : Point). is_slot p.slot && list_all has_slot folded) (same_point cut_point first are.0)
    ∙ ap (λ b. is_slot cut_point.point.slot && b) (folded_slots points folded are.1)

fold_used : (cut folded : CutPicture) → IsFold cut folded → list_all has_slot cut.points ≡ true → IsUsed cut folded
fold_used cut folded fold slots = record {
  skip = fold.skip;
  length_is = fold.secret_len;
  like = record {
    within = λ point visit one few. fold_mask cut folded point visit fold one few;
    missing = λ point visit slot none.
        mask_missing folded.points point visit (folded_slots cut.points folded.points fold.points ∙ slots) slot
        (folded_names cut.points folded.points point fold.points ∙ none);
  };
}

-- ---- all runs

all_proper : (setup : Setup) (secrets : List (List ℕ)) (runs : List (List Event)) →
    AllByRecursion (AreInputs setup.program setup.public_input setup.regions) secrets →
    AreRunsOn setup secrets runs → AllByRecursion AreProperEvents runs
unfolding AreRunsOn
all_proper setup [] [] inputs are = tt
all_proper setup [] (events ∷ runs) inputs are = absurd are
all_proper setup (secret ∷ secrets) [] inputs are = absurd are
all_proper setup (secret ∷ secrets) (events ∷ runs) inputs are = (
  subst AreProperEvents (sym are.0.all)
      (proper_events_law setup.regions (are.0.exits.last ∷ are.0.exits.earlier)
      (guest setup.program setup.public_input secret) inputs.0.regions_valid
      (guest_start_law setup.program setup.public_input secret inputs.0.program_valid inputs.0.program_bytes
      inputs.0.public_bytes inputs.0.secret_bytes) are.0.exits.is_run.sound),
  all_proper setup secrets runs inputs.1 are.1,
)

module _ (setup : Setup) (all_secrets : List (List ℕ)) (many : Many) (m : MeasuresTogether setup all_secrets many)
    (inputs : AllByRecursion (AreInputs setup.program setup.public_input setup.regions) all_secrets) where
  cuts-all : CutsAll m.runs m.events many.graph many.side.points many.side.relays (first_length all_secrets)
      (cut_picture many.cut)
  cuts-all = record {
    united = m.united;
    graph_of = m.measure.graph;
    side_of = m.measure.side.side;
    cut_of = subst (λ bits. IsCutOf (first_length all_secrets) m.events (named_side many.graph many.side.points
        many.side.relays) bits (cut_picture many.cut)) (sym m.measure.capacity) m.measure.cut;
    slots = valid_slots (cut_picture many.cut) (cut_valid many.cut);
    proper = all_proper setup all_secrets m.runs inputs m.are_runs;
  }

  each-accepted : (used : CutPicture) → IsUsed (cut_picture many.cut) used → (secrets : List (List ℕ))
      (runs : List (List Event)) →
      AllByRecursion (AreInputs setup.program setup.public_input setup.regions) secrets →
      HaveLength (first_length all_secrets) secrets → AreRunsOn setup secrets runs →
      AllByRecursion (IsPartOf m.runs) runs →
      AllByRecursion (HasAccepted (task_of setup.program setup.public_input setup.regions used)
      (record { budget = many.value; turns = setup.limit })) secrets
  unfolding AreRunsOn
  each-accepted used is_used [] [] known alike are parts = tt
  each-accepted used is_used [] (events ∷ runs) known alike are parts = absurd are
  each-accepted used is_used (secret ∷ secrets) [] known alike are parts = absurd are
  each-accepted used is_used (secret ∷ secrets) (events ∷ runs) known alike are parts =
      let run = are.0 in
      let answers : List (List ℕ) = run.exits.last ∷ run.exits.earlier in
      let whole : IsWholeRun setup.program setup.public_input setup.regions secret
      (run.exits.last ∷ run.exits.earlier) run.output =
      record {
        sound = run.exits.is_run.sound;
        unrefused = run.exits.is_run.unrefused;
        exits = record { bytes = run.exits.written; status = run.exits.exited };
      } in
      let here = run-accepted m.runs m.events many.graph many.side.points many.side.relays (first_length all_secrets)
      (cut_picture many.cut) cuts-all used is_used setup.program setup.public_input setup.regions secret
      (run.exits.last ∷ run.exits.earlier) run.output setup.limit known.0 whole
      (omega (arith, run.exits.is_run.counted, run.exits.within)) alike.0
      (subst (IsPartOf m.runs) run.all parts.0) in (
        (
          run.output,
          subst (λ budget. Accept (task_of setup.program setup.public_input setup.regions used)
              (record { budget = budget; turns = setup.limit }) secret run.output) m.measure.capacity here,
        ),
        each-accepted used is_used secrets runs known.1 alike.1 are.1 parts.1,
      )

  pub accepted : AreAcceptedByTheCut setup.program setup.public_input setup.regions all_secrets setup.limit many
  accepted =
      each-accepted (cut_picture many.cut)
      (record {
        skip = refl;
        length_is = refl;
        like = like_itself many.cut.points (valid_slots (cut_picture many.cut) (cut_valid many.cut));
      })
      all_secrets m.runs inputs m.alike m.are_runs (parts_of m.runs)

  pub folds : AreAcceptedByFolds setup.program setup.public_input setup.regions all_secrets setup.limit many
  folds folded fold =
      each-accepted folded
      (fold_used (cut_picture many.cut) folded fold (valid_slots (cut_picture many.cut) (cut_valid many.cut)))
      all_secrets m.runs inputs m.alike m.are_runs (parts_of m.runs)
