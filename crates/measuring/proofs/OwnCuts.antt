-- A measured run is accepted with its own cut, within its own number of bits, which are at most eight for each byte of
-- its secret; and that cut is small, and its text short.
use Rattle.std.proofs.Common.{ℕ, ◌*◌, ◌≤◌, List, ◌∷◌, length, subst, sym, arith}
use Rattle.cut_file.proofs.Following.{cut_valid}
use Rattle.cut_file.specs.Pictures.{cut_picture}
use Rattle.elf32_loader.specs.Pictures.{Picture}
use Rattle.enclosure_regions.specs.declared.region_parts.Region.{Region}
use Rattle.lockstep_replay.specs.Acceptance.{Accept}
use Rattle.lockstep_replay.specs.Tasks.{task_of}
use Rattle.max_flow.specs.Flows.{side_capacity}
use Rattle.region_machine.specs.Starts.{guest}
use Rattle.run_labels.specs.Runs.{run_after, unlabelled}
use Rattle.acceptance_law.specs.MeasuredLaws.{AreInputs, IsWholeRun}
use Rattle.acceptance_law.specs.RunCuts.{IsCutOf}
use Rattle.acceptance_law.specs.RunLaws.{HasFewRuns}
use Rattle.acceptance_law.specs.Sides.{named_side}
use Rattle.acceptance_law.proofs.CoveredRuns.{covered_law}
use Rattle.acceptance_law.proofs.CutFolds.{folded_law}
use Rattle.acceptance_law.proofs.CutMeasured.{measured_law}
use Rattle.acceptance_law.proofs.FewRuns.{few_runs_law}
use Rattle.acceptance_law.proofs.SecretRuns.{secret_bits_law}
use Rattle.acceptance_law.proofs.SecretSides.{least_bits_law}
use Rattle.measuring.specs.declared.measured.Measured.{Measured}
use Rattle.measuring.specs.Accepting.{HasShortText, HasSmallCut, IsAcceptedByFolds, IsAcceptedByItsCut}
use Rattle.measuring.specs.Measures.{Measures}
use Rattle.measuring.proofs.ShortTexts.{fold_text, own_text}

module _ (table : ℕ) (program : Picture) (public_input : List ℕ) (regions : List Region) (secret : List ℕ) (turns : ℕ)
    (measured : Measured) (m : Measures table regions (unlabelled (guest program public_input secret)) (length secret)
    turns measured) where
  answers : List (List ℕ)
  answers = m.exits.last ∷ m.exits.earlier

  pub accepted : AreInputs program public_input regions secret →
      IsAcceptedByItsCut program public_input regions secret turns measured
  accepted inputs =
      let capacity = side_capacity measured.graph measured.side.points measured.side.relays in
      let whole : IsWholeRun program public_input regions secret (m.exits.last ∷ m.exits.earlier) measured.output =
      record {
        sound = m.exits.is_run.sound;
        unrefused = m.exits.is_run.unrefused;
        exits = record { bytes = m.exits.written; status = m.exits.exited };
      } in
      subst (λ budget. Accept (task_of program public_input regions (cut_picture measured.cut))
      (record { budget = budget; turns = turns }) secret measured.output) m.measure.capacity
      (measured_law covered_law program public_input regions secret (m.exits.last ∷ m.exits.earlier) measured.graph
      measured.side.points measured.side.relays (cut_picture measured.cut) turns measured.output inputs whole
      (omega (arith, m.exits.is_run.counted, m.exits.within)) m.measure.graph m.measure.side.side
      (subst (λ bits. IsCutOf (length secret) (run_after regions (m.exits.last ∷ m.exits.earlier) (unlabelled (guest program public_input secret))).events
      (named_side measured.graph measured.side.points measured.side.relays) bits (cut_picture measured.cut))
      (sym m.measure.capacity) m.measure.cut)
      (cut_valid measured.cut))

  pub folds : AreInputs program public_input regions secret →
      IsAcceptedByFolds program public_input regions secret turns measured
  folds inputs folded fold =
      let whole : IsWholeRun program public_input regions secret (m.exits.last ∷ m.exits.earlier) measured.output =
      record {
        sound = m.exits.is_run.sound;
        unrefused = m.exits.is_run.unrefused;
        exits = record { bytes = m.exits.written; status = m.exits.exited };
      } in
      subst (λ budget. Accept (task_of program public_input regions folded)
      (record { budget = budget; turns = turns }) secret measured.output) m.measure.capacity
      (folded_law covered_law program public_input regions secret (m.exits.last ∷ m.exits.earlier) measured.graph
      measured.side.points measured.side.relays (cut_picture measured.cut) folded turns measured.output inputs whole
      (omega (arith, m.exits.is_run.counted, m.exits.within)) m.measure.graph m.measure.side.side
      (subst (λ bits. IsCutOf (length secret) (run_after regions (m.exits.last ∷ m.exits.earlier) (unlabelled (guest program public_input secret))).events
      (named_side measured.graph measured.side.points measured.side.relays) bits (cut_picture measured.cut))
      (sym m.measure.capacity) m.measure.cut)
      (cut_valid measured.cut) fold)

  pub few : measured.value ≤ 8 * length secret
  few =
      let reads = secret_bits_law program public_input secret regions (m.exits.last ∷ m.exits.earlier)
      m.exits.is_run.unrefused in
      let least = least_bits_law (run_after regions (m.exits.last ∷ m.exits.earlier) (unlabelled (guest program public_input secret))).events
      measured.graph measured.side.points measured.side.relays m.measure.graph m.measure.side reads.sources in
      let bits = reads.bits in
      let capacity = m.measure.capacity in
      omega (arith, bits, least, capacity)

  pub small : HasSmallCut measured
  small =
      let start = unlabelled (guest program public_input secret) in
      let events = (run_after regions (m.exits.last ∷ m.exits.earlier) start).events in
      subst (λ bits. HasFewRuns bits (cut_picture measured.cut)) m.measure.capacity
      (few_runs_law (length secret) events measured.graph measured.side.points measured.side.relays
      (cut_picture measured.cut) m.measure.graph m.measure.side.side
      (subst (λ bits. IsCutOf (length secret) events (named_side measured.graph measured.side.points
      measured.side.relays) bits (cut_picture measured.cut)) (sym m.measure.capacity) m.measure.cut)
      (cut_valid measured.cut))

  pub short : length secret ≤ 65536 → HasShortText (cut_picture measured.cut)
  short within =
      let bits : measured.value ≤ 524288 = let most = few in omega (arith, most, within) in
      record {
        text = own_text measured.value (cut_picture measured.cut) (cut_valid measured.cut) m.measure.cut.version bits
            small;
        fold = λ folded own made. fold_text measured.value (cut_picture measured.cut) folded (cut_valid measured.cut)
            m.measure.cut.version bits small own made;
      }
