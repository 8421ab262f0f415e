-- The outputs of a region at its leave pass beside those of the replay: of a region that it ran with the masks that they
-- have, of one that it skips, whose outputs wait there as 0, with every bit of their slots.
use Rattle.std.proofs.Common.{◌≡◌, ◌∙◌, ℕ, false, List, [], ◌∷◌, refl}
use Rattle.flow_base.specs.declared.points.Point.{Point}
use Rattle.flow_base.specs.Points.{nowhere}
use Rattle.flow_base.specs.Words.{bits_under, patched}
use Rattle.enclosure_regions.specs.declared.region_parts.Region.{Region}
use Rattle.rv32im_machine.specs.Folds.{real_end}
use Rattle.rv32im_machine.specs.State.{Setting, Control, Store}
use Rattle.rv32im_machine.specs.Language.{Ends, Held, walked, at_place, put, hold}
use Rattle.region_machine.specs.Guests.{output_point}
use Rattle.region_machine.specs.Runs.{passed}
use Rattle.replay_machine.specs.Runs.{mask_at, replayed}
use Rattle.lockstep_replay.specs.Crossing.{crossing}
use Rattle.run_labels.specs.TurnLabels.{TurnLabels, put_label}
use Rattle.shadow_masks.specs.Pages.{label_of}
use Rattle.acceptance_law.proofs.Outputs.{Output, output_place, output_slot, AreOutputs, given}
use Rattle.acceptance_law.proofs.RegionOutputsPass.{Waiting, beside_of}
use Rattle.acceptance_law.proofs.Turns.{feed_bits}
use Rattle.acceptance_law.proofs.WritesKeepRelation.{Beside, fresh_beside, put_kept}
use Rattle.masked_turns.specs.Answers.{EachCleared}
use Rattle.masked_turns.specs.Clearing.{Cutting, cleared_in, uncrossed}
use Rattle.masked_turns.specs.Deciding.{left_in}
use Rattle.masked_turns.specs.Looking.{looked_in}
use Rattle.masked_turns.proofs.OutsideMasks.{AreSmall, everything}
use Rattle.masked_turns.proofs.PassedOutputs.{output_mask_before, output_passed, own_passed}
use Rattle.taint_check.proofs.TurnsAgree.{IsClear, KeepsAgreed}

module _ (cutting : Cutting) (small : AreSmall cutting.masks) (setting : Setting) (secret other : List ℕ) (number : ℕ)
    (region : Region) where
  -- the outputs pass
  pub given_kept : (os : List Output) (control : Control) (labels : TurnLabels) (answers : List ℕ) (real : Store)
      (held : Held) (copy : Store) (taken : Held) (past : List Point) → AreOutputs setting.base os →
      Waiting everything region.id setting.base os labels real held copy taken →
      (cutting.skipped ≡ false → Beside everything setting.base labels real held copy taken) →
      IsClear number cutting past labels answers (walked setting secret (given region os (Ends control)) real held) →
      KeepsAgreed cutting setting other labels answers
      (walked setting secret (given region os (Ends control)) real held)
      (walked setting other (given region os (Ends control)) copy taken) copy past
  unfolding given walked replayed crossing passed real_end cleared_in left_in looked_in EachCleared
  given_kept [] control labels answers real held copy taken past are waiting own clear = record {
    store = copy;
    uses = refl;
    beside = fresh_beside everything setting.base labels real held copy taken
        (beside_of everything region.id setting.base labels real held copy taken waiting);
    kept = refl;
  }
  given_kept (o ∷ os) control labels answers real held copy taken past are waiting own clear =
      let place = output_place o in
      let point = output_point region (output_slot o) in
      let r = at_place setting.base real held place in
      let y = at_place setting.base copy taken place in
      let c = mask_at cutting.masks past point in
      let p = patched y c (bits_under r c) in
      let left = uncrossed (output_mask_before cutting labels o) c in
      let rest = given_kept os control (put_label place (label_of left nowhere) labels) answers
      (put setting.base place r real) (hold place r held) (put setting.base place p copy) (hold place p taken)
      (point ∷ past) are.1
      (output_passed cutting small setting region o os labels real held copy taken past are.0 waiting own)
      (own_passed cutting small setting region o os labels real held copy taken past are.0 waiting own)
      (record { sound = clear.sound.1; looks = clear.looks; left = clear.left }) in record {
        store = rest.store;
        uses = feed_bits r c
            (λ bits. replayed cutting.masks (point ∷ past) (walked setting other (given region os (Ends control))
            (put setting.base place (patched y c bits) copy) (hold place (patched y c bits) taken)))
            (crossing cutting.masks (point ∷ past) (walked setting secret (given region os (Ends control))
            (put setting.base place r real) (hold place r held)))
            ∙ rest.uses;
        beside = rest.beside;
        kept = rest.kept ∙ put_kept setting.base place p copy;
      }
