-- The outputs of a region at its leave, which pass in the real run, in the replay and in the walk: of a region that was run
-- with the masks that they have, of one that is skipped, whose outputs wait there as 0, with every bit of their slots.
use Rattle.std.proofs.Common.{◌≡◌, ℕ, ◌+◌, inr, false, List, [], ◌∷◌, ◌++◌}
use Rattle.std.proofs.Common.{refl, sym, ap, subst, ◌∙◌, arith}
use Rattle.std.specs.Prelude.{bit_and}
use Rattle.flow_base.specs.declared.points.Point.{Point}
use Rattle.flow_base.specs.Points.{nowhere}
use Rattle.flow_base.specs.Words.{bit_count, bits_under, patched}
use Rattle.crossing_bits.proofs.Places.{length_bits_under}
use Rattle.crossing_bits.specs.Askers.{Asker, Asks, feed}
use Rattle.enclosure_regions.specs.declared.region_parts.Region.{Region}
use Rattle.rv32im_machine.specs.Folds.{real_end}
use Rattle.rv32im_machine.specs.State.{Setting, Control, Store}
use Rattle.rv32im_machine.specs.Language.{Ends, Held, walked, at_place, put, hold}
use Rattle.region_machine.specs.Guests.{output_point}
use Rattle.region_machine.specs.Runs.{passed}
use Rattle.replay_machine.specs.Runs.{ReplayPlace, mask_at, replayed}
use Rattle.lockstep_replay.specs.Crossing.{crossing}
use Rattle.lockstep_replay.specs.Verdicts.{counted_bits}
use Rattle.run_labels.specs.TurnLabels.{TurnLabels, put_label}
use Rattle.shadow_masks.specs.Pages.{label_of}
use Rattle.acceptance_law.proofs.Outputs.{Output, OfRegister, OfByte, output_place, output_slot, AreOutputs, given}
use Rattle.acceptance_law.proofs.RegionOutputsPass.{Waiting, beside_of}
use Rattle.acceptance_law.proofs.Turns.{feed_bits}
use Rattle.acceptance_law.proofs.WritesKeepRelation.{Beside, fresh_beside, put_kept}
use Rattle.acceptance_law.proofs.WritesKeepRelation.{put_label_kept}
use Rattle.masked_turns.specs.Clearing.{Cutting, uncrossed}
use Rattle.masked_turns.proofs.OutsideMasks.{AreSmall, everything}
use Rattle.masked_turns.proofs.PassedOutputs.{copy_word, output_mask_before, output_passed, outputs_agree, own_passed}
use Rattle.masked_turns.proofs.PassedOutputs.{real_word}
use Rattle.every_secret.specs.declared.shown.Shown.TheVariants.{Nothing}
use Rattle.every_secret.specs.Masked.{Reached, masked}
use Rattle.every_secret.specs.Rules.{Rules}
use Rattle.every_secret.specs.Shown.{asked_for, byte_masks_after, shown_at, status_mask_after}
use Rattle.every_secret.proofs.Alike.{seeing}
use Rattle.every_secret.proofs.Merging.{merged}
use Rattle.every_secret.proofs.WalkKeeps.{AlikeControl, Outcome, count_more, kept_of, knows, same_part, step}

-- an output of a region is not shown
nothing_shown : (o : Output) → shown_at (output_slot o) ≡ Nothing
nothing_shown (OfRegister register) = refl
nothing_shown (OfByte range address) = refl

module _ (rules : Rules) (cutting : Cutting) (small : AreSmall cutting.masks) (setting : Setting)
    (seen secret other : List ℕ) (number : ℕ) (region : Region) where
  abbrev sees : Setting
  sees = seeing setting seen

  -- the outputs pass
  pub given_walks : (os : List Output) (control shown : Control) (labels : TurnLabels) (crossed : ℕ) (masks : List ℕ)
      (mask : ℕ) (real : Store) (held : Held) (copy : Store) (taken : Held) (twin : Store) (lent : Held)
      (past : List Point) → AreOutputs setting.base os →
      Waiting everything region.id setting.base os labels real held copy taken →
      (cutting.skipped ≡ false → Beside everything setting.base labels real held copy taken) →
      Waiting everything region.id setting.base os labels real held twin lent →
      (cutting.skipped ≡ false → Beside everything setting.base labels real held twin lent) →
      AlikeControl masks mask control shown →
      Outcome setting sees other
      (masked rules cutting number (knows past labels crossed masks mask)
      (walked sees other (given region os (Ends shown)) copy taken)) crossed
      (real_end (walked setting secret (given region os (Ends control)) real held))
      (passed past (walked setting secret (given region os (Ends control)) real held))
      (crossing cutting.masks past (walked setting secret (given region os (Ends control)) real held))
      (replayed cutting.masks past (walked setting other (given region os (Ends control)) twin lent))
      (kept_of copy labels.map twin)
  unfolding given walked masked replayed crossing passed real_end
  given_walks [] control shown labels crossed masks mask real held copy taken twin lent past are waiting own also both alike =
      inr (record {
        chosen = [];
        place = record {
          state = record { setting = sees; secret = other; control = shown; store = copy };
          past = past;
          labels = labels.map;
          crossed = crossed;
          byte_masks = masks;
          status_mask = mask;
        };
        goes = λ more. refl;
        twin = twin;
        uses = refl;
        past_after = refl;
        count = ap (λ n. counted_bits n) (omega arith);
        setting_after = refl;
        secret_after = refl;
        control = alike;
        beside = fresh_beside everything setting.base labels real held copy taken
            (beside_of everything region.id setting.base labels real held copy taken waiting);
        also = fresh_beside everything setting.base labels real held twin lent
            (beside_of everything region.id setting.base labels real held twin lent also);
        kept = refl;
      })
  given_walks (o ∷ os) control shown labels crossed masks mask real held copy taken twin lent past are waiting own also
      both alike =
      let place = output_place o in
      let point = output_point region (output_slot o) in
      let r = at_place setting.base real held place in
      let y = at_place setting.base copy taken place in
      let z = at_place setting.base twin lent place in
      let cut = mask_at cutting.masks past point in
      let mask_before = output_mask_before cutting labels o in
      let open_bits = bit_and mask_before cut in
      let p = patched y cut (bits_under r cut) in
      let q = patched z cut (bits_under r cut) in
      let left = uncrossed mask_before cut in
      let after = put_label place (label_of left nowhere) labels in
      let count = counted_bits (crossed + bit_count cut) in
      let kept = kept_of copy labels.map twin in
      let goes : ℕ → Asker Reached = λ value.
      masked rules cutting number (knows (point ∷ past) after count masks mask)
      (walked sees other (given region os (Ends shown)) (put setting.base place value copy) (hold place value taken)) in
      let copied : ℕ → Asker ReplayPlace = λ value. replayed cutting.masks (point ∷ past)
      (walked setting other (given region os (Ends control)) (put setting.base place value twin)
      (hold place value lent)) in
      let next = walked setting secret (given region os (Ends control)) (put setting.base place r real)
      (hold place r held) in
      let end = real_end next in
      let points = passed (point ∷ past) next in
      let bits = crossing cutting.masks (point ∷ past) next in
      let replay = Asks (bit_count cut) (λ string. copied (patched z cut string)) in
      subst (λ is_shown. Outcome setting sees other (Asks (asked_for is_shown open_bits) (λ chosen.
      masked rules cutting number (knows (point ∷ past) after count (byte_masks_after is_shown open_bits masks)
      (status_mask_after is_shown open_bits mask))
      (walked sees other (given region os (Ends shown)) (put setting.base place (patched y open_bits chosen) copy)
      (hold place (patched y open_bits chosen) taken)))) crossed end points (bits_under r cut ++ bits) replay kept)
      (sym (nothing_shown o))
      (step setting sees other (Asks (bit_count open_bits) (λ chosen. goes (patched y open_bits chosen))) (goes p) count
      crossed end points bits replay (copied q)
      (kept_of (put setting.base place p copy) after.map (put setting.base place q twin)) kept (bits_under r open_bits)
      (bits_under r cut)
      (λ more. feed_bits r open_bits (λ chosen. goes (patched y open_bits chosen)) more
      ∙ ap (λ value. feed (goes value) more)
      (merged mask_before cut r y
      (real_word cutting small setting region o os labels real held copy taken past are.0 waiting own)
      (copy_word cutting small setting region o os labels real held copy taken past are.0 waiting own)
      (small point _)
      (outputs_agree cutting small setting region o os labels real held copy taken past are.0 waiting own)))
      (λ more. feed_bits r cut (λ string. copied (patched z cut string)) more)
      (λ n. count_more crossed (bit_count cut) n
      ∙ ap (λ k. counted_bits (crossed + (k + n))) (sym (length_bits_under r cut)))
      (same_part (put_kept setting.base place p copy) (put_label_kept place (label_of left nowhere) labels)
      (put_kept setting.base place q twin))
      (given_walks os control shown after count masks mask (put setting.base place r real) (hold place r held)
      (put setting.base place p copy) (hold place p taken) (put setting.base place q twin) (hold place q lent)
      (point ∷ past) are.1
      (output_passed cutting small setting region o os labels real held copy taken past are.0 waiting own)
      (own_passed cutting small setting region o os labels real held copy taken past are.0 waiting own)
      (output_passed cutting small setting region o os labels real held twin lent past are.0 also both)
      (own_passed cutting small setting region o os labels real held twin lent past are.0 also both) alike))
