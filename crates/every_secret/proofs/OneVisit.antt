-- One visit, as it is made, is that of the definition.
use Rattle.std.proofs.Common.{◌≡◌, ℕ, ◌+◌, ◌≤◌, List, ◌∷◌, ap, ap₂, ◌∙◌, refl, subst, sym, drop, take, arith}
use Rattle.std.specs.Prelude.{bit_and}
use Rattle.std.proofs.lemmas.Nat.{and_le_l, and_le_r}
use Rattle.flow_base.specs.declared.points.Point.{Point}
use Rattle.flow_base.specs.declared.points.Slot.{Slot}
use Rattle.flow_base.specs.declared.points.Slot.TheVariants.{First, Second, Address, Result, Decision, Number}
use Rattle.flow_base.specs.declared.points.Slot.TheVariants.{Arg0, Arg1, Arg2, SecretIn, ByteOut, Status, OutReg, OutRange}
use Rattle.flow_base.specs.Points.{width_of, nowhere}
use Rattle.flow_base.specs.Words.{bit_count, patched}
use Rattle.rv32im_machine.specs.declared.language.Passing.{Passing}
use Rattle.replay_machine.proofs.PatchesKeepWidth.{patched_width}
use Rattle.shadow_masks.specs.Pages.{label_of}
use Rattle.run_labels.specs.Masks.{masks_of}
use Rattle.run_labels.specs.TurnLabels.{TurnLabels, aim_label}
use Rattle.lockstep_replay.specs.Verdicts.{counted_bits}
use Rattle.masked_turns.specs.Clearing.{Cutting, crossing_at, passing_mask, uncrossed}
use Rattle.masked_turns.specs.Deciding.{left_at}
use Rattle.every_secret.specs.declared.shown.Shown.{Shown}
use Rattle.every_secret.specs.Masked.{unclear_by_left}
use Rattle.every_secret.specs.Rules.{Rules, answer_to}
use Rattle.every_secret.specs.Shown.{asked_for, byte_masks_after, shown_at, status_mask_after}
use Rattle.every_secret.specs.Private.Tapes.{Takes, Tape, knowledge_of}
use Rattle.every_secret.specs.Private.Visited.{FitsShown, IsVisited}
use Rattle.every_secret.specs.Visits.{Knowledge, differing_at, known_after, left_of_mask}

-- what goes on keeps the width of its slot
pub put_width : (passing : Passing) (mask crossing value : ℕ) (bits : _) → passing.value ≤ width_of passing.point.slot →
    crossing ≤ width_of passing.point.slot → value ≡ patched passing.value (bit_and mask crossing) bits →
    value ≤ width_of passing.point.slot
put_width passing mask crossing value bits fits small is =
    let less : bit_and mask crossing ≤ crossing = and_le_r mask crossing in
    subst (λ v. v ≤ width_of passing.point.slot) (sym is)
    (patched_width passing.point.slot passing.value (bit_and mask crossing) bits fits (omega (arith, less, small)))

-- what is shown passes a slot of 8 bits
pub fits_shown : (slot : Slot) (mask crossing : ℕ) → (width_of slot ≡ 255 → mask ≤ 255) →
    FitsShown (shown_at slot) (bit_and mask crossing)
fits_shown ByteOut mask crossing byte = omega (arith, byte refl, and_le_l mask crossing)
fits_shown Status mask crossing byte = omega (arith, byte refl, and_le_l mask crossing)
fits_shown First mask crossing byte = tt
fits_shown Second mask crossing byte = tt
fits_shown Address mask crossing byte = tt
fits_shown Result mask crossing byte = tt
fits_shown Decision mask crossing byte = tt
fits_shown Number mask crossing byte = tt
fits_shown Arg0 mask crossing byte = tt
fits_shown Arg1 mask crossing byte = tt
fits_shown Arg2 mask crossing byte = tt
fits_shown SecretIn mask crossing byte = tt
fits_shown (OutReg register) mask crossing byte = tt
fits_shown (OutRange range) mask crossing byte = tt

module _ (rules : Rules) (cutting : Cutting) (past : List Point) (old : TurnLabels) (before : Tape) (passing : Passing)
    (value : ℕ) (new : TurnLabels) (after : Tape) where
  abbrev known : Knowledge
  known = knowledge_of past old before

  pub visited : (mask crossing left : ℕ) (shown : Shown) →
      mask ≡ passing_mask cutting.skipped old (answer_to rules passing.work (masks_of old passing.sources)) passing →
      crossing ≡ crossing_at cutting past passing → left ≡ uncrossed mask crossing →
      new ≡ aim_label passing.aim (label_of left nowhere) old →
      after.crossed ≡ counted_bits (before.crossed + bit_count crossing) → shown ≡ shown_at passing.point.slot →
      after.byte_masks ≡ byte_masks_after shown (bit_and mask crossing) before.byte_masks →
      after.status_mask ≡ status_mask_after shown (bit_and mask crossing) before.status_mask →
      Takes (asked_for shown (bit_and mask crossing)) before.stream after.stream →
      value ≡ patched passing.value (bit_and mask crossing)
      (take (asked_for shown (bit_and mask crossing)) (drop before.stream.taken after.stream.bits)) →
      after.unclear ≡ unclear_by_left (left_at passing.aim passing.point left) →
      IsVisited rules cutting past old before passing value new after
  visited mask crossing left shown mask_is crossing_is left_is new_is crossed_is shown_is bytes_are status_is takes
      value_is unclear_is =
      let differing_is : bit_and mask crossing ≡ differing_at rules cutting known passing =
      ap₂ (λ m c. bit_and m c) mask_is crossing_is in
      let rest_is : left ≡ left_of_mask rules cutting known passing =
      left_is ∙ ap₂ (λ m c. uncrossed m c) mask_is crossing_is in
      let labels : new ≡ (known_after rules cutting known passing).labels =
      new_is ∙ ap (λ l. aim_label passing.aim (label_of l nowhere) old) rest_is in
      let crossed : after.crossed ≡ (known_after rules cutting known passing).crossed =
      crossed_is ∙ ap (λ c. counted_bits (before.crossed + bit_count c)) crossing_is in
      let bytes : after.byte_masks ≡ (known_after rules cutting known passing).byte_masks =
      bytes_are ∙ ap₂ (λ s d. byte_masks_after s d before.byte_masks) shown_is differing_is in
      let status : after.status_mask ≡ (known_after rules cutting known passing).status_mask =
      status_is ∙ ap₂ (λ s d. status_mask_after s d before.status_mask) shown_is differing_is in record {
        known = λ i. record {
          past = passing.point ∷ past;
          labels = labels i;
          crossed = crossed i;
          byte_masks = bytes i;
          status_mask = status i;
        };
        takes = subst (λ n. Takes n before.stream after.stream) (ap₂ (λ s d. asked_for s d) shown_is differing_is) takes;
        value_is = value_is ∙ ap₂ (λ s d. patched passing.value d
            (take (asked_for s d) (drop before.stream.taken after.stream.bits))) shown_is differing_is;
        unclear = unclear_is ∙ ap (λ l. unclear_by_left (left_at passing.aim passing.point l)) rest_is;
      }
