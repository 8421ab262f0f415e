-- An output of a region passes at its leave beside that of a replay: of a region that was run with the mask that it
-- has, of one that is skipped, whose outputs wait there as 0, with every bit of its slot.
use Rattle.std.proofs.Common.{◌≡◌, ℕ, ◌≤◌, ◌<◌, ◌^◌, Bool, true, false, List, ◌∷◌, refl, sym, subst, ◌∙◌, arith}
use Rattle.std.proofs.lemmas.Nat.{and_le_l}
use Rattle.flow_base.specs.declared.points.Point.{Point}
use Rattle.flow_base.specs.Points.{width_of, nowhere}
use Rattle.flow_base.specs.Words.{Agree, bits_under, patched}
use Rattle.enclosure_regions.specs.declared.region_parts.Region.{Region}
use Rattle.rv32im_machine.specs.State.{Setting, Store}
use Rattle.rv32im_machine.specs.Language.{Held, at_place, put, hold}
use Rattle.region_machine.specs.Guests.{output_point}
use Rattle.replay_machine.specs.Runs.{mask_at}
use Rattle.run_labels.specs.TurnLabels.{TurnLabels, label_at, put_label}
use Rattle.shadow_masks.specs.Pages.{label_of}
use Rattle.transfer_rules.specs.Table1.{flipped}
use Rattle.acceptance_law.specs.Inputs.{place_limit}
use Rattle.acceptance_law.proofs.AgreeOutsideMask.{patched_uncrossed}
use Rattle.acceptance_law.proofs.Outputs.{Output, output_place, output_slot, IsOutput, waits_put}
use Rattle.acceptance_law.proofs.Passings.{patched_slot, slot_agree, slot_word}
use Rattle.acceptance_law.proofs.RegionOutputsPass.{Waiting, is_place, output_width}
use Rattle.acceptance_law.proofs.Turns.{label_of_limit}
use Rattle.acceptance_law.proofs.WritesKeepRelation.{Beside, put_beside, put_limits, put_label_limits}
use Rattle.acceptance_law.proofs.WritesKeepRelation.{put_memory, put_registers}
use Rattle.masked_turns.specs.Clearing.{Cutting, output_mask, uncrossed}
use Rattle.masked_turns.proofs.OutsideMasks.{AreSmall, close_of, everything}

-- the mask of an output before it passes
abbrev pub output_mask_before : Cutting → TurnLabels → Output → ℕ
output_mask_before cutting labels o =
    output_mask cutting.skipped (output_slot o) (label_at labels (output_place o)).mask

module _ (cutting : Cutting) (small : AreSmall cutting.masks) (setting : Setting) (region : Region) (o : Output)
    (os : List Output) (labels : TurnLabels) (real : Store) (held : Held) (copy : Store) (taken : Held)
    (past : List Point) (is : IsOutput setting.base o)
    (waiting : Waiting everything region.id setting.base (o ∷ os) labels real held copy taken)
    (own : cutting.skipped ≡ false → Beside everything setting.base labels real held copy taken) where
  abbrev real_output : ℕ
  real_output = at_place setting.base real held (output_place o)

  abbrev copy_output : ℕ
  copy_output = at_place setting.base copy taken (output_place o)

  abbrev cut_output : ℕ
  cut_output = mask_at cutting.masks past (output_point region (output_slot o))

  abbrev whole_mask : ℕ
  whole_mask = output_mask_before cutting labels o

  abbrev output_left : ℕ
  output_left = uncrossed whole_mask cut_output

  abbrev passed_output : ℕ
  passed_output = patched copy_output cut_output (bits_under real_output cut_output)

  real_fits : real_output ≤ width_of (output_slot o)
  real_fits = subst (λ w. real_output ≤ w) (sym (output_width o)) (waiting.real_limits (output_place o))

  copy_fits : copy_output ≤ width_of (output_slot o)
  copy_fits = subst (λ w. copy_output ≤ w) (sym (output_width o)) (waiting.copy_limits (output_place o))

  pub real_word : real_output < 2 ^ 32
  real_word = slot_word (output_slot o) real_output real_fits

  pub copy_word : copy_output < 2 ^ 32
  copy_word = slot_word (output_slot o) copy_output copy_fits

  pub outputs_agree : Agree whole_mask real_output copy_output
  outputs_agree = pick cutting.skipped own
    where
      pick : (t : Bool) → (t ≡ false → Beside everything setting.base labels real held copy taken) →
          Agree (output_mask t (output_slot o) (label_at labels (output_place o)).mask) real_output copy_output
      pick true h = slot_agree (output_slot o) real_output copy_output real_fits copy_fits
      pick false h = ((h refl).places (output_place o) (is_place setting.base o is)).0

  whole_fits : whole_mask ≤ place_limit (output_place o)
  whole_fits = pick cutting.skipped
    where
      pick : (t : Bool) →
          output_mask t (output_slot o) (label_at labels (output_place o)).mask ≤ place_limit (output_place o)
      pick true = subst (λ w. width_of (output_slot o) ≤ w) (output_width o) (omega arith)
      pick false = waiting.label_limits (output_place o)

  left_agrees : Agree output_left real_output passed_output
  left_agrees = patched_uncrossed whole_mask cut_output real_output copy_output real_word (small _ _) outputs_agree

  left_fits : output_left ≤ place_limit (output_place o)
  left_fits =
      let less : output_left ≤ whole_mask = and_le_l whole_mask (flipped cut_output) in
      let whole = whole_fits in omega (arith, less, whole)

  passed_fits : passed_output ≤ place_limit (output_place o)
  passed_fits =
      subst (λ w. passed_output ≤ w) (output_width o)
      (patched_slot (output_slot o) cut_output real_output copy_output real_fits copy_fits)

  label_fits : (label_of output_left nowhere).mask ≤ place_limit (output_place o)
  label_fits = label_of_limit output_left nowhere (place_limit (output_place o)) left_fits

  pub output_passed : Waiting everything region.id setting.base os
      (put_label (output_place o) (label_of output_left nowhere) labels)
      (put setting.base (output_place o) real_output real) (hold (output_place o) real_output held)
      (put setting.base (output_place o) passed_output copy) (hold (output_place o) passed_output taken)
  output_passed = record {
    places = λ q iq. waits_put everything region.id setting.base o os (label_of output_left nowhere) real_output
        passed_output labels real held copy taken is (close_of output_left real_output passed_output left_agrees)
        waiting.registers waiting.memory q iq (waiting.places q iq);
    registers = put_registers setting.base (output_place o) real_output real ∙ waiting.registers
        ∙ sym (put_registers setting.base (output_place o) passed_output copy);
    memory = put_memory setting.base (output_place o) real_output real ∙ waiting.memory
        ∙ sym (put_memory setting.base (output_place o) passed_output copy);
    real_limits = λ q. put_limits setting.base (output_place o) real_output real held
        (waiting.real_limits (output_place o)) q (waiting.real_limits q);
    copy_limits = λ q. put_limits setting.base (output_place o) passed_output copy taken passed_fits q
        (waiting.copy_limits q);
    label_limits = λ q. put_label_limits (output_place o) (label_of output_left nowhere) labels label_fits q
        (waiting.label_limits q);
  }

  pub own_passed : cutting.skipped ≡ false → Beside everything setting.base
      (put_label (output_place o) (label_of output_left nowhere) labels)
      (put setting.base (output_place o) real_output real) (hold (output_place o) real_output held)
      (put setting.base (output_place o) passed_output copy) (hold (output_place o) passed_output taken)
  own_passed run =
      put_beside everything setting.base (output_place o) (label_of output_left nowhere) real_output passed_output
      labels real held copy taken (is_place setting.base o is) (close_of output_left real_output passed_output left_agrees)
      (waiting.real_limits (output_place o)) passed_fits label_fits (own run)
