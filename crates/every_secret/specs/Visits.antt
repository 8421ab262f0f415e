-- One visit of a masked replay. A mask tells which bits of the replay's own value may differ in the run of another secret
-- that has come the same way. Of the bits that cross, those outside the mask are the replay's own; those of the mask are
-- chosen: the string says them. But where they are shown they are free, and are put as 0.
use Rattle.std.specs.Prelude.{ℕ, ◌+◌, List, ◌∷◌, bit_and}
use Rattle.flow_base.specs.declared.points.Point.{Point}
use Rattle.flow_base.specs.Words.{bit_count}
use Rattle.rv32im_machine.specs.declared.language.Passing.{Passing}
use Rattle.run_labels.specs.Masks.{masks_of}
use Rattle.run_labels.specs.TurnLabels.{TurnLabels}
use Rattle.lockstep_replay.specs.Verdicts.{counted_bits}
use Rattle.masked_turns.specs.Clearing.{Cutting, crossing_at, labels_left, left_mask, passing_mask}
use Rattle.every_secret.specs.Rules.{Rules, answer_to}
use Rattle.every_secret.specs.Shown.{byte_masks_after, shown_at, status_mask_after}

-- what a walk knows within a turn: the points passed so far, the latest first; the masks; how many bits have crossed,
-- 4,294,967,295 standing for that number and all greater ones; and the free bits of what was shown
pub record Knowledge : Type 0 where
  pub past : List Point
  pub labels : TurnLabels
  pub crossed : ℕ
  pub byte_masks : List ℕ
  pub status_mask : ℕ

module _ (rules : Rules) (cutting : Cutting) (known : Knowledge) (passing : Passing) where
  abbrev pub answer_at : ℕ
  answer_at = answer_to rules passing.work (masks_of known.labels passing.sources)

  -- the bits that cross and may differ
  abbrev pub differing_at : ℕ
  differing_at =
      bit_and (passing_mask cutting.skipped known.labels answer_at passing) (crossing_at cutting known.past passing)

  -- what is left of the mask
  abbrev pub left_of_mask : ℕ
  left_of_mask = left_mask cutting.skipped (crossing_at cutting known.past passing) known.labels answer_at passing

  abbrev pub known_after : Knowledge
  known_after = record {
    past = passing.point ∷ known.past;
    labels = labels_left cutting.skipped (crossing_at cutting known.past passing) known.labels answer_at passing;
    crossed = counted_bits (known.crossed + bit_count (crossing_at cutting known.past passing));
    byte_masks = byte_masks_after (shown_at passing.point.slot) differing_at known.byte_masks;
    status_mask = status_mask_after (shown_at passing.point.slot) differing_at known.status_mask;
  }
