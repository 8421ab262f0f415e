-- The turns of a masked replay: an instruction, the entry or the leave of a region, or its skip.
use Rattle.std.specs.Prelude.{ℕ, ◌==◌, Bool, false, List, [], ◌∷◌, Option, Some, None, if◌then◌else◌}
use Rattle.crossing_bits.specs.Askers.{Asker, Over}
use Rattle.enclosure_regions.specs.declared.region_parts.Range.{Range}
use Rattle.region_machine.specs.Enclosures.{Enclosures, Kind, Enters, Leaves, Steps, is_skipped, kind_of}
use Rattle.replay_machine.specs.ReplayTurns.{Outside, kind_outside_range, replay_kind_walk}
use Rattle.shadow_masks.specs.Writes.{LabelMap}
use Rattle.run_labels.specs.Runs.{entered_number}
use Rattle.run_labels.specs.TurnLabels.{at_start}
use Rattle.lockstep_replay.specs.Tasks.{Task}
use Rattle.masked_turns.specs.Clearing.{Cutting}
use Rattle.every_secret.specs.declared.whys.UnclearWhy.TheVariants.{BaseSecret}
use Rattle.every_secret.specs.Masked.{MaskedPlace, Reached, Meets, Halts, masked}
use Rattle.every_secret.specs.Rules.{Rules}
use Rattle.every_secret.specs.Visits.{Knowledge}

-- what is known at the beginning of a turn
abbrev pub knowledge_at : MaskedPlace → Knowledge
knowledge_at place = record {
  past = place.past;
  labels = at_start place.labels;
  crossed = place.crossed;
  byte_masks = place.byte_masks;
  status_mask = place.status_mask;
}

-- the outputs that pass are those of a skipped region
abbrev pub skips : Enclosures → Kind → Bool
skips enclosures (Enters region) = is_skipped enclosures region
skips enclosures (Leaves region) = false
skips enclosures (Steps region) = false

abbrev pub cutting_of : Task → Kind → Cutting
cutting_of task kind = record { masks = task.masks; skipped = skips task.enclosures kind }

-- the base register, if any, or the first of the others that may differ
abbrev pub secret_or : Option ℕ → LabelMap → Option ℕ → Option ℕ
secret_or None labels later = later
secret_or (Some register) labels later = if (labels.registers register).mask == 0 then later else Some register

-- the base register of the first range whose base may differ
unfoldable pub secret_base : List Range → LabelMap → Option ℕ
secret_base [] labels = None
secret_base (range ∷ ranges) labels = secret_or range.base labels (secret_base ranges labels)

abbrev pub secret_base_of : Kind → LabelMap → Option ℕ
secret_base_of (Enters region) labels = secret_base region.ranges labels
secret_base_of (Leaves region) labels = None
secret_base_of (Steps region) labels = None

-- where no range is outside of guest memory, the turn is walked
abbrev pub turn_inside : Option Outside → Asker Reached → Asker Reached
turn_inside None turn = turn
turn_inside (Some outside) turn = Over (Halts outside)

-- and before that, where no base register may differ
abbrev pub turn_from : Option ℕ → ℕ → Asker Reached → Asker Reached
turn_from None region turn = turn
turn_from (Some register) region turn = Over (Meets (BaseSecret region register))

abbrev pub kind_turn : Rules → Task → Kind → MaskedPlace → Asker Reached
kind_turn rules task kind place =
    turn_from (secret_base_of kind place.labels) (entered_number kind)
    (turn_inside (kind_outside_range kind place.state)
    (masked rules (cutting_of task kind) (entered_number kind) (knowledge_at place)
    (replay_kind_walk task.enclosures kind place.state)))

-- a turn
abbrev pub masked_turn : Rules → Task → MaskedPlace → Asker Reached
masked_turn rules task place =
    kind_turn rules task (kind_of task.enclosures.regions place.state.control) place
