-- How many bits of the secret a run reads: eight for each byte.
use Rattle.std.specs.Prelude.{◌≡◌, ℕ, ◌*◌, ◌≤◌, cond, Bool, true, false, List, length}
use Rattle.std.specs.List.{list_all, sum_by}
use Rattle.flow_base.specs.declared.points.Slot.{Slot}
use Rattle.flow_base.specs.declared.points.Slot.TheVariants.{SecretIn}
use Rattle.flow_base.specs.Words.{bit_count}
use Rattle.elf32_loader.specs.Pictures.{Picture}
use Rattle.enclosure_regions.specs.declared.region_parts.Region.{Region}
use Rattle.flow_graph.specs.declared.events.Event.{Event}
use Rattle.flow_graph.specs.declared.events.Event.TheVariants.{Pass, FromSecret}
use Rattle.region_machine.specs.Starts.{guest}
use Rattle.run_labels.specs.Runs.{IsUnrefused, run_after, unlabelled}

-- a byte of the secret passes slot `in` and no other
abbrev pub is_secret_slot : Slot → Bool
is_secret_slot SecretIn = true
is_secret_slot slot = false

-- the bits of the secret that an event passes
abbrev pub secret_bits_of : Event → ℕ
secret_bits_of (Pass point mask) = cond (is_secret_slot point.slot) (bit_count mask) 0
secret_bits_of event = 0

abbrev pub secret_bits : List Event → ℕ
secret_bits events = sum_by secret_bits_of events

-- what comes from the secret comes to a slot `in`
abbrev pub is_from_secret : Event → Bool
is_from_secret (FromSecret point) = is_secret_slot point.slot
is_from_secret event = true

-- a run passes at most eight bits for each byte of its secret at slots `in`, and what comes from the secret comes there
pub record ReadsSecret (secret : List ℕ) (events : List Event) : Type 0 where
  pub bits : secret_bits events ≤ 8 * length secret
  pub sources : list_all is_from_secret events ≡ true

-- so does each run that no turn refuses, whatever the rules answer
abbrev pub SecretBitsLaw : Type 0
SecretBitsLaw =
    (program : Picture) (public_input secret : List ℕ) (regions : List Region) (answers : List (List ℕ)) →
    IsUnrefused regions answers (unlabelled (guest program public_input secret)) →
    ReadsSecret secret (run_after regions answers (unlabelled (guest program public_input secret))).events
