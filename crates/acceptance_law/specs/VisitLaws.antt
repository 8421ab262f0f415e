-- How often a run passes a point, and at which slots.
use Rattle.std.specs.Prelude.{◌≡◌, ℕ, ◌<◌, ◌≤◌, ◌^◌, Bool, true, false, List, length}
use Rattle.std.specs.List.{list_all}
use Rattle.flow_base.specs.declared.points.Point.{Point}
use Rattle.flow_base.specs.Points.{is_slot, is_output_slot}
use Rattle.elf32_loader.specs.Pictures.{Picture}
use Rattle.enclosure_regions.specs.declared.region_parts.Region.{Region}
use Rattle.enclosure_regions.specs.Regions.{are_regions}
use Rattle.flow_graph.specs.declared.events.Event.{Event}
use Rattle.flow_graph.specs.declared.events.Event.TheVariants.{Pass}
use Rattle.flow_graph.specs.EventGraphs.{passed}
use Rattle.region_machine.specs.Starts.{guest}
use Rattle.run_labels.specs.Runs.{IsUnrefused, run_after, unlabelled}
use Rattle.acceptance_law.specs.RunCuts.{visit_masks}

-- what passes a point passes it at a slot that a turn passes
abbrev pub is_at_slot : Event → Bool
is_at_slot (Pass point mask) = is_slot point.slot
is_at_slot event = true

-- the events of the turns of a program from its start on, where the rules answer these masks
abbrev pub events_of : Picture → List ℕ → List ℕ → List Region → List (List ℕ) → List Event
events_of program public_input secret regions answers =
    (run_after regions answers (unlabelled (guest program public_input secret))).events

-- a run that no turn refuses passes points at the slots of turns alone, whatever the rules answer
abbrev pub KnownSlotsLaw : Type 0
KnownSlotsLaw =
    (program : Picture) (public_input secret : List ℕ) (regions : List Region) (answers : List (List ℕ)) →
    are_regions regions ≡ true →
    IsUnrefused regions answers (unlabelled (guest program public_input secret)) →
    list_all is_at_slot (events_of program public_input secret regions answers) ≡ true

-- in at most 20,000,000 turns, with a secret of at most 65,536 bytes, a run passes each point that is no output of a
-- region fewer than 2^32 times
abbrev pub FewVisitsLaw : Type 0
FewVisitsLaw =
    (program : Picture) (public_input secret : List ℕ) (regions : List Region) (answers : List (List ℕ))
    (point : Point) →
    IsUnrefused regions answers (unlabelled (guest program public_input secret)) →
    length answers ≤ 20000000 → length secret ≤ 65536 → is_output_slot point.slot ≡ false →
    length (visit_masks point (events_of program public_input secret regions answers)) < 2 ^ 32

-- a run passes an output of a region no more often than bits pass there, which are the output's capacity
abbrev pub OutputVisitsLaw : Type 0
OutputVisitsLaw =
    (program : Picture) (public_input secret : List ℕ) (regions : List Region) (answers : List (List ℕ))
    (point : Point) →
    IsUnrefused regions answers (unlabelled (guest program public_input secret)) →
    is_output_slot point.slot ≡ true →
    length (visit_masks point (events_of program public_input secret regions answers))
    ≤ passed (events_of program public_input secret regions answers) point

-- what a cut needs of events: each point that they pass has a slot that a turn passes; they pass one that is no output of
-- a region fewer than 2^32 times, and an output no more often than bits pass there
pub record FitCuts (events : List Event) : Type 0 where
  pub slots : (point : Point) → 0 < length (visit_masks point events) → is_slot point.slot ≡ true
  pub few : (point : Point) → is_output_slot point.slot ≡ false → length (visit_masks point events) < 2 ^ 32
  pub outputs : (point : Point) → is_output_slot point.slot ≡ true →
      length (visit_masks point events) ≤ passed events point

-- so do the events of a run that no turn refuses, in at most 20,000,000 turns, with a secret of at most 65,536 bytes
abbrev pub FitCutsLaw : Type 0
FitCutsLaw =
    (program : Picture) (public_input secret : List ℕ) (regions : List Region) (answers : List (List ℕ)) →
    are_regions regions ≡ true →
    IsUnrefused regions answers (unlabelled (guest program public_input secret)) →
    length answers ≤ 20000000 → length secret ≤ 65536 →
    FitCuts (events_of program public_input secret regions answers)
