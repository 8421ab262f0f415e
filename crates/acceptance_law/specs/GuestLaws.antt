-- What holds of each run of a guest.
use Rattle.std.specs.Prelude.{◌≡◌, ℕ, true, List}
use Rattle.std.specs.List.{AllByRecursion}
use Rattle.elf32_loader.specs.declared.segments.Segment.{Segment}
use Rattle.elf32_loader.specs.Pictures.{Picture, is_image_picture}
use Rattle.region_machine.specs.Starts.{guest}
use Rattle.enclosure_regions.specs.declared.region_parts.Region.{Region}
use Rattle.enclosure_regions.specs.Regions.{are_regions}
use Rattle.region_machine.specs.Guests.{guest_walk}
use Rattle.region_machine.specs.Runs.{Place}
use Rattle.run_labels.specs.Answers.{IsSoundAnswer}
use Rattle.run_labels.specs.Runs.{unlabelled, run_after, EachRunAnswer}
use Rattle.rv32im_machine.specs.Folds.{real_end}
use Rattle.rv32im_machine.specs.State.{State}
use Rattle.acceptance_law.specs.ClosedEvents.{AreProperEvents}
use Rattle.acceptance_law.specs.Inputs.{AreBytes, IsProperGuest}

-- each turn keeps what a guest's values are like
abbrev pub GuestTurnLaw : Type 0
GuestTurnLaw =
    (regions : List Region) (state : State) → are_regions regions ≡ true → IsProperGuest state →
    IsProperGuest (real_end (guest_walk regions state))

-- the events of a run by sound answers are proper
abbrev pub ProperEventsLaw : Type 0
ProperEventsLaw =
    (regions : List Region) (answers : List (List ℕ)) (start : Place) → are_regions regions ≡ true →
    IsProperGuest start.state → EachRunAnswer IsSoundAnswer regions answers (unlabelled start) →
    AreProperEvents (run_after regions answers (unlabelled start)).events

abbrev pub HasBytes : List Segment → Type 0
HasBytes segments = AllByRecursion (λ segment. AreBytes segment.bytes) segments

-- the values with which a program starts are a guest's
abbrev pub GuestStartLaw : Type 0
GuestStartLaw =
    (picture : Picture) (public_input secret : List ℕ) → is_image_picture picture ≡ true → HasBytes picture.segments →
    AreBytes public_input → AreBytes secret → IsProperGuest (guest picture public_input secret).state
