-- A monitor of a run and the walker of its turns say alike which turn is next.
use Rattle.std.specs.Prelude.{◌≡◌, ℕ, List, Option, Some, None, slice_get, IsTrue}
use Rattle.rv32im_machine.specs.declared.stepping.Stepped.TheVariants.{Ran}
use Rattle.rv32im_machine.specs.State.{Control}
use Rattle.enclosure_regions.specs.declared.region_parts.Region.{Region}
use Rattle.enclosure_regions.specs.declared.turn_kinds.TurnKind.{TurnKind}
use Rattle.enclosure_regions.specs.declared.turn_kinds.TurnKind.TheVariants.{Enter, Leave, Step}
use Rattle.enclosure_regions.specs.Turns.{turn_kind}
use Rattle.enclosure_regions.specs.Watching.{is_one_of, region_at}
use Rattle.region_machine.specs.Enclosures.{Kind, Leaves, Steps, kind_of, kind_outside, region_numbered}

abbrev pub kind_left : Option Region → Kind
kind_left None = Steps None
kind_left (Some region) = Leaves region

-- the turn that a monitor tells, whose entered region, if any, is at this place of the list
abbrev pub kind_told : List Region → Option ℕ → TurnKind → Kind
kind_told regions entered (Enter place) = kind_outside (slice_get regions place)
kind_told regions entered Leave = kind_left (region_at regions entered)
kind_told regions entered Step = Steps (region_at regions entered)

-- while a guest runs, and both hold the same region for entered, the guest makes the turn that the monitor tells
abbrev pub NextTurnLaw : Type 0
NextTurnLaw =
    (regions : List Region) (entered : Option ℕ) (control : Control) → control.mode ≡ Ran →
    IsTrue (is_one_of regions entered) → region_numbered regions control.region ≡ region_at regions entered →
    kind_of regions control ≡ kind_told regions entered (turn_kind regions entered control.pc)
