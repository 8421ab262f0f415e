-- The regions of a run, and what kind of turn a guest with regions makes.
use Rattle.std.specs.Prelude.{ℕ, ◌==◌, Bool, false, List, Option, Some, None, if◌then◌else◌}
use Rattle.std.specs.List.{find}
use Rattle.rv32im_machine.specs.declared.stepping.Stepped.{Stepped}
use Rattle.rv32im_machine.specs.declared.stepping.Stepped.TheVariants.{Ran, Exited, Stopped}
use Rattle.rv32im_machine.specs.State.{Control}
use Rattle.enclosure_regions.specs.declared.region_parts.Region.{Region}
use Rattle.flow_base.specs.Listed.{is_listed}

-- the regions of a program, and the numbers of those that the replay skips
pub record Enclosures : Type 0 where
  pub regions : List Region
  pub skip : List ℕ

abbrev pub is_skipped : Enclosures → Region → Bool
is_skipped enclosures region = is_listed enclosures.skip region.id

-- the region with a number; outside regions, where the number is 0, there is none
abbrev pub region_numbered : List Region → ℕ → Option Region
region_numbered regions number = if number == 0 then None else find (λ region. region.id == number) regions

-- the region that is entered at an address
abbrev pub region_entered_at : List Region → ℕ → Option Region
region_entered_at regions pc = find (λ region. region.enter == pc) regions

-- a turn is the entry of a region, the leave of the entered region, or a step, inside the entered region if there is
-- one
pub data Kind : Type 0 where
  Enters : Region → Kind
  Leaves : Region → Kind
  Steps : Option Region → Kind

abbrev pub kind_outside : Option Region → Kind
kind_outside None = Steps None
kind_outside (Some region) = Enters region

-- the leave where a region is entered and pc is its leave address; the entry where none is entered and pc is the enter
-- address of one; else a step
abbrev pub kind_within : List Region → Option Region → ℕ → Kind
kind_within regions (Some region) pc = if region.leave == pc then Leaves region else Steps (Some region)
kind_within regions None pc = kind_outside (region_entered_at regions pc)

-- a guest that has exited or is stopped stands still, which is a step
abbrev pub kind_in : Stepped → List Region → Control → Kind
kind_in Ran regions control = kind_within regions (region_numbered regions control.region) control.pc
kind_in (Exited status) regions control = Steps None
kind_in (Stopped fault) regions control = Steps None

abbrev pub kind_of : List Region → Control → Kind
kind_of regions control = kind_in control.mode regions control

-- the turn is the entry of a skipped region or a step inside it: the replay makes its skip beside the leave alone
abbrev pub is_enclosed_kind : Enclosures → Kind → Bool
is_enclosed_kind enclosures (Enters region) = is_skipped enclosures region
is_enclosed_kind enclosures (Leaves region) = false
is_enclosed_kind enclosures (Steps (Some region)) = is_skipped enclosures region
is_enclosed_kind enclosures (Steps None) = false

abbrev pub is_enclosed : Enclosures → Control → Bool
is_enclosed enclosures control = is_enclosed_kind enclosures (kind_of enclosures.regions control)
