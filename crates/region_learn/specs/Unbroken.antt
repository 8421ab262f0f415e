-- The real run with a declaration.
use Rattle.std.specs.Prelude.{◌≡◌, ◌≤◌, ℕ, true, false, List, None}
use Rattle.rv32im_machine.specs.declared.stepping.Stepped.TheVariants.{Exited}
use Rattle.rv32im_machine.specs.State.{State}
use Rattle.enclosure_regions.specs.declared.region_parts.Region.{Region}
use Rattle.enclosure_regions.specs.declared.break_kinds.Place.TheVariants.{Reg}
use Rattle.enclosure_regions.specs.Breaks.{declares_byte}
use Rattle.region_machine.specs.Runs.{Place, fresh, Real}
use Rattle.region_machine.specs.Within.{are_inside}
use Rattle.region_learn.specs.Learnt.{have_byte}
use Rattle.region_learn.specs.Written.{Run, Written}

-- the ranges of a region of a run lie in guest memory wherever the region is entered, and stand where their offsets say;
-- no register beyond x31 is written
pub record IsTight (run : Run) (region : Region) : Type 0 where
  pub registers : (register : ℕ) → 32 ≤ register → Written run region.id (Reg register) ≡ false
  pub inside : (kept : List ℕ) → are_inside region.ranges kept run.start.setting.base ≡ true
  pub bytes : (kept : List ℕ) (address : ℕ) → declares_byte region kept address ≡ have_byte region.ranges address

-- a run has exited and has broken no region
pub record HasExitedUnbroken (place : Place) : Type 0 where
  pub unbroken : place.broken ≡ None
  pub status : ℕ
  pub exited : place.state.control.mode ≡ Exited status

-- the real run with these regions, whichever of them are skipped, exits within so many turns and breaks none
abbrev pub RunsUnbroken : List Region → ℕ → State → Type 0
RunsUnbroken regions turns start =
    (skip : List ℕ) → HasExitedUnbroken (Real (record { regions = regions; skip = skip }) turns (fresh start))
