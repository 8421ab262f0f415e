-- What becomes of a real state inside a region that comes to its leave.
use Rattle.std.specs.Prelude.{◌≡◌, ℕ, suc, ◌<◌, List, Some, None}
use Rattle.enclosure_regions.specs.declared.region_parts.Region.{Region}
use Rattle.rv32im_machine.specs.declared.stepping.Stepped.TheVariants.{Ran}
use Rattle.rv32im_machine.specs.Folds.{real_end}
use Rattle.rv32im_machine.specs.State.{State}
use Rattle.region_machine.specs.Breaking.{kind_break}
use Rattle.region_machine.specs.Enclosures.{Leaves, Steps, kind_of}
use Rattle.region_machine.specs.Guests.{kind_walk}

-- The state has made so many turns since the entry. It is at the leave, which is one more turn within the most, breaks
-- nothing there, and is one of those that may come out; or it makes a turn inside the region, breaks nothing by it, and
-- the state that it comes to comes out. On the way it is not stopped.
pub data ComesOut (regions : List Region) (region : Region) (Out : State → Type 0) (most : ℕ) : ℕ → State → Type 0 where
  Out-now : {turns : ℕ} {state : State} → state.control.mode ≡ Ran → kind_of regions state.control ≡ Leaves region →
      kind_break (Leaves region) state ≡ None → turns < most → Out state → ComesOut regions region Out most turns state
  Out-later : {turns : ℕ} {state : State} → state.control.mode ≡ Ran →
      kind_of regions state.control ≡ Steps (Some region) → kind_break (Steps (Some region)) state ≡ None →
      ComesOut regions region Out most (suc turns) (real_end (kind_walk (Steps (Some region)) state)) →
      ComesOut regions region Out most turns state
