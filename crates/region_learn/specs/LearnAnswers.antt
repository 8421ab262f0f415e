-- What is answered of a run: the least declaration, or why there is none.
use Rattle.std.specs.Prelude.{◌≡◌, ℕ, zero, suc, min, nat_le, List, [], ◌∷◌, length, sum_by, Option, Some, None}
use Rattle.std.specs.Prelude.{◌⊎◌, if◌then◌else◌}
use Rattle.rv32im_machine.specs.declared.stepping.Stepped.{Stepped}
use Rattle.rv32im_machine.specs.declared.stepping.Stepped.TheVariants.{Ran, Exited, Stopped}
use Rattle.rv32im_machine.specs.State.{State}
use Rattle.rv32im_machine.specs.Rows.{walk_of}
use Rattle.enclosure_regions.specs.declared.region_parts.Region.{Region}
use Rattle.region_machine.specs.Enclosures.{Kind, Enters, Leaves, Steps, kind_of}
use Rattle.region_learn.specs.declared.faults.LearnFault.{LearnFault}
use Rattle.region_learn.specs.declared.faults.LearnFault.TheVariants.{Guest, Call, TurnLimit, Ranges, Bytes, TextSize}
use Rattle.region_learn.specs.Written.{Run, state_after, walk_calls}
use Rattle.region_learn.specs.Learnt.{Learnt}
use Rattle.region_learn.specs.RegionTexts.{regions_text}
use Rattle.std.specs.Option.{option_or}

-- ---- the run

-- the turn is a call inside a region
abbrev pub call_in : Kind → State → Option LearnFault
call_in (Enters region) state = None
call_in (Leaves region) state = None
call_in (Steps None) state = None
call_in (Steps (Some region)) state =
    if walk_calls (walk_of state) then Some (Call region.id state.control.pc) else None

-- the first of so many turns that is a call inside a region
unfoldable pub first_call : List Region → ℕ → State → Option LearnFault
first_call regions zero start = None
first_call regions (suc turns) start =
    let state = state_after regions turns start in
    option_or (first_call regions turns start) (call_in (kind_of regions state.control) state)

-- a run that has no call inside a region does not exit within so many turns
abbrev pub no_exit : ℕ → Stepped → Option LearnFault
no_exit turns Ran = Some (TurnLimit turns)
no_exit turns (Exited status) = None
no_exit turns (Stopped fault) = Some (Guest fault)

-- why the run has no least declaration
abbrev pub run_fault : Run → Option LearnFault
run_fault run =
    option_or (first_call run.regions run.turns run.start)
    (no_exit run.turns (state_after run.regions run.turns run.start).control.mode)

-- ---- the declaration

-- a count in an answer stays at its last value, 2^32 - 1
abbrev pub counted : ℕ → ℕ
counted count = min count 4294967295

abbrev pub byte_count : Region → ℕ
byte_count region = sum_by (λ range. range.length) region.ranges

-- a region has at most 64 ranges, of at most 65,536 bytes together
abbrev pub region_fault : Region → Option LearnFault
region_fault region =
    if nat_le (length region.ranges) 64
    then (if nat_le (byte_count region) 65536 then None else Some (Bytes region.id (counted (byte_count region))))
    else Some (Ranges region.id (counted (length region.ranges)))

-- the first region with too many
abbrev pub regions_fault : List Region → Option LearnFault
regions_fault [] = None
regions_fault (region ∷ regions) = option_or (region_fault region) (regions_fault regions)

-- the text of the regions has at most 65,536 bytes
abbrev pub text_fault : List ℕ → Option LearnFault
text_fault text = if nat_le (length text) 65536 then None else Some (TextSize (counted (length text)))

abbrev pub declaration_fault : List Region → Option LearnFault
declaration_fault regions = option_or (regions_fault regions) (text_fault (regions_text regions))

-- ---- the answer

-- the regions are the least declaration of a run that has one
pub record Grants (run : Run) (regions : List Region) : Type 0 where
  pub exits : run_fault run ≡ None
  pub learnt : Learnt run regions
  pub fits : declaration_fault regions ≡ None

-- the run has none for this reason, or its least declaration is refused for this reason
abbrev pub RefusesToLearn : Run → LearnFault → Type 0
RefusesToLearn run fault =
    (run_fault run ≡ Some fault)
    ⊎ ((regions : List Region) × (run_fault run ≡ None) × Learnt run regions × (declaration_fault regions ≡ Some fault))
