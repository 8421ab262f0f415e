-- What breaks where a written register or byte is left out of a declaration, or an output is to be kept.
use Rattle.std.specs.Prelude.{◌≡◌, ◌<◌, ◌^◌, ◌==◌, ◌||◌, ℕ, not, true, false, None, ◌∷◌, List, map, Some, if◌then◌else◌}
use Rattle.std.specs.List.{AllByRecursion, filter}
use Rattle.rv32im_machine.specs.State.{State}
use Rattle.enclosure_regions.specs.declared.break_kinds.Break.{Break}
use Rattle.enclosure_regions.specs.declared.break_kinds.Break.TheVariants.{KeepBroken, UndeclaredWrite}
use Rattle.enclosure_regions.specs.declared.break_kinds.Place.{Place}
use Rattle.enclosure_regions.specs.declared.break_kinds.Place.TheVariants.{Reg, Byte}
use Rattle.flow_base.specs.Guests.{is_inside}
use Rattle.enclosure_regions.specs.declared.region_parts.Range.{Range}
use Rattle.enclosure_regions.specs.declared.region_parts.Region.{Region}
use Rattle.enclosure_regions.specs.Orders.{in_order}
use Rattle.region_learn.specs.Learnt.{have_byte}
use Rattle.region_machine.specs.Runs.{fresh, Real}
use Rattle.flow_base.specs.Listed.{is_listed}

-- the real run with these regions, whichever of them are skipped, breaks one of them so within so many turns
abbrev pub RunsBroken : (Break → Type 0) → List Region → ℕ → State → Type 0
RunsBroken so regions turns start =
    (skip : List ℕ) → (broken : Break)
    × ((Real (record { regions = regions; skip = skip }) turns (fresh start)).broken ≡ Some broken) × so broken

-- an instruction inside the region with a number has written to a place that is not declared
abbrev pub IsUndeclared : ℕ → Place → Break → Type 0
IsUndeclared number place broken = (pc : ℕ) × (broken ≡ UndeclaredWrite number pc place)

-- the regions with the one of a number changed
abbrev pub changed_at : ℕ → (Region → Region) → List Region → List Region
changed_at number change regions = map (λ region. if region.id == number then change region else region) regions

abbrev pub without : ℕ → List ℕ → List ℕ
without register registers = filter (λ other. not (other == register)) registers

-- a region that declares a register no more
abbrev pub without_register : ℕ → Region → Region
without_register register region =
    record region { outs = without register region.outs; keep = without register region.keep }

-- with any one register left out, the run breaks by the write of it
abbrev pub NoRegisterCanGo : List Region → ℕ → State → Type 0
NoRegisterCanGo regions turns start =
    AllByRecursion (λ region. (register : ℕ) →
    (is_listed region.outs register || is_listed region.keep register) ≡ true →
    RunsBroken (IsUndeclared region.id (Reg register)) (changed_at region.id (without_register register) regions)
    turns start) regions

-- ---- bytes

-- ranges without a base that lie in the guest memory with this lowest address
abbrev pub ArePlain : ℕ → List Range → Type 0
ArePlain base ranges =
    AllByRecursion (λ range. (range.base ≡ None) × (range.offset < 2 ^ 32)
    × (is_inside base range.offset range.length ≡ true)) ranges

abbrev pub with_ranges : List Range → Region → Region
with_ranges ranges region = record region { ranges = ranges }

-- the write of a byte of the region that other ranges do not have
abbrev pub IsLostByte : Region → List Range → Break → Type 0
IsLostByte region less broken =
    (address : ℕ) × (have_byte region.ranges address ≡ true) × (have_byte less address ≡ false)
    × IsUndeclared region.id (Byte address) broken

-- with any other ranges, however many, that do not have each byte of the region, the run breaks by the write of such a
-- byte
abbrev pub NoByteCanGo : List Region → ℕ → State → Type 0
NoByteCanGo regions turns start =
    AllByRecursion (λ region. (less : List Range) (address : ℕ) → ArePlain start.setting.base less →
    have_byte region.ranges address ≡ true → have_byte less address ≡ false →
    RunsBroken (IsLostByte region less) (changed_at region.id (with_ranges less) regions) turns start) regions

-- ---- kept registers

-- a region that is to give back a register that was an output
abbrev pub moved_to_keep : ℕ → Region → Region
moved_to_keep register region =
    record region { outs = without register region.outs; keep = in_order (register ∷ region.keep) }

-- at the leave of the region with a number the register has not its value of the entry
abbrev pub IsKeepBroken : ℕ → ℕ → Break → Type 0
IsKeepBroken number register broken =
    (before : ℕ) × (after : ℕ) × (broken ≡ KeepBroken number register before after)

-- with any one output moved to the kept registers, the run breaks at a leave
abbrev pub NoOutputIsKept : List Region → ℕ → State → Type 0
NoOutputIsKept regions turns start =
    AllByRecursion (λ region. (register : ℕ) → is_listed region.outs register ≡ true →
    RunsBroken (IsKeepBroken region.id register) (changed_at region.id (moved_to_keep register) regions) turns start)
    regions
