-- The real run with a declaration that lacks one place that is written.
use Rattle.std.proofs.Common.{◌≡◌, ◌∙◌, ◌⊎◌, ℕ, Bool, true, false, List, Option, Some, None}
use Rattle.std.proofs.Common.{refl, sym, ap, subst, inl, inr}
use Rattle.std.specs.Prelude.{if◌then◌else◌}
use Rattle.std.proofs.lemmas.Bool.{eqb-true, eq-eqb, or_cases, or_left, or_parts, or_right}
use Rattle.rv32im_machine.specs.declared.language.Place.{Place as MachinePlace}
use Rattle.rv32im_machine.specs.declared.language.Place.TheVariants.{Register, Byte as MachineByte, First, Second}
use Rattle.rv32im_machine.specs.declared.language.Aim.{Aim}
use Rattle.rv32im_machine.specs.declared.language.Aim.TheVariants.{Put, Decide, Give}
use Rattle.flow_base.specs.declared.points.Slot.{Slot}
use Rattle.rv32im_machine.specs.Language.{Ended, Looked, Moved, Passed, Restored, Saved, Walk}
use Rattle.enclosure_regions.specs.declared.break_kinds.Break.{Break}
use Rattle.enclosure_regions.specs.declared.break_kinds.Place.{Place}
use Rattle.enclosure_regions.specs.declared.break_kinds.Place.TheVariants.{Reg, Byte}
use Rattle.enclosure_regions.specs.declared.region_parts.Region.{Region}
use Rattle.enclosure_regions.specs.Breaks.{declares_byte, declares_register}
use Rattle.region_machine.specs.Breaking.{aim_break, place_break, walk_break}
use Rattle.region_learn.specs.Minimal.{IsUndeclared}
use Rattle.region_learn.specs.Written.{is_number_slot, is_written_place, puts_into, walk_calls, walk_writes}
use Rattle.region_learn.proofs.UnbrokenRuns.{declares, slot_unbroken}
use Rattle.std.specs.Option.{option_or}

-- ---- what a walk breaks

-- nothing breaks, or it breaks so
abbrev pub Fate : (Break → Type 0) → Option Break → Type 0
Fate so None = Unit {0}
Fate so (Some broken) = so broken

-- the region with a number is broken by the write of a place that is lost
abbrev pub LosesTo : ℕ → (Place → Type 0) → Break → Type 0
LosesTo number lost broken = (place : Place) × lost place × IsUndeclared number place broken

-- a region declares a place, or it is the region that is meant, and the place is lost
abbrev pub DeclaresBut : ℕ → (Place → Type 0) → Region → List ℕ → Place → Type 0
DeclaresBut number lost region kept other =
    (declares region kept other ≡ true) ⊎ ((region.id ≡ number) × lost other)

either : (declared : Bool) (so : Break → Type 0) (broken : Break) → (declared ≡ true) ⊎ so broken →
    Fate so (if declared then None else Some broken)
either true so broken h = tt
either false so broken (inl h) = absurd (cc)
either false so broken (inr h) = h

undeclared : (number : ℕ) (lost : Place → Type 0) (other : Place) (region : Region) (kept : List ℕ) (pc : ℕ) →
    DeclaresBut number lost region kept other →
    (declares region kept other ≡ true) ⊎ LosesTo number lost (Break.UndeclaredWrite region.id pc other)
undeclared number lost other region kept pc (inl h) = inl h
undeclared number lost other region kept pc (inr h) =
    inr (other, h.1, (pc, ap (λ (n : ℕ). Break.UndeclaredWrite n pc other) h.0))

place_fate : (number : ℕ) (lost : Place → Type 0) (region : Region) (kept : List ℕ) (pc : ℕ) (other : MachinePlace) →
    ((q : Place) → is_written_place q other ≡ true → DeclaresBut number lost region kept q) →
    Fate (LosesTo number lost) (place_break region kept pc other)
place_fate number lost region kept pc (Register register) h =
    either (declares_register region register) (LosesTo number lost) (Break.UndeclaredWrite region.id pc (Reg register))
    (undeclared number lost (Reg register) region kept pc (h (Reg register) (eq-eqb register register refl)))
place_fate number lost region kept pc (MachineByte address) h =
    either (declares_byte region kept address) (LosesTo number lost) (Break.UndeclaredWrite region.id pc (Byte address))
    (undeclared number lost (Byte address) region kept pc (h (Byte address) (eq-eqb address address refl)))
place_fate number lost region kept pc First h = tt
place_fate number lost region kept pc Second h = tt

aim_fate : (number : ℕ) (lost : Place → Type 0) (region : Region) (kept : List ℕ) (pc : ℕ) (slot : Slot) (aim : Aim) →
    is_number_slot slot ≡ false → ((q : Place) → puts_into q aim ≡ true → DeclaresBut number lost region kept q) →
    Fate (LosesTo number lost) (aim_break region kept pc slot aim)
aim_fate number lost region kept pc slot (Put other) quiet h = place_fate number lost region kept pc other h
aim_fate number lost region kept pc slot Decide quiet h =
    subst (Fate (LosesTo number lost)) (sym (slot_unbroken region pc slot quiet)) tt
aim_fate number lost region kept pc slot (Give other) quiet h = tt

first_fate : (so : Break → Type 0) (first later : Option Break) → Fate so first → Fate so later →
    Fate so (option_or first later)
first_fate so None later h k = k
first_fate so (Some broken) later h k = h

pub walk_fate : (number : ℕ) (lost : Place → Type 0) (region : Region) (kept : List ℕ) (pc : ℕ) (walk : Walk) →
    walk_calls walk ≡ false →
    ((q : Place) → walk_writes q walk ≡ true → DeclaresBut number lost region kept q) →
    Fate (LosesTo number lost) (walk_break region kept pc walk)
unfolding walk_break walk_calls walk_writes
walk_fate number lost region kept pc (Looked seen value walk) quiet h =
    walk_fate number lost region kept pc walk quiet h
walk_fate number lost region kept pc (Passed passing go) quiet h =
    let parts = or_parts (is_number_slot passing.point.slot) (walk_calls (go passing.value)) quiet in
    first_fate (LosesTo number lost) (aim_break region kept pc passing.point.slot passing.aim)
    (walk_break region kept pc (go passing.value))
    (aim_fate number lost region kept pc passing.point.slot passing.aim parts.0
    (λ q puts. h q (or_left (puts_into q passing.aim) (walk_writes q (go passing.value)) puts)))
    (walk_fate number lost region kept pc (go passing.value) parts.1
    (λ q writes. h q (or_right (puts_into q passing.aim) (walk_writes q (go passing.value)) writes)))
walk_fate number lost region kept pc (Moved other shape source value walk) quiet h =
    first_fate (LosesTo number lost) (place_break region kept pc other) (walk_break region kept pc walk)
    (place_fate number lost region kept pc other
    (λ q puts. h q (or_left (is_written_place q other) (walk_writes q walk) puts)))
    (walk_fate number lost region kept pc walk quiet
    (λ q writes. h q (or_right (is_written_place q other) (walk_writes q walk) writes)))
walk_fate number lost region kept pc (Saved walk) quiet h = walk_fate number lost region kept pc walk quiet h
walk_fate number lost region kept pc (Restored registers walk back) quiet h =
    walk_fate number lost region kept pc walk quiet h
walk_fate number lost region kept pc (Ended state) quiet h = tt

-- ---- a written place that is not declared does break

abbrev pub IsBroken : Option Break → Type 0
IsBroken None = ⊥
IsBroken (Some broken) = Unit {0}

first_breaks : (first later : Option Break) → IsBroken first → IsBroken (option_or first later)
first_breaks None later h = absurd h
first_breaks (Some broken) later h = tt

later_breaks : (first later : Option Break) → IsBroken later → IsBroken (option_or first later)
later_breaks None later h = h
later_breaks (Some broken) later h = tt

unless_declared : (declared : Bool) (broken : Break) → declared ≡ false → IsBroken (if declared then None else Some broken)
unless_declared true broken h = absurd (cc)
unless_declared false broken h = tt

place_breaks : (region : Region) (kept : List ℕ) (pc : ℕ) (place : Place) (other : MachinePlace) →
    declares region kept place ≡ false → is_written_place place other ≡ true → IsBroken (place_break region kept pc other)
place_breaks region kept pc (Reg register) (Register other) lacks is =
    unless_declared (declares_register region other) (Break.UndeclaredWrite region.id pc (Reg other))
    (ap (declares_register region) (eqb-true other register is) ∙ lacks)
place_breaks region kept pc (Reg register) (MachineByte other) lacks is = absurd (cc)
place_breaks region kept pc (Reg register) First lacks is = absurd (cc)
place_breaks region kept pc (Reg register) Second lacks is = absurd (cc)
place_breaks region kept pc (Byte address) (Register other) lacks is = absurd (cc)
place_breaks region kept pc (Byte address) (MachineByte other) lacks is =
    unless_declared (declares_byte region kept other) (Break.UndeclaredWrite region.id pc (Byte other))
    (ap (declares_byte region kept) (eqb-true other address is) ∙ lacks)
place_breaks region kept pc (Byte address) First lacks is = absurd (cc)
place_breaks region kept pc (Byte address) Second lacks is = absurd (cc)

aim_breaks : (region : Region) (kept : List ℕ) (pc : ℕ) (place : Place) (slot : Slot) (aim : Aim) →
    declares region kept place ≡ false → puts_into place aim ≡ true → IsBroken (aim_break region kept pc slot aim)
aim_breaks region kept pc place slot (Put other) lacks puts = place_breaks region kept pc place other lacks puts
aim_breaks region kept pc place slot Decide lacks puts = absurd (cc)
aim_breaks region kept pc place slot (Give other) lacks puts = absurd (cc)

pub walk_breaks : (region : Region) (kept : List ℕ) (pc : ℕ) (place : Place) (walk : Walk) →
    declares region kept place ≡ false → walk_writes place walk ≡ true → IsBroken (walk_break region kept pc walk)
unfolding walk_break walk_writes
walk_breaks region kept pc place (Looked seen value walk) lacks writes =
    walk_breaks region kept pc place walk lacks writes
walk_breaks region kept pc place (Passed passing go) lacks writes =
    elim (or_cases (puts_into place passing.aim) (walk_writes place (go passing.value)) writes) [
      | inl here ↦
          first_breaks (aim_break region kept pc passing.point.slot passing.aim)
          (walk_break region kept pc (go passing.value))
          (aim_breaks region kept pc place passing.point.slot passing.aim lacks here)
      | inr later ↦
          later_breaks (aim_break region kept pc passing.point.slot passing.aim)
          (walk_break region kept pc (go passing.value))
          (walk_breaks region kept pc place (go passing.value) lacks later)
    ]
walk_breaks region kept pc place (Moved other shape source value walk) lacks writes =
    elim (or_cases (is_written_place place other) (walk_writes place walk) writes) [
      | inl here ↦
          first_breaks (place_break region kept pc other) (walk_break region kept pc walk)
          (place_breaks region kept pc place other lacks here)
      | inr later ↦
          later_breaks (place_break region kept pc other) (walk_break region kept pc walk)
          (walk_breaks region kept pc place walk lacks later)
    ]
walk_breaks region kept pc place (Saved walk) lacks writes = walk_breaks region kept pc place walk lacks writes
walk_breaks region kept pc place (Restored registers walk back) lacks writes =
    walk_breaks region kept pc place walk lacks writes
walk_breaks region kept pc place (Ended state) lacks writes = absurd (cc)
