-- A shadow after any list of writes, saves and restores, beside a map with a default.
use Rattle.std.specs.Prelude.{◌≡◌, ℕ, ◌-◌, ◌==◌, ◌&&◌, nat_lt, List, [], ◌∷◌, if◌then◌else◌}
use Rattle.shadow_masks.specs.declared.labels.Label.{Label}
use Rattle.shadow_masks.specs.Labels.{clean}
use Rattle.shadow_masks.specs.Shades.{Shades, register_label, kept_label, byte_label, IsNew}
use Rattle.shadow_masks.specs.Pages.{is_in_range}
use Rattle.shadow_masks.specs.Shades.{SetsRegister, SetsByte, SetsBytes, Saves, Restores}
use Rattle.flow_base.specs.Listed.{is_listed}

-- a call that changes labels; one on bytes or a range sets labels by their distance from the first address. Where such
-- a call is refused it is a write to the first part that was set, and a refused call on one byte is none
pub data Write : Type 0 where
  ToRegister : ℕ → Label → Write
  ToByte : ℕ → Label → Write
  ToBytes : ℕ → ℕ → (ℕ → Label) → Write
  Save : Write
  Restore : List ℕ → Write

-- what the contract of the call says
abbrev pub IsWritten : Write → Shades → Shades → Type 0
IsWritten (ToRegister register label) old new = SetsRegister register label old new
IsWritten (ToByte address label) old new = SetsByte address label old new
IsWritten (ToBytes first length label) old new = SetsBytes first length label old new
IsWritten Save old new = Saves old new
IsWritten (Restore listed) old new = Restores listed old new

-- from old, the calls lead in turn to new
abbrev pub Leads : List Write → Shades → Shades → Type 0
Leads [] old new = new ≡ old
Leads (write ∷ writes) old new = (mid : Shades) × IsWritten write old mid × Leads writes mid new

-- a map from registers and addresses to labels, with the kept labels of registers
pub record LabelMap : Type 0 where
  pub registers : ℕ → Label
  pub kept : ℕ → Label
  pub bytes : ℕ → Label

-- the map that has the default everywhere
abbrev pub default_map : LabelMap
default_map = record { registers = λ register. clean; kept = λ register. clean; bytes = λ address. clean }

-- the map after one call
abbrev pub after : Write → LabelMap → LabelMap
after (ToRegister register label) map = record {
  registers = λ r. if nat_lt 0 r && r == register then label else map.registers r;
  kept = map.kept;
  bytes = map.bytes;
}
after (ToByte address label) map = record {
  registers = map.registers;
  kept = map.kept;
  bytes = λ a. if a == address then label else map.bytes a;
}
after (ToBytes first length label) map = record {
  registers = map.registers;
  kept = map.kept;
  bytes = λ a. if is_in_range first length a then label (a - first) else map.bytes a;
}
after Save map = record { registers = map.registers; kept = map.registers; bytes = map.bytes }
after (Restore listed) map = record {
  registers = λ r. if is_listed listed r then map.kept r else map.registers r;
  kept = map.kept;
  bytes = map.bytes;
}

-- the map after all calls, first to last
abbrev pub after_all : List Write → LabelMap → LabelMap
after_all [] map = map
after_all (write ∷ writes) map = after_all writes (after write map)

-- each label of the shadow is the map's
pub record ReadsAs (map : LabelMap) (shades : Shades) : Type 0 where
  pub registers : (register : ℕ) → register_label shades register ≡ map.registers register
  pub kept : (register : ℕ) → kept_label shades register ≡ map.kept register
  pub bytes : (address : ℕ) → byte_label shades address ≡ map.bytes address

-- after any list of calls, a shadow that was new reads as the map that had the default everywhere
abbrev pub MapLaw : Type 0
MapLaw =
    (writes : List Write) (base : ℕ) (start shades : Shades) → IsNew base start → Leads writes start shades →
    ReadsAs (after_all writes default_map) shades
