-- Registers that are clean stay so where the clean label is put, or a byte of memory gets another.
use Rattle.std.proofs.Common.{◌≡◌, ℕ, ◌<◌, ◌≤◌, ◌==◌, ◌&&◌, Bool, true, false, refl, arith, nat_lt, if◌then◌else◌, inl, inr}
use Rattle.crossing_bits.proofs.Feeding.{le_or_lt}
use Rattle.rv32im_machine.specs.declared.language.Aim.{Aim}
use Rattle.rv32im_machine.specs.declared.language.Aim.TheVariants.{Put, Decide, Give}
use Rattle.rv32im_machine.specs.declared.language.Place.{Place}
use Rattle.rv32im_machine.specs.declared.language.Place.TheVariants.{Register, Byte, First, Second}
use Rattle.rv32im_machine.specs.declared.language.Shape.{Shape}
use Rattle.rv32im_machine.specs.declared.language.Source.{Source}
use Rattle.rv32im_machine.specs.declared.language.Source.TheVariants.{At, Constant, Secret}
use Rattle.shadow_masks.specs.declared.labels.Label.{Label}
use Rattle.shadow_masks.specs.Labels.{clean}
use Rattle.run_labels.specs.Masks.{moved_label}
use Rattle.run_labels.specs.TurnLabels.{TurnLabels, aim_label, put_label}
use Rattle.every_secret.specs.Private.Resting.{IsBeside}

one_of : (b : Bool) (label other : Label) → label ≡ clean → other ≡ clean → (if b then label else other) ≡ clean
one_of true label other is are = is
one_of false label other is are = are

put_registers : (place : Place) (label : Label) (labels : TurnLabels) → label ≡ clean →
    ((register : ℕ) → labels.map.registers register ≡ clean) → (register : ℕ) →
    (put_label place label labels).map.registers register ≡ clean
put_registers (Register at) label labels is are register =
    one_of (nat_lt 0 register && register == at) label (labels.map.registers register) is (are register)
put_registers (Byte address) label labels is are register = are register
put_registers First label labels is are register = are register
put_registers Second label labels is are register = are register

pub aimed_registers : (aim : Aim) (label : Label) (labels : TurnLabels) → label ≡ clean →
    ((register : ℕ) → labels.map.registers register ≡ clean) → (register : ℕ) →
    (aim_label aim label labels).map.registers register ≡ clean
aimed_registers (Put place) label labels is are register = put_registers place label labels is are register
aimed_registers Decide label labels is are register = are register
aimed_registers (Give place) label labels is are register = put_registers place label labels is are register

pub moved_registers : (place : Place) (shape : Shape) (source : Source) (labels : TurnLabels) → IsBeside place source →
    ((register : ℕ) → labels.map.registers register ≡ clean) → (register : ℕ) →
    (put_label place (moved_label labels shape source) labels).map.registers register ≡ clean
moved_registers place shape (Constant value) labels beside are register = put_registers place clean labels refl are register
moved_registers (Byte address) shape (At other) labels beside are register = are register
moved_registers (Byte address) shape (Secret index) labels beside are register = are register
moved_registers (Register at) shape (At other) labels beside are register = absurd beside
moved_registers First shape (At other) labels beside are register = absurd beside
moved_registers Second shape (At other) labels beside are register = absurd beside
moved_registers (Register at) shape (Secret index) labels beside are register = absurd beside
moved_registers First shape (Secret index) labels beside are register = absurd beside
moved_registers Second shape (Secret index) labels beside are register = absurd beside

-- the 32 registers and what is past them
pub all_registers : (label : ℕ → Label) (end : ℕ) → 32 ≤ end → ((register : ℕ) → register < end → label register ≡ clean) →
    ((register : ℕ) → 32 ≤ register → label register ≡ clean) → (register : ℕ) → label register ≡ clean
all_registers label end all below past register = elim (le_or_lt 32 register) [
  | inl beyond ↦ past register beyond
  | inr within ↦ below register (omega (arith, within, all))
]
