-- The mask of a passing: from the masks of its sources, and that of a byte at a slot of 8 bits.
use Rattle.std.proofs.Common.{◌≡◌, ◌≤◌, ℕ, Bool, true, false, List, arith, ap, ap₂, refl, subst}
use Rattle.flow_base.specs.declared.points.Slot.{Slot}
use Rattle.flow_base.specs.Points.{width_of}
use Rattle.rv32im_machine.specs.declared.language.Aim.{Aim}
use Rattle.rv32im_machine.specs.declared.language.Aim.TheVariants.{Put, Decide, Give}
use Rattle.rv32im_machine.specs.declared.language.Operation.{Operation}
use Rattle.rv32im_machine.specs.declared.language.Shape.{Shape}
use Rattle.rv32im_machine.specs.declared.language.Shape.TheVariants.{Copied, Extended, Part}
use Rattle.rv32im_machine.specs.declared.language.Work.{Work}
use Rattle.rv32im_machine.specs.declared.language.Work.TheVariants.{Shaped, Computed}
use Rattle.rv32im_decode.specs.Operations.{extended}
use Rattle.rv32im_machine.specs.Language.{part_of, shaped}
use Rattle.transfer_rules.specs.declared.operands.Operands.{Operands}
use Rattle.run_labels.specs.Answers.{HoldsOfAnswer}
use Rattle.run_labels.specs.Masks.{work_mask}
use Rattle.tracked_run.specs.declared.source_masks.SourceMasks.{SourceMasks}
use Rattle.tracked_run.specs.Labels.{AreMasks, masks_in_order}
use Rattle.masked_turns.specs.Clearing.{aimed_mask}

-- ---- the masks of the sources are those that are listed

shaped_same : (shape : Shape) (masks : SourceMasks) (list : List ℕ) → AreMasks masks list →
    shaped shape (masks_in_order masks) ≡ shaped shape list
shaped_same Copied masks list are = are.first
shaped_same (Extended kind) masks list are = ap (λ word. extended kind word) are.all
shaped_same (Part part) masks list are = ap (λ word. part_of part word) are.first

pub work_same : (work : Work) (masks : SourceMasks) (list : List ℕ) (answer : ℕ) → AreMasks masks list →
    work_mask work (masks_in_order masks) answer ≡ work_mask work list answer
work_same (Shaped shape) masks list answer are = shaped_same shape masks list are
work_same (Computed operation first second) masks list answer are = refl

pub holds_same : (Fact : Operation → Operands → ℕ → Type 0) (work : Work) (masks : SourceMasks) (list : List ℕ)
    (answer : ℕ) → AreMasks masks list → HoldsOfAnswer Fact work (masks_in_order masks) answer →
    HoldsOfAnswer Fact work list answer
holds_same Fact (Shaped shape) masks list answer are holds = tt
holds_same Fact (Computed operation first second) masks list answer are holds =
    subst (λ operands. Fact operation operands answer)
    (ap₂ (λ m n. record { v1 = first; m1 = m; v2 = second; m2 = n }) are.first are.second) holds

-- ---- the mask of a byte

pub aimed_byte : (skipped : Bool) (aim : Aim) (slot : Slot) (mask : ℕ) → (width_of slot ≡ 255 → mask ≤ 255) →
    width_of slot ≡ 255 → aimed_mask skipped aim slot mask ≤ 255
aimed_byte skipped (Put place) slot mask byte narrow = byte narrow
aimed_byte skipped Decide slot mask byte narrow = byte narrow
aimed_byte true (Give place) slot mask byte narrow = omega (arith, narrow)
aimed_byte false (Give place) slot mask byte narrow = byte narrow
