-- Masks of bytes: what is joined, and what a byte of memory gets.
use Rattle.std.proofs.Common.{◌≡◌, ◌≤◌, ℕ, List, ◌∷◌, [], arith}
use Rattle.std.specs.Prelude.{IsTrue}
use Rattle.flow_base.specs.declared.points.Slot.{Slot}
use Rattle.flow_base.specs.Points.{width_of}
use Rattle.rv32im_machine.specs.declared.language.Aim.{Aim}
use Rattle.rv32im_machine.specs.declared.language.Aim.TheVariants.{Put, Decide, Give}
use Rattle.rv32im_machine.specs.declared.language.Part.{Part}
use Rattle.rv32im_machine.specs.declared.language.Part.TheVariants.{Byte0, Byte1, Byte2, Byte3}
use Rattle.rv32im_machine.specs.declared.language.Place.{Place}
use Rattle.rv32im_machine.specs.declared.language.Place.TheVariants.{Register, Byte, First, Second}
use Rattle.rv32im_machine.specs.declared.language.Shape.{Shape}
use Rattle.rv32im_machine.specs.declared.language.Shape.TheVariants.{Copied, Extended, Part as PartShape}
use Rattle.rv32im_machine.specs.declared.language.Source.{Source}
use Rattle.rv32im_machine.specs.declared.language.Source.TheVariants.{At}
use Rattle.rv32im_machine.specs.declared.language.Sources.{Sources}
use Rattle.rv32im_machine.specs.declared.language.Sources.TheVariants.{One, Two, Byte as BytesOne, Half as BytesTwo, Word as BytesFour}
use Rattle.rv32im_machine.specs.declared.language.Work.{Work}
use Rattle.rv32im_machine.specs.declared.language.Work.TheVariants.{Shaped, Computed}
use Rattle.rv32im_machine.specs.Language.{first_of, part_of, shaped}
use Rattle.rv32im_machine.specs.Playing.{FitsAim, FitsSlot, are_bytes, fits_place, joins_bytes, makes_byte, moves_bits, shapes_byte}
use Rattle.run_labels.specs.Masks.{aimed_mask, work_mask}
use Rattle.tracked_run.specs.declared.source_masks.SourceMasks.{SourceMasks}
use Rattle.tracked_run.specs.Labels.{AreByteMasks, IsMaskAt, IsMaskFor, MayMake, MayShape}

-- ---- what may be joined

pub may_make : (work : Work) (sources : Sources) (masks : SourceMasks) → IsTrue (joins_bytes work sources) →
    (IsTrue (are_bytes sources) → AreByteMasks masks) → MayMake work masks
may_make (Shaped Copied) sources masks joins bytes = tt
may_make (Shaped (Extended kind)) sources masks joins bytes = bytes joins
may_make (Shaped (PartShape part)) sources masks joins bytes = tt
may_make (Computed operation first second) sources masks joins bytes = tt

pub may_move : (shape : Shape) (masks : SourceMasks) → IsTrue (moves_bits shape) → MayShape shape masks
may_move Copied masks moves = tt
may_move (Extended kind) masks moves = absurd (cc)
may_move (PartShape part) masks moves = tt

-- ---- the mask of a byte

part_byte : (part : Part) (word : ℕ) → part_of part word ≤ 255
part_byte Byte0 word = omega arith
part_byte Byte1 word = omega arith
part_byte Byte2 word = omega arith
part_byte Byte3 word = omega arith

made_byte : (work : Work) (sources : Sources) (masks : List ℕ) (answer : ℕ) → IsTrue (makes_byte work sources) →
    (IsTrue (makes_byte (Shaped Copied) sources) → first_of masks ≤ 255) → work_mask work masks answer ≤ 255
made_byte (Shaped Copied) sources masks answer makes first = first makes
made_byte (Shaped (Extended kind)) (One source) masks answer makes first = absurd (cc)
made_byte (Shaped (Extended kind)) (Two one other) masks answer makes first = absurd (cc)
made_byte (Shaped (Extended kind)) (BytesOne address) masks answer makes first = absurd (cc)
made_byte (Shaped (Extended kind)) (BytesTwo address) masks answer makes first = absurd (cc)
made_byte (Shaped (Extended kind)) (BytesFour address) masks answer makes first = absurd (cc)
made_byte (Shaped (PartShape part)) sources masks answer makes first = part_byte part (first_of masks)
made_byte (Computed operation one other) sources masks answer makes first = absurd (cc)

-- at a slot of 8 bits what is made has the mask of a byte
pub worked_byte : (slot : Slot) (work : Work) (sources : Sources) (masks : List ℕ) (answer : ℕ) →
    FitsSlot slot work sources → (IsTrue (makes_byte (Shaped Copied) sources) → first_of masks ≤ 255) →
    width_of slot ≡ 255 → work_mask work masks answer ≤ 255
worked_byte slot work sources masks answer fits first narrow =
    made_byte work sources masks answer (fits narrow) first

pub aimed_byte : (aim : Aim) (slot : Slot) (mask : ℕ) → (width_of slot ≡ 255 → mask ≤ 255) → width_of slot ≡ 255 →
    aimed_mask aim slot mask ≤ 255
aimed_byte (Put place) slot mask byte narrow = byte narrow
aimed_byte Decide slot mask byte narrow = byte narrow
aimed_byte (Give place) slot mask byte narrow = omega (arith, narrow)

-- ---- what a place may get

pub mask_for : (aim : Aim) (slot : Slot) (mask : ℕ) → FitsAim aim slot → (width_of slot ≡ 255 → mask ≤ 255) →
    IsMaskFor aim mask
mask_for (Put (Register register)) slot mask fits byte = tt
mask_for (Put (Byte address)) slot mask fits byte = byte fits
mask_for (Put First) slot mask fits byte = tt
mask_for (Put Second) slot mask fits byte = tt
mask_for Decide slot mask fits byte = tt
mask_for (Give (Register register)) slot mask fits byte = tt
mask_for (Give (Byte address)) slot mask fits byte = byte fits
mask_for (Give First) slot mask fits byte = tt
mask_for (Give Second) slot mask fits byte = tt

none_at : (place : Place) → IsMaskAt place 0
none_at (Register register) = tt
none_at (Byte address) = omega arith
none_at First = tt
none_at Second = tt

pub none_for : (aim : Aim) → IsMaskFor aim 0
none_for (Put place) = none_at place
none_for Decide = tt
none_for (Give place) = none_at place

-- ---- moves

pub moved_byte : (shape : Shape) (place : Place) (mask : ℕ) → IsMaskAt place mask →
    IsTrue (shapes_byte shape (At place)) → shaped shape (mask ∷ []) ≤ 255
moved_byte Copied (Register register) mask at byte = absurd (cc)
moved_byte Copied (Byte address) mask at byte = at
moved_byte Copied First mask at byte = absurd (cc)
moved_byte Copied Second mask at byte = absurd (cc)
moved_byte (Extended kind) place mask at byte = absurd (cc)
moved_byte (PartShape part) place mask at byte = part_byte part mask

pub mask_at : (place : Place) (shape : Shape) (source : Source) (mask : ℕ) → IsTrue (fits_place place shape source) →
    (IsTrue (shapes_byte shape source) → mask ≤ 255) → IsMaskAt place mask
mask_at (Register register) shape source mask fits byte = tt
mask_at (Byte address) shape source mask fits byte = byte fits
mask_at First shape source mask fits byte = tt
mask_at Second shape source mask fits byte = tt
