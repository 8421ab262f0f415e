-- The slots that a turn passes, with their numbers, widths and texts.
use Rattle.std.specs.Prelude.{ℕ, ◌+◌, ◌&&◌, nat_le, nat_lt, Bool, true, false, List, ◌∷◌, ◌++◌, codes}
use Rattle.std.specs.Fmt.{decimal}
use Rattle.flow_base.specs.HexWords.{hex_word}
use Rattle.flow_base.specs.declared.points.Point.{Point}
use Rattle.flow_base.specs.declared.points.Slot.{Slot}
use Rattle.flow_base.specs.declared.points.Slot.TheVariants.{First, Second, Address, Result, Decision, Number, Arg0, Arg1, Arg2, SecretIn, ByteOut, Status, OutReg, OutRange}

-- a region has output registers x1 to x31 and at most 64 ranges
abbrev pub is_slot : Slot → Bool
is_slot (OutReg register) = nat_le 1 register && nat_le register 31
is_slot (OutRange range) = nat_lt range 64
is_slot slot = true

-- the number by which slots are ordered
abbrev pub slot_number : Slot → ℕ
slot_number First = 1
slot_number Second = 2
slot_number Address = 3
slot_number Result = 4
slot_number Decision = 5
slot_number Number = 6
slot_number Arg0 = 7
slot_number Arg1 = 8
slot_number Arg2 = 9
slot_number SecretIn = 10
slot_number ByteOut = 11
slot_number Status = 12
slot_number (OutReg register) = 12 + register
slot_number (OutRange range) = 44 + range

-- the mask of all bits that a value of the slot may have
abbrev pub width_of : Slot → ℕ
width_of Decision = 1
width_of SecretIn = 255
width_of ByteOut = 255
width_of Status = 255
width_of (OutRange range) = 255
width_of slot = 4294967295

-- an output of a region: one of its registers, or a byte of one of its ranges
abbrev pub is_output_slot : Slot → Bool
is_output_slot (OutReg register) = true
is_output_slot (OutRange range) = true
is_output_slot slot = false

-- the text of a slot: two letters, or a letter and a number
abbrev pub slot_text : Slot → List ℕ
slot_text First = codes "u1"
slot_text Second = codes "u2"
slot_text Address = codes "ad"
slot_text Result = codes "rs"
slot_text Decision = codes "de"
slot_text Number = codes "nr"
slot_text Arg0 = codes "a0"
slot_text Arg1 = codes "a1"
slot_text Arg2 = codes "a2"
slot_text SecretIn = codes "in"
slot_text ByteOut = codes "ou"
slot_text Status = codes "st"
slot_text (OutReg register) = 120 ∷ decimal register
slot_text (OutRange range) = 114 ∷ decimal range

-- the text of a point: its region, its address and its slot
abbrev pub point_text : Point → List ℕ
point_text point =
    decimal point.region ++ (codes " " ++ (hex_word point.address ++ (codes " " ++ slot_text point.slot)))

-- the number of a region; 0 stands for what is outside regions
abbrev pub is_region_number : ℕ → Bool
is_region_number number = nat_le 1 number && nat_le number 65535

-- the point of what no point has passed
abbrev pub nowhere : Point
nowhere = record { region = 0; address = 0; slot = First }
