-- Whoever is handed the values of a turn that is walked.
use Rattle.std.specs.Prelude.{◌≡◌, ℕ, ◌+◌, ◌<◌, ◌^◌, nat_le, Bool, true, false, IsTrue, Option, Some, None, Result}
use Rattle.std.specs.Prelude.{Ok, Err}
use Rattle.flow_base.specs.declared.points.Slot.{Slot}
use Rattle.flow_base.specs.Points.{width_of}
use Rattle.rv32im_machine.specs.declared.language.Place.{Place}
use Rattle.rv32im_machine.specs.declared.language.Place.TheVariants.{Register, Byte, First, Second}
use Rattle.rv32im_machine.specs.declared.language.Aim.{Aim}
use Rattle.rv32im_machine.specs.declared.language.Aim.TheVariants.{Put, Decide, Give}
use Rattle.rv32im_machine.specs.declared.language.Source.{Source}
use Rattle.rv32im_machine.specs.declared.language.Source.TheVariants.{At, Constant, Secret}
use Rattle.rv32im_machine.specs.declared.language.Sources.{Sources}
use Rattle.rv32im_machine.specs.declared.language.Sources.TheVariants.{One, Two, Byte as BytesOne, Half as BytesTwo, Word as BytesFour}
use Rattle.rv32im_machine.specs.declared.language.Shape.{Shape}
use Rattle.rv32im_machine.specs.declared.language.Shape.TheVariants.{Copied, Extended, Part as PartShape}
use Rattle.rv32im_machine.specs.declared.language.Work.{Work}
use Rattle.rv32im_machine.specs.declared.language.Work.TheVariants.{Shaped, Computed}
use Rattle.rv32im_machine.specs.declared.language.Seen.{Seen}
use Rattle.rv32im_machine.specs.declared.language.Seen.TheVariants.{Word, Base}
use Rattle.flow_base.specs.Guests.{is_inside}
use Rattle.rv32im_machine.specs.State.{State}
use Rattle.rv32im_machine.specs.Language.{Walk}

-- a turn has ended in a state and left whoever was handed its values so, or was halted
pub data Played (Stop Tape : Type 0) : Type 0 where
  Finished : State → Tape → Played Stop Tape
  Halted : Stop → Played Stop Tape

abbrev pub outcome : {Stop Tape : Type 0} → Result (Unit {0}) Stop → State → Tape → Played Stop Tape
outcome (Ok done) state tape = Finished state tape
outcome (Err stop) state tape = Halted stop

-- what may be played after an answer may be played before it
abbrev pub Goes : {A Stop Tape : Type 0} → Result A Stop → (A → Played Stop Tape → Type 0)
    → (Played Stop Tape → Type 0) → Type 0
Goes {Stop = Stop} {Tape = Tape} (Ok answer) after before = (out : Played Stop Tape) → after answer out → before out
Goes (Err stop) after before = before (Halted stop)

-- of the two ends of a leave, the one that is played
abbrev pub restored_or : Bool → Walk → Walk → Walk
restored_or true real replayed = replayed
restored_or false real replayed = real

-- ---- guest memory

-- whoever keeps something of the bytes of a guest memory keeps it of the one with this base
abbrev pub Knows : Option ℕ → ℕ → Type 0
Knows None base = Unit {0}
Knows (Some known) base = known ≡ base

-- so many bytes from an address on lie inside that guest memory
abbrev pub InMemory : Option ℕ → ℕ → ℕ → Type 0
InMemory None address count = Unit {0}
InMemory (Some base) address count = IsTrue (is_inside base address count)

-- ---- places that there are

abbrev pub IsPlace : Option ℕ → Place → Type 0
IsPlace memory (Register register) = register < 32
IsPlace memory (Byte address) = (address < 2 ^ 32) × InMemory memory address 1
IsPlace memory First = Unit {0}
IsPlace memory Second = Unit {0}

abbrev pub IsAim : Option ℕ → Aim → Type 0
IsAim memory (Put place) = IsPlace memory place
IsAim memory Decide = Unit {0}
IsAim memory (Give place) = IsPlace memory place

abbrev pub IsSource : Option ℕ → Source → Type 0
IsSource memory (At place) = IsPlace memory place
IsSource memory (Constant value) = Unit {0}
IsSource memory (Secret index) = Unit {0}

abbrev pub AreSources : Option ℕ → Sources → Type 0
AreSources memory (One source) = IsSource memory source
AreSources memory (Two first second) = IsSource memory first × IsSource memory second
AreSources memory (BytesOne address) = (address < 2 ^ 32) × InMemory memory address 1
AreSources memory (BytesTwo address) = (address + 1 < 2 ^ 32) × InMemory memory address 2
AreSources memory (BytesFour address) = (address + 3 < 2 ^ 32) × InMemory memory address 4

abbrev pub IsSeen : Option ℕ → Seen → Type 0
IsSeen memory (Word address) = (address + 3 < 2 ^ 32) × InMemory memory address 4
IsSeen memory (Base register) = register < 32

-- ---- bytes of memory: only such bytes are joined to a word, and what goes to such a byte is a byte

-- whether these are one, two or four bytes of memory
abbrev pub are_bytes : Sources → Bool
are_bytes (One source) = false
are_bytes (Two first second) = false
are_bytes (BytesOne address) = true
are_bytes (BytesTwo address) = true
are_bytes (BytesFour address) = true

-- whether a value is made so of what it may be made of: bytes of memory where it is extended
abbrev pub joins_bytes : Work → Sources → Bool
joins_bytes (Shaped (Extended kind)) sources = are_bytes sources
joins_bytes (Shaped Copied) sources = true
joins_bytes (Shaped (PartShape part)) sources = true
joins_bytes (Computed operation first second) sources = true

-- whether a source is a byte: one of memory or of the secret, or a number of at most 8 bits
abbrev pub is_byte : Source → Bool
is_byte (At (Byte address)) = true
is_byte (At (Register register)) = false
is_byte (At First) = false
is_byte (At Second) = false
is_byte (Constant value) = nat_le value 255
is_byte (Secret index) = true

-- whether a byte is made so of one source
abbrev pub shapes_byte : Shape → Source → Bool
shapes_byte Copied source = is_byte source
shapes_byte (Extended kind) source = false
shapes_byte (PartShape part) source = true

-- whether a byte is made so
abbrev pub makes_byte : Work → Sources → Bool
makes_byte (Shaped shape) (One source) = shapes_byte shape source
makes_byte (Shaped shape) (Two first second) = false
makes_byte (Shaped shape) (BytesOne address) = false
makes_byte (Shaped shape) (BytesTwo address) = false
makes_byte (Shaped shape) (BytesFour address) = false
makes_byte (Computed operation first second) sources = false

-- what passes a slot of 8 bits is a byte
abbrev pub FitsSlot : Slot → Work → Sources → Type 0
FitsSlot slot work sources = width_of slot ≡ 255 → IsTrue (makes_byte work sources)

-- what goes to a byte of memory passes such a slot
abbrev pub FitsAim : Aim → Slot → Type 0
FitsAim (Put (Byte address)) slot = width_of slot ≡ 255
FitsAim (Give (Byte address)) slot = width_of slot ≡ 255
FitsAim aim slot = Unit {0}

-- whether a value moves so without a passing: it is not extended
abbrev pub moves_bits : Shape → Bool
moves_bits Copied = true
moves_bits (Extended kind) = false
moves_bits (PartShape part) = true

-- whether what moves so may go to a place: a byte of memory gets a byte
abbrev pub fits_place : Place → Shape → Source → Bool
fits_place (Byte address) shape source = shapes_byte shape source
fits_place (Register register) shape source = true
fits_place First shape source = true
fits_place Second shape source = true
