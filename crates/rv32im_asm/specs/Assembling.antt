-- The program of a source, or the fault of the first line that fails.
use Rattle.std.specs.Prelude.{ℕ, ℤ, pos, ◌+◌, ◌-ℤ◌, ◌%◌, ◌==◌, ◌&&◌, nat_lt, not, Bool, true, false, List, [], ◌∷◌}
use Rattle.std.specs.Prelude.{◌++◌, take, Option, Some, None, Result, Ok, Err, unwrap_or, if◌then◌else◌}
use Rattle.std.specs.Option.{option_and_then}
use Rattle.elf32_loader.specs.Pictures.{Picture}
use Rattle.rv32im_asm.specs.Lines.{line_label, lines_of}
use Rattle.rv32im_asm.specs.Statements.{Meaning, said_by}
use Rattle.rv32im_asm.specs.Sizes.{place_of, places_up_to, size_of, total_size}
use Rattle.rv32im_asm.specs.Encodings.{bytes_with}
use Rattle.rv32im_asm.specs.declared.fault.AsmFault.{AsmFault}
use Rattle.rv32im_asm.specs.declared.fault.AsmFault.TheVariants.{Line, LabelTwice, LabelMissing, ImmediateRange}
use Rattle.rv32im_asm.specs.declared.fault.LineKind.TheVariants.{Malformed, Misplaced, TooLong, Empty}
use Rattle.rv32im_asm.specs.declared.places.Place.{Place}
use Rattle.rv32im_asm.specs.declared.statements.Operation.{Operation}
use Rattle.rv32im_asm.specs.declared.statements.Operation.TheVariants as the

-- the address of the program and its entry, and the bytes that it has at most
abbrev pub start : ℕ
start = 65536

abbrev pub largest : ℕ
largest = 1048576

-- ---- a line at its place, with the places of labels

-- instructions and words stand at multiples of 4
abbrev pub is_aligned : Operation → Bool
is_aligned the.Nothing = false
is_aligned the.Byte = false
is_aligned the.Zero = false
is_aligned _ = true

-- the bytes of an operation whose number is that of a label, by the bytes before both: branches and jumps go by the
-- bytes from themselves, and la takes the address; no other operation names a label
abbrev pub placed_bytes : Operation → ℕ → ℕ → Option (List ℕ)
placed_bytes (the.Branch kind rs1 rs2) here offset = bytes_with (the.Branch kind rs1 rs2) (pos offset -ℤ pos here)
placed_bytes (the.Jal rd) here offset = bytes_with (the.Jal rd) (pos offset -ℤ pos here)
placed_bytes (the.Constant rd) here offset = bytes_with (the.Constant rd) (pos (start + offset))
placed_bytes _ here offset = None

-- a label after a line that fails has no address; that line fails by itself
abbrev pub unplaced_bytes : Operation → Option (List ℕ)
unplaced_bytes (the.Branch kind rs1 rs2) = Some []
unplaced_bytes (the.Jal rd) = Some []
unplaced_bytes (the.Constant rd) = Some []
unplaced_bytes _ = None

abbrev pub label_bytes : Operation → ℕ → Option ℕ → Option (List ℕ)
label_bytes operation here None = unplaced_bytes operation
label_bytes operation here (Some offset) = placed_bytes operation here offset

abbrev pub or_range : ℕ → Option (List ℕ) → Result (List ℕ) AsmFault
or_range line None = Err (ImmediateRange line)
or_range line (Some bytes) = Ok bytes

abbrev pub bytes_by : ℕ → Operation → ℕ → Option Place → Result (List ℕ) AsmFault
bytes_by line operation here None = Err (LabelMissing line)
bytes_by line operation here (Some place) = or_range line (label_bytes operation here place.offset)

abbrev pub bytes_for : (List ℕ → Option Place) → ℕ → Operation → ℕ → ℤ → Option (List ℕ) → Result (List ℕ) AsmFault
bytes_for places line operation here number None = or_range line (bytes_with operation number)
bytes_for places line operation here number (Some name) = bytes_by line operation here (places name)

-- an earlier line than the one of this index begins with the same label
abbrev pub stands_before : ℕ → Option Place → Bool
stands_before index None = false
stands_before index (Some place) = nat_lt place.index index

-- the bytes of a line with a meaning, or its fault
abbrev pub reading_with : (List ℕ → Option Place) → ℕ → ℕ → Bool → Meaning → Result (List ℕ) AsmFault
reading_with places line here taken meaning =
    if is_aligned meaning.operation && not (here % 4 == 0) then Err (Line line Misplaced) else
    if nat_lt largest (here + unwrap_or (size_of meaning) 0) then Err (Line line TooLong) else
    if taken then Err (LabelTwice line) else
    bytes_for places line meaning.operation here meaning.value.number meaning.value.label

abbrev pub reading_of : (List ℕ → Option Place) → ℕ → ℕ → Option Place → Option Meaning → Result (List ℕ) AsmFault
reading_of places index here own None = Err (Line (index + 1) Malformed)
reading_of places index here own (Some meaning) = reading_with places (index + 1) here (stands_before index own) meaning

-- the bytes of a line, or its fault, where the lines before it have `here` bytes
abbrev pub reading : (List ℕ → Option Place) → ℕ → ℕ → List ℕ → Result (List ℕ) AsmFault
reading places index here line = reading_of places index here (option_and_then places (line_label line)) (said_by line)

-- ---- the whole

-- bytes and then what follows, or the first fault
abbrev pub followed : Result (List ℕ) AsmFault → Result (List ℕ) AsmFault → Result (List ℕ) AsmFault
followed (Err fault) rest = Err fault
followed (Ok bytes) (Err fault) = Err fault
followed (Ok bytes) (Ok more) = Ok (bytes ++ more)

-- how many bytes the lines before an index have; each has a size where none of them fails
abbrev pub bytes_before : List (List ℕ) → ℕ → ℕ
bytes_before lines index = unwrap_or (total_size (take index lines)) 0

-- the bytes of these of the lines, the first of which has this index, or the fault of the first that fails
abbrev pub readings : (List ℕ → Option Place) → List (List ℕ) → ℕ → List (List ℕ) → Result (List ℕ) AsmFault
readings places lines index [] = Ok []
readings places lines index (line ∷ rest) =
    followed (reading places index (bytes_before lines index) line) (readings places lines (index + 1) rest)

-- the index of a line that fails, or what comes after it
abbrev pub reached : Result (List ℕ) AsmFault → ℕ → ℕ → ℕ
reached (Err fault) index behind = index
reached (Ok bytes) index behind = behind

-- the first of these of the lines that fails with the addresses of the labels up to it; where none does, the number of
-- all lines
abbrev pub first_failing : (List ℕ → Option Place) → List (List ℕ) → ℕ → List (List ℕ) → ℕ
first_failing places lines index [] = index
first_failing places lines index (line ∷ rest) =
    reached (reading (places_up_to index places) index (bytes_before lines index) line) index
    (first_failing places lines (index + 1) rest)

-- the places of labels; after the first line that fails so they have no address
abbrev pub known_places : List (List ℕ) → List ℕ → Option Place
known_places lines = places_up_to (first_failing (place_of lines) lines 0 lines) (place_of lines)

-- one segment at the start, which is the entry and a multiple of 4,096
abbrev pub one_segment : List ℕ → Picture
one_segment program =
    record { base = start; entry = start; segments = record { address = start; bytes = program } ∷ [] }

-- a program has a byte
abbrev pub program_of : Result (List ℕ) AsmFault → Result Picture AsmFault
program_of (Err fault) = Err fault
program_of (Ok []) = Err (Line 0 Empty)
program_of (Ok (byte ∷ bytes)) = Ok (one_segment (byte ∷ bytes))

abbrev pub assembled : List ℕ → Result Picture AsmFault
assembled source = program_of (readings (known_places (lines_of source)) (lines_of source) 0 (lines_of source))
