-- The bytes that the code puts at once.
use Rattle.std.specs.Prelude.{ℕ, ◌≤◌, List, [], ◌∷◌, ◌++◌, replicate, Option, Some, None, Result, Ok, Err}
use Rattle.rv32im_asm.specs.Encodings.{word_bytes}
use Rattle.rv32im_asm.specs.declared.fault.AsmFault.{AsmFault}
use Rattle.rv32im_asm.specs.declared.pieces.Piece.{Piece}
use Rattle.rv32im_asm.specs.declared.pieces.Piece.TheVariants.{Nothing, Byte, Word, Words, Zeros}

abbrev pub bytes_in : Piece → List ℕ
bytes_in Nothing = []
bytes_in (Byte byte) = byte ∷ []
bytes_in (Word word) = word_bytes word
bytes_in (Words first second) = word_bytes first ++ word_bytes second
bytes_in (Zeros count) = replicate count 0

-- the bytes of a piece, or the fault
abbrev pub piece_bytes : Result Piece AsmFault → Result (List ℕ) AsmFault
piece_bytes (Err fault) = Err fault
piece_bytes (Ok piece) = Ok (bytes_in piece)

-- the same beside a size
abbrev pub reading_bytes : Result (Piece × ℕ) AsmFault → Result (List ℕ) AsmFault
reading_bytes (Err fault) = Err fault
reading_bytes (Ok found) = Ok (bytes_in found.0)

-- no more bytes than a size that is there
abbrev pub IsSized : Option ℕ → ℕ → Type 0
IsSized None count = ⊥
IsSized (Some size) count = count ≤ size
