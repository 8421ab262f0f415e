-- One piece, or one ending, for two.
use Rattle.std.specs.Prelude.{◌≡◌, ℕ, ◌<◌, ◌≤◌, List, [], ◌∷◌}
use Rattle.enclosure_regions.specs.declared.region_parts.Region.{Region}
use Rattle.rv32im_machine.specs.State.{State, byte_of, register_of}
use Rattle.piece_cells.specs.Cells.{Bytes, Has, Knows}
use Rattle.piece_cells.specs.declared.cells.Cell.{Cell}
use Rattle.piece_cells.specs.declared.unknowns.Known.{Known}
use Rattle.region_pieces.specs.Pieces.{EndingModel, InMemory, PieceModel, StandsBy}

-- what the one cell may be the other may be too, by any values of the unknown bytes that are known so
abbrev pub CoversCell : List Known → Cell → Cell → Type 0
CoversCell unknowns cell wider =
    (bytes : Bytes) → Knows unknowns bytes → (word : ℕ) → Has bytes cell word → Has bytes wider word

-- the values that the unknown bytes may have by the one they may have by the other
abbrev pub CoversUnknowns : List Known → List Known → Type 0
CoversUnknowns unknowns wider = (bytes : Bytes) → Knows unknowns bytes → Knows wider bytes

-- each cell of the one piece covers that of the other, at the same pc, with as many turns or more; the addresses are those
-- of guest memory from this base on
pub record CoversPiece (base : ℕ) (piece wider : PieceModel) : Type 0 where
  pub registers : (register : ℕ) → register < 32 →
      CoversCell piece.unknowns (piece.registers register) (wider.registers register)
  pub memory : (address : ℕ) → InMemory base address →
      CoversCell piece.unknowns (piece.memory address) (wider.memory address)
  pub unknowns : CoversUnknowns piece.unknowns wider.unknowns
  pub pc : wider.pc ≡ piece.pc
  pub turns : piece.turns ≤ wider.turns

-- each of these cells covers the one in its place
pub data CoversEach (unknowns : List Known) : List Cell → List Cell → Type 0 where
  None-covered : CoversEach unknowns [] []
  One-covered : {cell wider : Cell} {cells widers : List Cell} → CoversCell unknowns cell wider →
      CoversEach unknowns cells widers → CoversEach unknowns (cell ∷ cells) (wider ∷ widers)

pub record CoversEnding (ending wider : EndingModel) : Type 0 where
  pub cells : CoversEach ending.unknowns ending.cells wider.cells
  pub unknowns : CoversUnknowns ending.unknowns wider.unknowns

-- ---- what is told

-- what a real state has at these registers and by these unknown bytes is in the narrower piece too; all else is as it was
pub record Narrows (region : Region) (bytes : Bytes) (now : State) (piece narrower : PieceModel) : Type 0 where
  pub registers : (register : ℕ) → register < 32 →
      Has bytes (piece.registers register) (register_of now.store register) →
      Has bytes (narrower.registers register) (register_of now.store register)
  pub memory : (address : ℕ) → narrower.memory address ≡ piece.memory address
  pub unknowns : Knows narrower.unknowns bytes
  pub pc : narrower.pc ≡ piece.pc
  pub turns : narrower.turns ≡ piece.turns
