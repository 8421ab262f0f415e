-- A cell of a piece that becomes a table over an unknown byte that no other cell is over.
use Rattle.std.specs.Prelude.{◌≡◌, ◌≢◌, ℕ, ◌<◌, ◌^◌, ◌==◌, ◌&&◌, Bool, false, if◌then◌else◌, slice_index}
use Rattle.piece_cells.specs.Cells.{Bytes, Has, Holds, Knows}
use Rattle.piece_cells.specs.declared.byte_sets.ByteSet.{ByteSet}
use Rattle.piece_cells.specs.declared.cells.Cell.{Cell}
use Rattle.piece_cells.specs.declared.cells.Cell.TheVariants.{Bits as IsBits, ByTable}
use Rattle.piece_cells.specs.declared.unknowns.Origin.{Origin}
use Rattle.piece_cells.specs.declared.unknowns.Origin.TheVariants.{Register, Byte}
use Rattle.piece_cells.specs.Tables.{WordTable as Table}
use Rattle.piece_cells.specs.declared.unknowns.Unknown.{Unknown}
use Rattle.region_pieces.specs.Pieces.{PieceModel}

abbrev pub is_origin : Origin → Origin → Bool
is_origin (Register first) (Register second) = first == second
is_origin (Byte first) (Byte second) = first == second
is_origin (Register first) (Byte second) = false
is_origin (Byte first) (Register second) = false

abbrev pub is_unknown : Unknown → Unknown → Bool
is_unknown first second = is_origin first.origin second.origin && (first.number == second.number)

-- the values of the unknown bytes, but for one that has this value
abbrev pub renamed : Unknown → ℕ → Bytes → Bytes
renamed unknown byte bytes = λ other. if is_unknown other unknown then byte else bytes other

-- the cell is no table over the unknown byte
abbrev pub IsNotOver : Unknown → Cell → Type 0
IsNotOver unknown (IsBits bits) = Unit {0}
IsNotOver unknown (ByTable table) = table.unknown ≢ unknown

-- each word that the cell may be, the new cell has where the unknown byte is some byte of the set
abbrev pub Renames : Cell → Unknown → ByteSet → Cell → Type 0
Renames cell unknown set new =
    (before : Bytes) (word : ℕ) → word < 2 ^ 32 → Has before cell word →
    (byte : ℕ) × (byte < 256) × Holds set byte × ((bytes : Bytes) → bytes unknown ≡ byte → Has bytes new word)

-- the new unknown byte may have each value of the set, whatever the others are
abbrev pub Allows : PieceModel → PieceModel → Unknown → ByteSet → Type 0
Allows old new unknown set =
    (bytes : Bytes) (byte : ℕ) → Knows old.unknowns bytes → byte < 256 → Holds set byte →
    Knows new.unknowns (renamed unknown byte bytes)

-- a register of a piece has a cell over a new unknown byte of this set
pub record NamesRegister (register : ℕ) (unknown : Unknown) (set : ByteSet) (cell : Cell) (old new : PieceModel) :
    Type 0 where
  pub there : new.registers register ≡ cell
  pub names : Renames (old.registers register) unknown set cell
  pub others : (other : ℕ) → other < 32 → other ≢ register → new.registers other ≡ old.registers other
  pub memory : (address : ℕ) → new.memory address ≡ old.memory address
  pub new_register : (other : ℕ) → other < 32 → other ≢ register → IsNotOver unknown (old.registers other)
  pub new_memory : (address : ℕ) → IsNotOver unknown (old.memory address)
  pub allows : Allows old new unknown set
  pub pc : new.pc ≡ old.pc
  pub turns : new.turns ≡ old.turns

-- and so is a byte of its memory
pub record NamesByte (address : ℕ) (unknown : Unknown) (set : ByteSet) (cell : Cell) (old new : PieceModel) : Type 0 where
  pub there : new.memory address ≡ cell
  pub names : Renames (old.memory address) unknown set cell
  pub others : (other : ℕ) → other ≢ address → new.memory other ≡ old.memory other
  pub registers : (register : ℕ) → new.registers register ≡ old.registers register
  pub new_register : (register : ℕ) → register < 32 → IsNotOver unknown (old.registers register)
  pub new_memory : (other : ℕ) → other ≢ address → IsNotOver unknown (old.memory other)
  pub allows : Allows old new unknown set
  pub pc : new.pc ≡ old.pc
  pub turns : new.turns ≡ old.turns
