-- What a page of memory has.
use Rattle.std.specs.Prelude.{◌≡◌, ◌≢◌, ℕ, ◌<◌, List, Option, Some, None, slice_index, slice_index_or}
use Rattle.piece_cells.specs.Cells.{Bytes, Has}
use Rattle.piece_cells.specs.Tables.{WordTable}
use Rattle.piece_cells.specs.declared.cells.Bits.{Bits}
use Rattle.piece_cells.specs.declared.cells.Cell.{Cell}
use Rattle.piece_cells.specs.declared.cells.Cell.TheVariants.{Bits as IsBits, ByTable}

-- the bits of a byte, by the values and the masks of those of the page
abbrev pub bits_in : List ℕ → List ℕ → ℕ → Bits
bits_in values masks place = record { value = slice_index values place; mask = slice_index masks place }

abbrev pub cell_or : Option WordTable → Bits → Cell
cell_or None bits = IsBits bits
cell_or (Some table) bits = ByTable table

-- the bytes of a page, by their tables, where they have some, their values and their masks
abbrev pub cells_of : List (Option WordTable) → List ℕ → List ℕ → ℕ → Cell
cells_of tables values masks place = cell_or (slice_index_or tables place None) (bits_in values masks place)

-- both have the same bytes
abbrev pub SameCells : (ℕ → Cell) → (ℕ → Cell) → Type 0
SameCells old new = (place : ℕ) → place < 64 → new place ≡ old place

-- a byte may be all that the cell may be, and each other byte is as it was
pub record SetsCell (place : ℕ) (cell : Cell) (old new : ℕ → Cell) : Type 0 where
  pub there : (bytes : Bytes) (byte : ℕ) → byte < 256 → Has bytes cell byte → Has bytes (new place) byte
  pub others : (other : ℕ) → other < 64 → other ≢ place → new other ≡ old other
