-- Pieces of 256 bytes, one after another in one list.
use Rattle.std.specs.Prelude.{◌≡◌, ℕ, ◌+◌, ◌*◌, ◌<◌, ◌≤◌, List, length, slice_index}

-- a byte of a piece
abbrev pub byte_in : List ℕ → ℕ → ℕ → ℕ
byte_in pieces piece offset = slice_index pieces (piece * 256 + offset)

-- the piece is one of the list, and has these bytes
pub record IsPiece (pieces : List ℕ) (piece : ℕ) (bytes : List ℕ) : Type 0 where
  pub within : piece * 256 + 256 ≤ length pieces
  pub same : (offset : ℕ) → offset < 256 → byte_in pieces piece offset ≡ slice_index bytes offset

-- more pieces may have come; those that were there stay
pub record Grows (old new : List ℕ) : Type 0 where
  pub longer : length old ≤ length new
  pub same : (index : ℕ) → index < length old → slice_index new index ≡ slice_index old index
