-- Bytes as the pieces in which some of them are not 0.
use Rattle.std.specs.Prelude.{◌≡◌, ℕ, ◌+◌, ◌*◌, ◌/◌, ◌%◌, ◌<◌, ◌≤◌, ◌==◌, List, [], ◌∷◌, if◌then◌else◌, length}
use Rattle.std.specs.Prelude.{slice_index}
use Rattle.kept_states.specs.declared.laids.Laid.{Laid}
use Rattle.kept_states.specs.Pieces.{byte_in}

-- the byte at an index, 0 where its piece is not laid
abbrev pub laid_byte : List ℕ → List Laid → ℕ → ℕ
laid_byte pieces [] index = 0
laid_byte pieces (laid ∷ others) index =
    if index / 256 == laid.number then byte_in pieces laid.piece (index % 256) else laid_byte pieces others index

-- all that is laid is one of the pieces
abbrev pub LieWithin : List ℕ → List Laid → Type 0
LieWithin pieces [] = Unit {0}
LieWithin pieces (laid ∷ others) = (laid.piece * 256 + 256 ≤ length pieces) × LieWithin pieces others

-- all that is laid has a number below this one
abbrev pub LieBelow : ℕ → List Laid → Type 0
LieBelow count [] = Unit {0}
LieBelow count (laid ∷ others) = (laid.number < count) × LieBelow count others

-- the bytes of a piece of a source of bytes
abbrev pub HasBytes : (ℕ → ℕ) → ℕ → List ℕ → Type 0
HasBytes source number bytes = (offset : ℕ) → offset < 256 → slice_index bytes offset ≡ source (number * 256 + offset)

-- the bytes of the pages from one to before another are 0
abbrev pub AreZeros : (ℕ → ℕ) → ℕ → ℕ → Type 0
AreZeros source from end = (index : ℕ) → from * 4096 ≤ index → index < end * 4096 → source index ≡ 0

-- the first so many pieces of a source of bytes are laid
pub record LaidBelow (pieces : List ℕ) (laids : List Laid) (count : ℕ) (source : ℕ → ℕ) : Type 0 where
  pub same : (index : ℕ) → index < count * 256 → laid_byte pieces laids index ≡ source index
  pub numbers : LieBelow count laids
  pub within : LieWithin pieces laids
