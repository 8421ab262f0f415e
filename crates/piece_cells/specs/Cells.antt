-- Which words a cell may stand for, and what is known of the unknown bytes.
use Rattle.std.specs.Prelude.{◌≡◌, ◌≢◌, ℕ, ◌/◌, ◌%◌, ◌<◌, All, List, Option, Some, None, slice_index}
use Rattle.std.specs.Int.{bit_at}
use Rattle.flow_base.specs.Words.{Agree}
use Rattle.piece_cells.specs.declared.byte_sets.ByteSet.{ByteSet}
use Rattle.piece_cells.specs.declared.cells.Bits.{Bits}
use Rattle.piece_cells.specs.declared.cells.Cell.{Cell}
use Rattle.piece_cells.specs.declared.cells.Cell.TheVariants.{Bits as IsBits, ByTable}
use Rattle.piece_cells.specs.declared.unknowns.Known.{Known}
use Rattle.piece_cells.specs.declared.unknowns.Unknown.{Unknown}

-- the byte is in the set
abbrev pub Holds : ByteSet → ℕ → Type 0
Holds set byte = bit_at (slice_index set.words (byte / 64)) (byte % 64) ≡ 1

-- a value for each unknown byte
abbrev pub Bytes : Type 0
Bytes = Unknown → ℕ

-- the value of a listed unknown byte is in its set
abbrev pub IsIn : Bytes → Known → Type 0
IsIn bytes known = Holds known.set (bytes known.unknown)

-- each unknown byte is a byte, and each that is listed is in its set
pub record Knows (unknowns : List Known) (bytes : Bytes) : Type 0 where
  pub byte : (unknown : Unknown) → bytes unknown < 256
  pub sets : All (IsIn bytes) unknowns

-- the values are the same but for that of one unknown byte, which is in a set
pub record Renames (unknown : Unknown) (set : ByteSet) (before now : Bytes) : Type 0 where
  pub others : (other : Unknown) → other ≢ unknown → now other ≡ before other
  pub byte : now unknown < 256
  pub inside : Holds set (now unknown)

-- the word has these bits, outside their mask
abbrev pub HasBits : Bits → ℕ → Type 0
HasBits bits word = Agree bits.mask bits.value word

-- by these values of the unknown bytes the cell may be the word
abbrev pub Has : Bytes → Cell → ℕ → Type 0
Has bytes (IsBits bits) word = HasBits bits word
Has bytes (ByTable table) word = word ≡ slice_index table.values (bytes table.unknown)

-- there are bits, and the word has them
abbrev pub HasSomeBits : Option Bits → ℕ → Type 0
HasSomeBits (Some bits) word = HasBits bits word
HasSomeBits None word = ⊥

-- the word at a value of an unknown byte, of a cell whose bits are all known or that is by a table
abbrev pub value_at : Cell → ℕ → ℕ
value_at (IsBits bits) byte = bits.value
value_at (ByTable table) byte = slice_index table.values byte

-- the cell has all its bits known, or is by a table over this unknown byte
abbrev pub IsOver : Unknown → Cell → Type 0
IsOver unknown (IsBits bits) = bits.mask ≡ 0
IsOver unknown (ByTable table) = table.unknown ≡ unknown

-- whatever the unknown bytes are, the cell has the word that the values give at the value of this one
abbrev pub IsAt : List Known → Unknown → (ℕ → ℕ) → Cell → Type 0
IsAt unknowns unknown values cell = (bytes : Bytes) → Knows unknowns bytes → Has bytes cell (values (bytes unknown))

-- each word with these bits is the cell's at some byte of the set
abbrev pub Names : Bits → Unknown → ByteSet → Cell → (ℕ → Type 0) → Type 0
Names bits unknown set cell IsWord =
    (word : ℕ) → IsWord word → HasBits bits word →
    (byte : ℕ) × (byte < 256) × Holds set byte × ((bytes : Bytes) → bytes unknown ≡ byte → Has bytes cell word)
