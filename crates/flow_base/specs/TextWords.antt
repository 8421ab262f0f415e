-- What a text says in its first bytes, and what a whole word is the text of: numbers in decimal without leading zeros,
-- words in hexadecimal, and slots.
use Rattle.std.specs.Prelude.{ℕ, ◌+◌, ◌-◌, ◌*◌, ◌%◌, ◌^◌, ◌==◌, ◌&&◌, nat_le, nat_lt, Bool, true, false, not, List, [], ◌∷◌}
use Rattle.std.specs.Prelude.{drop, slice_index, if◌then◌else◌, Option, Some, None}
use Rattle.std.specs.Str.{bytes_eq}
use Rattle.flow_base.specs.HexWords.{digit_of, hex_word}
use Rattle.flow_base.specs.Points.{is_slot, slot_text}
use Rattle.flow_base.specs.declared.points.Slot.{Slot}
use Rattle.flow_base.specs.declared.points.Slot.TheVariants as slots

-- ---- numbers

abbrev pub is_digit : ℕ → Bool
is_digit byte = nat_le 48 byte && nat_le byte 57

abbrev pub begins_with_digit : List ℕ → Bool
begins_with_digit [] = false
begins_with_digit (byte ∷ bytes) = is_digit byte

-- a number with one digit more; one of more than 48 bits stays as it is
unfoldable pub grown : ℕ → ℕ → ℕ
grown number byte = if nat_lt number (2 ^ 48) then number * 10 + (byte - 48) else number

-- the number of the digits in front, after those of another, and the rest
abbrev pub digits_at : ℕ → List ℕ → ℕ × List ℕ
digits_at number [] = (number, [])
digits_at number (byte ∷ bytes) =
    if is_digit byte then digits_at (grown number byte) bytes else (number, byte ∷ bytes)

unfoldable pub number_at : List ℕ → ℕ × List ℕ
number_at bytes = digits_at 0 bytes

abbrev pub is_nothing : List ℕ → Bool
is_nothing [] = true
is_nothing (byte ∷ bytes) = false

-- some bytes, of which the first is no 0 that another follows
abbrev pub has_no_leading_zero : List ℕ → Bool
has_no_leading_zero [] = false
has_no_leading_zero (byte ∷ []) = true
has_no_leading_zero (byte ∷ (next ∷ bytes)) = not (byte == 48)

-- the number of 32 bits that has this text in decimal
unfoldable pub number_in : List ℕ → Option ℕ
number_in bytes =
    if is_nothing (number_at bytes).1 && (has_no_leading_zero bytes && nat_lt (number_at bytes).0 4294967296)
    then Some (number_at bytes).0
    else None

-- ---- words

-- the value of a hexadecimal digit; of another byte, 0
abbrev pub nibble_of : ℕ → ℕ
nibble_of byte = digit_of byte % 16

-- the word of the first eight digits
unfoldable pub word_at : List ℕ → ℕ
word_at bytes =
    nibble_of (slice_index bytes 0) * 268435456 + nibble_of (slice_index bytes 1) * 16777216
    + nibble_of (slice_index bytes 2) * 1048576 + nibble_of (slice_index bytes 3) * 65536
    + nibble_of (slice_index bytes 4) * 4096 + nibble_of (slice_index bytes 5) * 256
    + nibble_of (slice_index bytes 6) * 16 + nibble_of (slice_index bytes 7)

-- the word that has this text: 0x and eight digits
unfoldable pub word_in : List ℕ → Option ℕ
word_in bytes =
    if bytes_eq bytes (hex_word (word_at (drop 2 bytes))) then Some (word_at (drop 2 bytes)) else None

-- ---- slots

-- the slot with a name of these two letters, if any has
abbrev pub named_slot : ℕ → ℕ → Slot
named_slot first second =
    if first == 117 then (if second == 49 then slots.First else slots.Second)
    else if first == 97 then (if second == 100 then slots.Address else if second == 48 then slots.Arg0
    else if second == 49 then slots.Arg1 else slots.Arg2)
    else if first == 114 then slots.Result
    else if first == 100 then slots.Decision
    else if first == 110 then slots.Number
    else if first == 105 then slots.SecretIn
    else if first == 111 then slots.ByteOut
    else slots.Status

-- a number of 8 bits, or else 0
abbrev pub short_number : ℕ → ℕ
short_number number = if nat_lt number 256 then number else 0

-- the slot that may stand in front, and the rest
unfoldable pub slot_at : List ℕ → Slot × List ℕ
slot_at bytes =
    if slice_index bytes 0 == 120
    then (slots.OutReg (short_number (number_at (drop 1 bytes)).0), (number_at (drop 1 bytes)).1)
    else if (slice_index bytes 0 == 114) && is_digit (slice_index bytes 1)
    then (slots.OutRange (short_number (number_at (drop 1 bytes)).0), (number_at (drop 1 bytes)).1)
    else (named_slot (slice_index bytes 0) (slice_index bytes 1), drop 2 bytes)

-- the slot that has this text
unfoldable pub slot_in : List ℕ → Option Slot
slot_in bytes =
    if is_slot (slot_at bytes).0 && bytes_eq bytes (slot_text (slot_at bytes).0)
    then Some (slot_at bytes).0
    else None
