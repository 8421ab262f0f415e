-- Addresses as texts, and whole numbers as words.
use Rattle.std.specs.Prelude.{ℕ, ◌+◌, ◌-◌, ◌*◌, ◌%◌, ◌==◌, ◌&&◌, nat_le, nat_lt, ℤ, pos, negsuc, List, [], ◌∷◌, length}
use Rattle.std.specs.Prelude.{Option, Some, None, option_and_then, if◌then◌else◌}
use Rattle.flow_base.specs.HexWords.{digit_of}

-- the word whose digits follow those of another word; none where a byte is no digit, or past 32 bits
abbrev pub digits_after : ℕ → List ℕ → Option ℕ
digits_after word [] = Some word
digits_after word (byte ∷ bytes) =
    if nat_lt (digit_of byte) 16 && nat_lt word 268435456 then digits_after (word * 16 + digit_of byte) bytes else None

-- the word of one to eight digits
abbrev pub digits_in : List ℕ → Option ℕ
digits_in digits = if nat_le 1 (length digits) && nat_le (length digits) 8 then digits_after 0 digits else None

-- the word of 0x and its digits
abbrev pub word_in : List ℕ → Option ℕ
word_in [] = None
word_in (first ∷ []) = None
word_in (first ∷ (second ∷ digits)) = if (first == 48) && (second == 120) then digits_in digits else None

-- a word that is a multiple of 4
abbrev pub aligned : ℕ → Option ℕ
aligned word = if word % 4 == 0 then Some word else None

-- the address of an instruction by its text
abbrev pub place_in : List ℕ → Option ℕ
place_in text = option_and_then aligned (word_in text)

-- a whole number from -2^31 to 2^32 - 1, modulo 2^32
abbrev pub word_of : ℤ → Option ℕ
word_of (pos n) = if nat_lt n 4294967296 then Some n else None
word_of (negsuc n) = if nat_lt n 2147483648 then Some (4294967295 - n) else None
