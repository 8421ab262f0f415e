-- A string of bits as hex text.
use Rattle.std.specs.Prelude.{ℕ, zero, suc, ◌+◌, ◌*◌, List, [], ◌∷◌, ◌++◌, length, Bool, take, drop, codes}
use Rattle.std.specs.Int.{div_ceil}
use Rattle.flow_base.specs.Words.{number_of_bit}
use Rattle.hex.specs.Hex.{encode_lower}

-- the number whose bits are these, lowest first
unfoldable pub spelt_number : List Bool → ℕ
spelt_number [] = 0
spelt_number (bit ∷ bits) = number_of_bit bit + 2 * spelt_number bits

-- byte j holds the bits 8 j to 8 j + 7; bits that the string lacks are 0
abbrev pub byte_at : List Bool → ℕ → ℕ
byte_at bits j = spelt_number (take 8 (drop (8 * j) bits))

-- the first n bytes
unfoldable pub first_bytes : ℕ → List Bool → List ℕ
first_bytes zero bits = []
first_bytes (suc n) bits = first_bytes n bits ++ byte_at bits n ∷ []

-- as few bytes as hold every bit
abbrev pub bytes_of : List Bool → List ℕ
bytes_of bits = first_bytes (div_ceil (length bits) 8) bits

-- the bytes in hex, in lower case; the empty string is a dash
abbrev pub hex_of : List Bool → List ℕ
hex_of [] = codes "-"
hex_of (bit ∷ bits) = encode_lower (bytes_of (bit ∷ bits))
