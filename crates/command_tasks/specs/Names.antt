-- A name as it is printed: a control byte of ASCII, 00 to 1f or 7f, stands as `\x` and its two hexadecimal digits.
use Rattle.std.specs.Prelude.{ℕ, ◌/◌, ◌%◌, ◌==◌, nat_lt, ◌||◌, List, [], ◌∷◌, ◌++◌, Bool, if◌then◌else◌}
use Rattle.flow_base.specs.HexWords.{hex_digit}

abbrev pub is_control : ℕ → Bool
is_control byte = nat_lt byte 32 || byte == 127

abbrev pub escape : ℕ → List ℕ
escape byte = 92 ∷ 120 ∷ hex_digit (byte / 16 % 16) ∷ hex_digit (byte % 16) ∷ []

abbrev pub shown : List ℕ → List ℕ
shown [] = []
shown (byte ∷ bytes) = (if is_control byte then escape byte else byte ∷ []) ++ shown bytes
