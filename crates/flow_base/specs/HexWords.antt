-- Words in hexadecimal, in lower case, and the values of digits of either case.
use Rattle.std.specs.Prelude.{ℕ, ◌+◌, ◌-◌, ◌/◌, ◌%◌, ◌&&◌, nat_le, nat_lt, List, [], ◌∷◌, if◌then◌else◌}

-- a digit below 16
abbrev pub hex_digit : ℕ → ℕ
hex_digit digit = if nat_lt digit 10 then 48 + digit else 87 + digit

-- the eight digits of a word
abbrev pub hex_digits : ℕ → List ℕ
hex_digits word =
    hex_digit (word / 268435456 % 16) ∷ hex_digit (word / 16777216 % 16)
    ∷ hex_digit (word / 1048576 % 16) ∷ hex_digit (word / 65536 % 16) ∷ hex_digit (word / 4096 % 16)
    ∷ hex_digit (word / 256 % 16) ∷ hex_digit (word / 16 % 16) ∷ hex_digit (word % 16) ∷ []

-- 0x and the eight digits of a word
abbrev pub hex_word : ℕ → List ℕ
hex_word word = 48 ∷ 120 ∷ hex_digits word

-- the value of a digit of either case; 16 for every other byte
abbrev pub digit_of : ℕ → ℕ
digit_of byte =
    if nat_le 48 byte && nat_le byte 57 then byte - 48 else
    if nat_le 97 byte && nat_le byte 102 then byte - 87 else
    if nat_le 65 byte && nat_le byte 70 then byte - 55 else 16
