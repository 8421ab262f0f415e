-- What is pushed under a mask comes back when it is taken under that mask, and the rest of a word stays.
use Rattle.std.specs.Prelude.{◌≡◌, ℕ, ◌^◌, ◌<◌, ◌++◌, List, Bool, bit_and}
use Rattle.flow_base.specs.Words.{bits_under, patched, Agree}

-- The bits of a value under a mask, placed under the mask, are the value's part under it; in place of the value's own
-- bits they make the value again. What follows them in the string does not matter.
abbrev pub ReturnLaw : Type 0
ReturnLaw =
    (value mask : ℕ) (rest : List Bool) → value < 2 ^ 32 → mask < 2 ^ 32 →
    (patched 0 mask (bits_under value mask ++ rest) ≡ bit_and value mask)
    × (patched value mask (bits_under value mask ++ rest) ≡ value)

-- A word with a string's bits in place of those under a mask agrees with the word outside the mask.
abbrev pub AgreeLaw : Type 0
AgreeLaw = (value mask : ℕ) (bits : List Bool) → value < 2 ^ 32 → Agree mask (patched value mask bits) value
