-- Words as numbers: the bits of a word under a mask, a word with some bits in place of those under a mask, and
-- agreement outside a mask. A mask is a word; a string is a list of bits. Bits are taken lowest first.
use Rattle.std.specs.Prelude.{◌≡◌, ℕ, zero, suc, ◌+◌, ◌*◌, ◌/◌, ◌%◌, ◌==◌, List, [], ◌∷◌, Bool, true, false, if◌then◌else◌}
use Rattle.std.specs.Int.{bit_at}

-- the bits of the value at the places of the mask, of the lowest places alone
unfoldable pub bits_below : ℕ → ℕ → ℕ → List Bool
bits_below zero value mask = []
bits_below (suc places) value mask =
    if mask % 2 == 1 then (value % 2 == 1) ∷ bits_below places (value / 2) (mask / 2)
    else bits_below places (value / 2) (mask / 2)

-- the bits of a word under a mask
abbrev pub bits_under : ℕ → ℕ → List Bool
bits_under value mask = bits_below 32 value mask

-- how many places the mask has among the lowest
unfoldable pub count_below : ℕ → ℕ → ℕ
count_below zero mask = 0
count_below (suc places) mask =
    if mask % 2 == 1 then suc (count_below places (mask / 2)) else count_below places (mask / 2)

-- how many bits a mask has
abbrev pub bit_count : ℕ → ℕ
bit_count mask = count_below 32 mask

abbrev pub number_of_bit : Bool → ℕ
number_of_bit true = 1
number_of_bit false = 0

abbrev pub first_bit : List Bool → ℕ
first_bit [] = 0
first_bit (bit ∷ bits) = number_of_bit bit

abbrev pub later_bits : List Bool → List Bool
later_bits [] = []
later_bits (bit ∷ bits) = bits

-- the value with the string's bits at the places of the mask, of the lowest places alone
unfoldable pub patched_below : ℕ → ℕ → ℕ → List Bool → ℕ
patched_below zero value mask bits = 0
patched_below (suc places) value mask bits =
    if mask % 2 == 1 then first_bit bits + 2 * patched_below places (value / 2) (mask / 2) (later_bits bits)
    else value % 2 + 2 * patched_below places (value / 2) (mask / 2) bits

-- a word with the string's bits in place of those under the mask
abbrev pub patched : ℕ → ℕ → List Bool → ℕ
patched value mask bits = patched_below 32 value mask bits

-- two values are equal in every bit that the mask does not have
abbrev pub Agree : ℕ → ℕ → ℕ → Type 0
Agree mask a b = (i : ℕ) → bit_at mask i ≡ 0 → bit_at a i ≡ bit_at b i
