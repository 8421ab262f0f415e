-- What is known of words where a branch went one way.
use Rattle.std.specs.Prelude.{◌≡◌, ℕ}
use Rattle.std.specs.Int.{bit_at}

-- the bits of the word under a mask are those of the values
abbrev pub AgreesUnder : ℕ → ℕ → ℕ → Type 0
AgreesUnder mask values word = (i : ℕ) → bit_at mask i ≡ 1 → bit_at values i ≡ bit_at word i

-- the mask has no more than one bit
abbrev pub IsOneBit : ℕ → Type 0
IsOneBit mask = (i j : ℕ) → bit_at mask i ≡ 1 → bit_at mask j ≡ 1 → i ≡ j
