-- The address that is written is read.
use Rattle.std.proofs.Common.{◌≡◌, ◌∙◌, ℕ, ◌+◌, ◌*◌, ◌/◌, ◌%◌, ◌<◌, ◌==◌, true, List, [], ◌∷◌}
use Rattle.std.proofs.Common.{Some, ap, arith}
use Rattle.flow_base.specs.HexWords.{digit_of, hex_digit, hex_word}
use Rattle.enclosure_regions.specs.Words.{digits_after, place_in, word_in}

digit_own : (digit : ℕ) → digit < 16 → digit_of (hex_digit digit) ≡ digit
digit_own digit small = grind arith

digit_after : (word digit : ℕ) (bytes : List ℕ) → digit < 16 → word < 268435456 →
    digits_after word (hex_digit digit ∷ bytes) ≡ digits_after (word * 16 + digit) bytes
digit_after word digit bytes small fits = grind (arith, digit_own digit small)

-- the digits of a quotient, and one more
next_digit : (quotient part : ℕ) (bytes : List ℕ) → quotient ≡ part / 16 → part < 4294967296 →
    digits_after quotient (hex_digit (part % 16) ∷ bytes) ≡ digits_after part bytes
next_digit quotient part bytes is small =
    let e : quotient * 16 + part % 16 ≡ part = omega arith in
    digit_after quotient (part % 16) bytes (omega arith) (omega arith) ∙ ap (λ (n : ℕ). digits_after n bytes) e

pub word_own : (word : ℕ) → word < 4294967296 → word_in (hex_word word) ≡ Some word
word_own word small =
    let last : List ℕ = hex_digit (word % 16) ∷ [] in
    let last2 : List ℕ = hex_digit (word / 16 % 16) ∷ last in
    let last3 : List ℕ = hex_digit (word / 256 % 16) ∷ last2 in
    let last4 : List ℕ = hex_digit (word / 4096 % 16) ∷ last3 in
    let last5 : List ℕ = hex_digit (word / 65536 % 16) ∷ last4 in
    let last6 : List ℕ = hex_digit (word / 1048576 % 16) ∷ last5 in
    let last7 : List ℕ = hex_digit (word / 16777216 % 16) ∷ last6 in
    next_digit 0 (word / 268435456) last7 (omega arith) (omega arith)
    ∙ next_digit (word / 268435456) (word / 16777216) last6 (omega arith) (omega arith)
    ∙ next_digit (word / 16777216) (word / 1048576) last5 (omega arith) (omega arith)
    ∙ next_digit (word / 1048576) (word / 65536) last4 (omega arith) (omega arith)
    ∙ next_digit (word / 65536) (word / 4096) last3 (omega arith) (omega arith)
    ∙ next_digit (word / 4096) (word / 256) last2 (omega arith) (omega arith)
    ∙ next_digit (word / 256) (word / 16) last (omega arith) (omega arith)
    ∙ next_digit (word / 16) word [] (omega arith) (omega arith)

pub place_own : (word : ℕ) → word < 4294967296 → (word % 4 == 0) ≡ true → place_in (hex_word word) ≡ Some word
place_own word small even = grind (arith, word_own word small)
