-- A word in hexadecimal is read as the word that it is written from, and as no other.
use Rattle.std.proofs.Common.{◌≡◌, ℕ, ◌+◌, ◌*◌, ◌/◌, ◌%◌, ◌^◌, ◌<◌, true, List, [], ◌++◌}
use Rattle.std.proofs.Common.{drop, slice_index, Option, Some, None, refl, sym, ◌∙◌, ap, subst, arith, rules}
use Rattle.std.specs.Prelude.{IfSome}
use Rattle.std.specs.Str.{bytes_eq}
use Rattle.std.proofs.lemmas.Slice.Eq.{bytes_eq-Decides}
use Rattle.std.proofs.lemmas.List.{append-nil}
use Rattle.flow_base.specs.HexWords.{hex_digit, hex_digits, hex_word}
use Rattle.flow_base.specs.TextWords.{nibble_of, word_at, word_in}
use Rattle.flow_base.proofs.NumberTexts.{gate}

digit_own : (digit : ℕ) → digit < 16 → nibble_of (hex_digit digit) ≡ digit
digit_own digit small = grind arith

linear : (a b c d e f g h i j k l m n o p : ℕ) → a ≡ 16 * b + i → b ≡ 16 * c + j → c ≡ 16 * d + k → d ≡ 16 * e + l →
    e ≡ 16 * f + m → f ≡ 16 * g + n → g ≡ 16 * h + o → p ≡ h →
    p * 268435456 + o * 16777216 + n * 1048576 + m * 65536 + l * 4096 + k * 256 + j * 16 + i ≡ a
linear a b c d e f g h i j k l m n o p q r s t u v w x = omega arith

digits_sum : (word : ℕ) → word < 4294967296 →
    word / 268435456 % 16 * 268435456 + word / 16777216 % 16 * 16777216 + word / 1048576 % 16 * 1048576
    + word / 65536 % 16 * 65536 + word / 4096 % 16 * 4096 + word / 256 % 16 * 256 + word / 16 % 16 * 16 + word % 16 ≡
    word
digits_sum word small =
    let a : word ≡ 16 * (word / 16) + word % 16 = omega arith in
    let b : word / 16 ≡ 16 * (word / 256) + word / 16 % 16 = omega arith in
    let c : word / 256 ≡ 16 * (word / 4096) + word / 256 % 16 = omega arith in
    let d : word / 4096 ≡ 16 * (word / 65536) + word / 4096 % 16 = omega arith in
    let e : word / 65536 ≡ 16 * (word / 1048576) + word / 65536 % 16 = omega arith in
    let f : word / 1048576 ≡ 16 * (word / 16777216) + word / 1048576 % 16 = omega arith in
    let g : word / 16777216 ≡ 16 * (word / 268435456) + word / 16777216 % 16 = omega arith in
    let h : word / 268435456 % 16 ≡ word / 268435456 = omega arith in
    linear word (word / 16) (word / 256) (word / 4096) (word / 65536) (word / 1048576) (word / 16777216)
    (word / 268435456)
    (word % 16) (word / 16 % 16) (word / 256 % 16) (word / 4096 % 16) (word / 65536 % 16) (word / 1048576 % 16)
    (word / 16777216 % 16) (word / 268435456 % 16) a b c d e f g h

pub word_first : (word : ℕ) (rest : List ℕ) → word < 4294967296 → word_at (hex_digits word ++ rest) ≡ word
unfolding word_at
word_first word rest small =
    let below : (quotient : ℕ) → quotient % 16 < 16 = λ quotient. omega arith in
    rw (
      digit_own _ (below (word / 268435456)),
      digit_own _ (below (word / 16777216)),
      digit_own _ (below (word / 1048576)),
      digit_own _ (below (word / 65536)),
      digit_own _ (below (word / 4096)),
      digit_own _ (below (word / 256)),
      digit_own _ (below (word / 16)),
      digit_own _ (below word),
    )
    (digits_sum word small)

pub word_own : (word : ℕ) → word < 4294967296 → word_in (hex_word word) ≡ Some word
unfolding word_in
word_own word small =
    let same : word_at (hex_digits word) ≡ word =
    ap word_at (sym (append-nil (hex_digits word))) ∙ word_first word [] small in
    let equal : bytes_eq (hex_word word) (hex_word word) ≡ true = (bytes_eq-Decides (hex_word word) (hex_word word)).1 refl in
    rw (same, equal) refl

-- ---- what is read was written

digit_small : (byte : ℕ) → nibble_of byte < 16
digit_small byte = grind arith

bounded : (a b c d e f g h : ℕ) → a < 16 → b < 16 → c < 16 → d < 16 → e < 16 → f < 16 → g < 16 → h < 16 →
    a * 268435456 + b * 16777216 + c * 1048576 + d * 65536 + e * 4096 + f * 256 + g * 16 + h < 4294967296
bounded a b c d e f g h i j k l m n o p = omega arith

word_small : (bytes : List ℕ) → word_at bytes < 4294967296
unfolding word_at
word_small bytes =
    bounded _ _ _ _ _ _ _ _ (digit_small (slice_index bytes 0)) (digit_small (slice_index bytes 1))
    (digit_small (slice_index bytes 2)) (digit_small (slice_index bytes 3)) (digit_small (slice_index bytes 4))
    (digit_small (slice_index bytes 5)) (digit_small (slice_index bytes 6)) (digit_small (slice_index bytes 7))

pub record IsWordOf (bytes : List ℕ) (word : ℕ) : Type 0 where
  pub text : bytes ≡ hex_word word
  pub small : word < 4294967296

pub word_found : (bytes : List ℕ) (word : ℕ) → word_in bytes ≡ Some word → IsWordOf bytes word
unfolding word_in
word_found bytes word e =
    let passed = gate (bytes_eq bytes (hex_word (word_at (drop 2 bytes)))) (word_at (drop 2 bytes)) word e in
    let text : bytes ≡ hex_word (word_at (drop 2 bytes)) =
    (bytes_eq-Decides bytes (hex_word (word_at (drop 2 bytes)))).0 passed.0 in
    record {
      text = text ∙ ap hex_word passed.1;
      small = subst (λ (n : ℕ). n < 4294967296) passed.1 (word_small (drop 2 bytes));
    }

-- ---- what the contract says

pub word_is : (bytes : List ℕ) (found : Option ℕ) → found ≡ word_in bytes → IfSome found (λ word. bytes ≡ hex_word word)
word_is bytes None e = search rules
word_is bytes (Some word) e = (word_found bytes word (sym e)).text

pub word_is_none : (bytes : List ℕ) (found : Option ℕ) → found ≡ word_in bytes → found ≡ None →
    (word : ℕ) → word < 2 ^ 32 → ¬ (bytes ≡ hex_word word)
word_is_none bytes found e none word small text =
    let read : word_in bytes ≡ Some word = ap word_in text ∙ word_own word (omega (arith, small)) in
    absurd (let never : Some word ≡ None = sym read ∙ (sym e ∙ none) in cc)
