-- What `{:08x}` writes of a word: its eight digits.
use Rattle.std.proofs.Common.{◌≡◌, ◌==◌, ◌<◌, ◌≤◌, ◌+◌, ◌-◌, ◌/◌, ◌%◌, ◌^◌, ℕ, zero, suc, Bool, true, false, List, [], ◌∷◌}
use Rattle.std.proofs.Common.{◌++◌, length, refl, sym, ap, ◌∙◌, arith, cond, append-nil, eqb-true}
use Rattle.std.proofs.lemmas.Bool.{eqb-false}
use Rattle.std.specs.Prelude.{replicate}
use Rattle.std.specs.Fmt.{char_count, digit_glyph, digits, digits_onto, format_spec, padded_integral}
use Rattle.flow_base.specs.HexWords.{hex_digits}

-- the lowest k digits of n, before others
abbrev low_digits : ℕ → ℕ → List ℕ → List ℕ
low_digits zero n acc = acc
low_digits (suc k) n acc = low_digits k (n / 16) (digit_glyph false (n % 16) ∷ acc)

zero_later : (k : ℕ) (acc : List ℕ) → replicate k 48 ++ (48 ∷ acc) ≡ 48 ∷ (replicate k 48 ++ acc)
zero_later zero acc = refl
zero_later (suc k) acc = ap (λ text. 48 ∷ text) (zero_later k acc)

zeros_first : (k : ℕ) (acc : List ℕ) → replicate k 48 ++ acc ≡ low_digits k 0 acc
zeros_first zero acc = refl
zeros_first (suc k) acc = sym (zero_later k acc) ∙ zeros_first k (48 ∷ acc)

-- zeros up to k digits before a text that is written onto others
abbrev filled : ℕ → List ℕ → List ℕ → List ℕ
filled k acc text = replicate (k + length acc - length text) 48 ++ text

-- the text of a number below 16
last_digit : (k m n : ℕ) (acc : List ℕ) → n / 16 ≡ 0 →
    filled (suc k) acc (digit_glyph false (n % 16) ∷ acc) ≡ low_digits (suc k) n acc
last_digit k m n acc e =
    let digit : ℕ = digit_glyph false (n % 16) in
    ap (λ count. replicate count 48 ++ (digit ∷ acc)) {x = suc k + length acc - suc (length acc)} {y = k} (omega arith)
    ∙ (zeros_first k (digit ∷ acc) ∙ ap (λ high. low_digits k high (digit ∷ acc)) (sym e))

-- a digit is a part of the length, wherever it is counted
digit_counted : (k digit : ℕ) (acc text : List ℕ) → filled (suc k) acc text ≡ filled k (digit ∷ acc) text
digit_counted k digit acc text =
    ap (λ count. replicate count 48 ++ text) {x = suc k + length acc - length text}
    {y = k + suc (length acc) - length text} (omega arith)

leads : (k n : ℕ) → n < 16 ^ suc k → (n / 16 == 0) ≡ false → 0 < k
leads zero n small e = absurd (omega (arith, small, eqb-false (n / 16) 0 e))
leads (suc k) n small e = omega arith

one_more : (k m n : ℕ) (acc : List ℕ) (is_last : Bool) → (n / 16 == 0) ≡ is_last →
    (is_last ≡ false → filled k (digit_glyph false (n % 16) ∷ acc)
    (digits_onto m 16 false (n / 16) (digit_glyph false (n % 16) ∷ acc))
    ≡ low_digits k (n / 16) (digit_glyph false (n % 16) ∷ acc)) →
    filled (suc k) acc (digits_onto (suc m) 16 false n acc) ≡ low_digits (suc k) n acc
one_more k m n acc true e high =
    ap (λ (b : Bool). filled (suc k) acc (cond b (digit_glyph false (n % 16) ∷ acc)
    (digits_onto m 16 false (n / 16) (digit_glyph false (n % 16) ∷ acc)))) e
    ∙ last_digit k m n acc (eqb-true (n / 16) 0 e)
one_more k m n acc false e high =
    ap (λ (b : Bool). filled (suc k) acc (cond b (digit_glyph false (n % 16) ∷ acc)
    (digits_onto m 16 false (n / 16) (digit_glyph false (n % 16) ∷ acc)))) e
    ∙ (digit_counted k (digit_glyph false (n % 16)) acc _ ∙ high refl)

filled_digits : (k m n : ℕ) (acc : List ℕ) → 0 < k → k ≤ m → n < 16 ^ k →
    filled k acc (digits_onto m 16 false n acc) ≡ low_digits k n acc
filled_digits zero m n acc some fits small = absurd (omega (arith, some))
filled_digits (suc k) zero n acc some fits small = absurd (omega (arith, fits))
filled_digits (suc k) (suc m) n acc some fits small =
    one_more k m n acc (n / 16 == 0) refl
    (λ e. filled_digits k m (n / 16) (digit_glyph false (n % 16) ∷ acc) (leads k n small e) (omega (arith, fits))
    (omega (arith, small)))

eight_digits : (n : ℕ) → low_digits 8 n [] ≡ hex_digits n
eight_digits n =
    let second : n / 16 / 16 ≡ n / 256 = omega arith in
    let third : n / 256 / 16 ≡ n / 4096 = omega arith in
    let fourth : n / 4096 / 16 ≡ n / 65536 = omega arith in
    let fifth : n / 65536 / 16 ≡ n / 1048576 = omega arith in
    let sixth : n / 1048576 / 16 ≡ n / 16777216 = omega arith in
    let seventh : n / 16777216 / 16 ≡ n / 268435456 = omega arith in
    rw (second, third, fourth, fifth, sixth, seventh)

-- what `{:08x}` writes before and after digits
padded_filled : (text : List ℕ) → padded_integral (format_spec 32 0 4 8 (2 ^ 64 - 1)) false [] text ≡ filled 8 [] text
unfolding padded_integral char_count
padded_filled text =
    ap (λ count. replicate count 48 ++ (text ++ [])) {x = 8 - length text - 0 - 0} {y = 8 + 0 - length text} (omega arith)
    ∙ ap (λ rest. replicate (8 + 0 - length text) 48 ++ rest) (append-nil text)

pub padded_word : (n : ℕ) → n < 2 ^ 32 →
    padded_integral (format_spec 32 0 4 8 (2 ^ 64 - 1)) false [] (digits 16 false n) ≡ hex_digits n
unfolding digits
padded_word n small =
    padded_filled _ ∙ (filled_digits 8 64 n [] (omega arith) (omega arith) small ∙ eight_digits n)
