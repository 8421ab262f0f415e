-- Which bytes are in sets that are made of others.
use Rattle.std.proofs.Common.{◌≡◌, ◌≢◌, ℕ, zero, suc, ◌*◌, ◌/◌, ◌%◌, ◌^◌, ◌<◌, max, min, List, [], ◌∷◌}
use Rattle.std.proofs.Common.{length, refl, ap, ap₂, subst, ◌∙◌, ⊎_elim, arith, w64, get_or, slice_index, slice_set}
use Rattle.std.proofs.Common.{get_or-set_other}
use Rattle.std.specs.Prelude.{bit_and, bit_or}
use Rattle.std.specs.Int.{bit_at}
use Rattle.std.proofs.lemmas.Bool.{cases_eq}
use Rattle.std.proofs.lemmas.Grind.{get_or-set_at}
use Rattle.std.proofs.lemmas.Nat.Bits.{bit_at_and, bit_at_or, bit_at_ones, bit_at-lt, bit_at_set_same}
use Rattle.piece_cells.specs.Cells.{Holds}

-- ---- the four words of all bytes

all_at : (q r : ℕ) → q < 4 → r < 64 →
    bit_at (slice_index (18446744073709551615 ∷ 18446744073709551615 ∷ 18446744073709551615 ∷ 18446744073709551615 ∷ []) q) r ≡ 1
all_at zero r below inside = bit_at_ones 64 r inside
all_at (suc zero) r below inside = bit_at_ones 64 r inside
all_at (suc (suc zero)) r below inside = bit_at_ones 64 r inside
all_at (suc (suc (suc zero))) r below inside = bit_at_ones 64 r inside
all_at (suc (suc (suc (suc q)))) r below inside = absurd (omega arith)

pub all_hold : (byte : ℕ) → byte < 256 →
    Holds (record { words = 18446744073709551615 ∷ 18446744073709551615 ∷ 18446744073709551615 ∷ 18446744073709551615 ∷ [] }) byte
all_hold byte inside = all_at (byte / 64) (byte % 64) (omega arith) (omega arith)

-- ---- one more byte

or_keeps : (a b i : ℕ) → bit_at a i ≡ 1 → bit_at (bit_or a b) i ≡ 1
or_keeps a b i one = bit_at_or a b i ∙ kept (bit_at a i) (bit_at b i) one (bit_at-lt b i)
  where
    kept : (x y : ℕ) → x ≡ 1 → y < 2 → max x y ≡ 1
    kept x y e below = omega arith

or_keeps_second : (a b i : ℕ) → bit_at b i ≡ 1 → bit_at (bit_or a b) i ≡ 1
or_keeps_second a b i one = bit_at_or a b i ∙ kept (bit_at a i) (bit_at b i) one (bit_at-lt a i)
  where
    kept : (x y : ℕ) → y ≡ 1 → x < 2 → max x y ≡ 1
    kept x y e below = omega arith

and_keeps : (a b i : ℕ) → bit_at a i ≡ 1 → bit_at b i ≡ 1 → bit_at (bit_and a b) i ≡ 1
and_keeps a b i one other = bit_at_and a b i ∙ ap₂ min one other

pub insert_keeps : (words : List ℕ) (q more k : ℕ) → q < length words → Holds (record { words = words }) k →
    Holds (record { words = slice_set words q (bit_or (get_or words q 0) more) }) k
insert_keeps words q more k inside holds = ⊎_elim
    (λ (same : k / 64 ≡ q).
    let there : get_or (slice_set words q (bit_or (get_or words q 0) more)) (k / 64) 0 ≡ bit_or (get_or words q 0) more =
    get_or-set_at words q (k / 64) (bit_or (get_or words q 0) more) 0 same inside in
    let before : bit_at (get_or words q 0) (k % 64) ≡ 1 = subst (λ at. bit_at (get_or words at 0) (k % 64) ≡ 1) same holds in
    ap (λ word. bit_at word (k % 64)) there ∙ or_keeps (get_or words q 0) more (k % 64) before)
    (λ (other : k / 64 ≢ q).
    ap (λ word. bit_at word (k % 64)) (get_or-set_other words q (k / 64) (bit_or (get_or words q 0) more) 0 other) ∙ holds)
    (cases_eq (k / 64) q)

pub insert_has : (words : List ℕ) (byte : ℕ) → byte / 64 < length words →
    Holds (record { words = slice_set words (byte / 64) (bit_or (get_or words (byte / 64) 0) (1 * 2 ^ (byte % 64) % 2 ^ 64)) }) byte
insert_has words byte inside =
    let there : get_or (slice_set words (byte / 64) (bit_or (get_or words (byte / 64) 0) (1 * 2 ^ (byte % 64) % 2 ^ 64))) (byte / 64) 0
    ≡ bit_or (get_or words (byte / 64) 0) (1 * 2 ^ (byte % 64) % 2 ^ 64) =
    get_or-set_at words (byte / 64) (byte / 64) (bit_or (get_or words (byte / 64) 0) (1 * 2 ^ (byte % 64) % 2 ^ 64)) 0 refl inside in
    ap (λ word. bit_at word (byte % 64)) there ∙ bit_at_set_same w64 (get_or words (byte / 64) 0) (byte % 64) (omega arith)

-- ---- the words of two sets together

abbrev pub each_word : (ℕ → ℕ → ℕ) → List ℕ → List ℕ → List ℕ
each_word f a b =
    f (get_or a 0 0) (get_or b 0 0) ∷ f (get_or a 1 0) (get_or b 1 0) ∷ f (get_or a 2 0) (get_or b 2 0)
    ∷ f (get_or a 3 0) (get_or b 3 0) ∷ []

word_of_each : (f : ℕ → ℕ → ℕ) (a b : List ℕ) (q : ℕ) → q < 4 →
    get_or (each_word f a b) q 0 ≡ f (get_or a q 0) (get_or b q 0)
word_of_each f a b zero below = refl
word_of_each f a b (suc zero) below = refl
word_of_each f a b (suc (suc zero)) below = refl
word_of_each f a b (suc (suc (suc zero))) below = refl
word_of_each f a b (suc (suc (suc (suc q)))) below = absurd (omega arith)

pub meet_holds : (a b : List ℕ) (byte : ℕ) → byte < 256 → Holds (record { words = a }) byte →
    Holds (record { words = b }) byte → Holds (record { words = each_word bit_and a b }) byte
meet_holds a b byte inside first second =
    ap (λ word. bit_at word (byte % 64)) (word_of_each bit_and a b (byte / 64) (omega arith))
    ∙ and_keeps (get_or a (byte / 64) 0) (get_or b (byte / 64) 0) (byte % 64) first second

pub join_first : (a b : List ℕ) (byte : ℕ) → byte < 256 → Holds (record { words = a }) byte →
    Holds (record { words = each_word bit_or a b }) byte
join_first a b byte inside first =
    ap (λ word. bit_at word (byte % 64)) (word_of_each bit_or a b (byte / 64) (omega arith))
    ∙ or_keeps (get_or a (byte / 64) 0) (get_or b (byte / 64) 0) (byte % 64) first

pub join_second : (a b : List ℕ) (byte : ℕ) → byte < 256 → Holds (record { words = b }) byte →
    Holds (record { words = each_word bit_or a b }) byte
join_second a b byte inside second =
    ap (λ word. bit_at word (byte % 64)) (word_of_each bit_or a b (byte / 64) (omega arith))
    ∙ or_keeps_second (get_or a (byte / 64) 0) (get_or b (byte / 64) 0) (byte % 64) second
