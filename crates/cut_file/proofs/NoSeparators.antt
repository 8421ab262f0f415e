-- The texts of numbers, words and slots have no separators.
use Rattle.std.proofs.Common.{◌≡◌, ℕ, ◌+◌, ◌/◌, ◌%◌, ◌<◌, ◌≤◌, true, false, List, [], ◌∷◌, ◌++◌, refl, arith}
use Rattle.std.specs.Prelude.{map}
use Rattle.std.specs.Fmt.{decimal}
use Rattle.std.proofs.lemmas.Fmt.{decimal_by_steps}
use Rattle.std.proofs.lemmas.Bool.{ne_eqb}
use Rattle.flow_base.specs.HexWords.{hex_digit, hex_word}
use Rattle.flow_base.specs.declared.points.Slot.{Slot}
use Rattle.flow_base.specs.declared.points.Slot.TheVariants.{First, Second, Address, Result, Decision, Number, Arg0}
use Rattle.flow_base.specs.declared.points.Slot.TheVariants.{Arg1, Arg2, SecretIn, ByteOut, Status, OutReg, OutRange}
use Rattle.flow_base.specs.Points.{is_slot, slot_text}
use Rattle.cut_file.proofs.Parts.{has_byte}

pub clean_append : (separator : ℕ) (first second : List ℕ) → has_byte separator first ≡ false →
    has_byte separator second ≡ false →
    has_byte separator (first ++ second) ≡ false
clean_append separator [] second e f = f
clean_append separator (byte ∷ first) second e f = grind (arith, clean_append separator first second)

pub clean_cons : (separator byte : ℕ) (bytes : List ℕ) → (byte ≡ separator → ⊥) → has_byte separator bytes ≡ false →
    has_byte separator (byte ∷ bytes) ≡ false
clean_cons separator byte bytes other e = rw (ne_eqb byte separator other) e

pub decimal_clean : (separator number : ℕ) → separator < 48 → number < 4294967296 →
    has_byte separator (decimal number) ≡ false
decimal_clean separator number low small =
    decimal_by_steps (λ (n : ℕ) (ds : List ℕ). has_byte separator ds ≡ false)
    (λ (n : ℕ) h. clean_cons separator (48 + n) [] (λ e. omega (arith, e)) refl)
    (λ (n : ℕ) (ds : List ℕ) h ih. clean_append separator ds ((48 + n % 10) ∷ []) ih
    (clean_cons separator (48 + n % 10) [] (λ e. omega (arith, e)) refl))
    number (omega arith)

hex_high : (digit : ℕ) → 48 ≤ hex_digit digit
hex_high digit = grind arith

digits_clean : (separator : ℕ) (digits : List ℕ) → separator < 48 → has_byte separator (map hex_digit digits) ≡ false
digits_clean separator [] low = refl
digits_clean separator (digit ∷ digits) low =
    clean_cons separator (hex_digit digit) (map hex_digit digits) (λ e. omega (arith, hex_high digit, e))
    (digits_clean separator digits low)

pub hex_word_clean : (separator word : ℕ) → separator < 48 → has_byte separator (hex_word word) ≡ false
hex_word_clean separator word low =
    let digits : List ℕ = (word / 268435456 % 16) ∷ (word / 16777216 % 16) ∷ (word / 1048576 % 16) ∷
    (word / 65536 % 16)
    ∷ (word / 4096 % 16) ∷ (word / 256 % 16) ∷ (word / 16 % 16) ∷ (word % 16) ∷ [] in
    clean_cons separator 48 (120 ∷ map hex_digit digits) (λ e. omega (arith, e))
    (clean_cons separator 120 (map hex_digit digits) (λ e. omega (arith, e)) (digits_clean separator digits low))

pub slot_clean : (separator : ℕ) (slot : Slot) → separator < 48 → is_slot slot ≡ true →
    has_byte separator (slot_text slot) ≡ false
slot_clean separator First low known = grind arith
slot_clean separator Second low known = grind arith
slot_clean separator Address low known = grind arith
slot_clean separator Result low known = grind arith
slot_clean separator Decision low known = grind arith
slot_clean separator Number low known = grind arith
slot_clean separator Arg0 low known = grind arith
slot_clean separator Arg1 low known = grind arith
slot_clean separator Arg2 low known = grind arith
slot_clean separator SecretIn low known = grind arith
slot_clean separator ByteOut low known = grind arith
slot_clean separator Status low known = grind arith
slot_clean separator (OutReg register) low known =
    let small : register < 4294967296 = grind arith in
    clean_cons separator 120 (decimal register) (λ e. omega (arith, e)) (decimal_clean separator register low small)
slot_clean separator (OutRange range) low known =
    let small : range < 4294967296 = grind arith in
    clean_cons separator 114 (decimal range) (λ e. omega (arith, e)) (decimal_clean separator range low small)
