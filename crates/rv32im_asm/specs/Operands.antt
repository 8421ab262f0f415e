-- Operands: numbers, and a number with a register in parentheses.
use Rattle.std.specs.Prelude.{ℕ, ℤ, pos, neg_ℤ, ◌+◌, ◌*◌, ◌==◌, ◌&&◌, nat_le, nat_lt, Bool, true, false, List}
use Rattle.std.specs.Prelude.{[], ◌∷◌, Option, Some, None, option_map, if◌then◌else◌}
use Rattle.std.specs.Option.{option_and_then}
use Rattle.flow_base.specs.HexWords.{digit_of}
use Rattle.flow_base.specs.RegisterNames.{register_named}
use Rattle.rv32im_asm.specs.Lines.{cut_at, is_name}
use Rattle.rv32im_asm.specs.declared.statements.Wanted.{Wanted}
use Rattle.rv32im_asm.specs.declared.statements.Wanted.TheVariants.{Number, Target, Label}

-- ---- numbers

-- the number whose digits in a base follow those of another number; none where a byte is no digit
abbrev pub digits_after : ℕ → ℕ → List ℕ → Option ℕ
digits_after base number [] = Some number
digits_after base number (byte ∷ rest) =
    if nat_lt (digit_of byte) base then digits_after base (number * base + digit_of byte) rest else None

-- the number of one or more digits
abbrev pub digits_in : ℕ → List ℕ → Option ℕ
digits_in base [] = None
digits_in base (byte ∷ rest) = digits_after base 0 (byte ∷ rest)

-- decimal digits, or 0x and hexadecimal digits
abbrev pub magnitude_of : List ℕ → Option ℕ
magnitude_of [] = None
magnitude_of (first ∷ []) = digits_in 10 (first ∷ [])
magnitude_of (first ∷ (second ∷ rest)) =
    if (first == 48) && (second == 120) then digits_in 16 rest else digits_in 10 (first ∷ (second ∷ rest))

-- a number is from -2^31 to 2^32 - 1
abbrev pub at_most : ℕ → (ℕ → ℤ) → ℕ → Option ℤ
at_most limit sign magnitude = if nat_le magnitude limit then Some (sign magnitude) else None

-- the number whose digits follow a -, and that of digits alone
abbrev pub negative_of : List ℕ → Option ℤ
negative_of text = option_and_then (at_most 2147483648 (λ magnitude. neg_ℤ (pos magnitude))) (magnitude_of text)

abbrev pub positive_of : List ℕ → Option ℤ
positive_of text = option_and_then (at_most 4294967295 pos) (magnitude_of text)

-- a number, with an optional - before its digits
abbrev pub written_number : List ℕ → Option ℤ
written_number [] = None
written_number (byte ∷ rest) = if byte == 45 then negative_of rest else positive_of (byte ∷ rest)

abbrev pub is_empty : List ℕ → Bool
is_empty [] = true
is_empty (byte ∷ rest) = false

-- ---- several at once

-- what is made of values that are all there
abbrev pub both : {A B C : Type 0} → (A → B → C) → Option A → Option B → Option C
both make None second = None
both make (Some a) None = None
both make (Some a) (Some b) = Some (make a b)

abbrev pub all_three : {A B C D : Type 0} → (A → B → C → D) → Option A → Option B → Option C → Option D
all_three make None second third = None
all_three make (Some a) second third = both (make a) second third

-- ---- a number with a register in parentheses

-- the register before a closing parenthesis that ends the text
abbrev pub closed : Option (List ℕ × List ℕ) → Option ℕ
closed None = None
closed (Some parts) = if is_empty parts.1 then register_named parts.0 else None

abbrev pub in_parentheses : Option (List ℕ × List ℕ) → Option (ℤ × ℕ)
in_parentheses None = None
in_parentheses (Some parts) =
    both (λ number register. (number, register)) (written_number parts.0) (closed (cut_at 41 parts.1))

-- the number and the register
abbrev pub place_of : List ℕ → Option (ℤ × ℕ)
place_of text = in_parentheses (cut_at 40 text)

-- ---- values

-- a number that is given, or that stands for a label
pub record Value : Type 0 where
  pub number : ℤ
  pub label : Option (List ℕ)

abbrev pub plain : ℤ → Value
plain number = record { number = number; label = None }

abbrev pub label_value : List ℕ → Value
label_value name = record { number = pos 0; label = Some name }

abbrev pub label_operand : List ℕ → Option Value
label_operand text = if is_name text then Some (label_value text) else None

abbrev pub number_in : List ℕ → Option Value
number_in text = option_map plain (written_number text)

-- a number, a label, or a target of a branch or jump: a label or the offset in bytes
abbrev pub value_in : Wanted → List ℕ → Option Value
value_in Number text = number_in text
value_in Label text = label_operand text
value_in Target text = if is_name text then Some (label_value text) else number_in text
