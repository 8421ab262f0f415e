-- The lines of a source, and the parts of a line.
use Rattle.std.specs.Prelude.{ℕ, ◌==◌, ◌&&◌, ◌||◌, nat_le, nat_lt, Bool, true, false, List, [], ◌∷◌, length, map}
use Rattle.std.specs.Prelude.{Option, Some, None, option_map, if◌then◌else◌}
use Rattle.std.specs.List.{onto_first, slice_split, list_all, before_first, after_first}

-- the lines of a source: each ends with a line feed, which the last may lack
abbrev pub lines_of : List ℕ → List (List ℕ)
lines_of [] = []
lines_of (byte ∷ rest) = if byte == 10 then [] ∷ lines_of rest else onto_first byte (lines_of rest)

-- what stands before and after the first byte of this value; none where no byte has it
abbrev pub cut_at : ℕ → List ℕ → Option (List ℕ × List ℕ)
cut_at value [] = None
cut_at value (byte ∷ rest) =
    if byte == value then Some ([], rest) else option_map (λ parts. (byte ∷ parts.0, parts.1)) (cut_at value rest)

-- a space or a tab
abbrev pub is_blank : ℕ → Bool
is_blank byte = (byte == 32) || (byte == 9)

abbrev pub without_blanks_before : List ℕ → List ℕ
without_blanks_before [] = []
without_blanks_before (byte ∷ rest) = if is_blank byte then without_blanks_before rest else byte ∷ rest

abbrev pub without_blanks_after : List ℕ → List ℕ
without_blanks_after [] = []
without_blanks_after (byte ∷ rest) = if list_all is_blank (byte ∷ rest) then [] else byte ∷ without_blanks_after rest

-- a text without the blanks around it
abbrev pub trimmed : List ℕ → List ℕ
trimmed text = without_blanks_after (without_blanks_before text)

-- ---- labels

-- a letter, _ or .
abbrev pub is_name_start : ℕ → Bool
is_name_start byte =
    (nat_le 65 byte && nat_le byte 90) || ((nat_le 97 byte && nat_le byte 122) || ((byte == 95) || (byte == 46)))

-- one of these or a digit
abbrev pub is_name_byte : ℕ → Bool
is_name_byte byte = is_name_start byte || (nat_le 48 byte && nat_le byte 57)

-- at most 64 bytes
abbrev pub is_name : List ℕ → Bool
is_name [] = false
is_name (first ∷ rest) = is_name_start first && (list_all is_name_byte rest && nat_lt (length rest) 64)

-- a name and what follows its colon, where the parts are so
abbrev pub named : Option (List ℕ × List ℕ) → Option (List ℕ × List ℕ)
named None = None
named (Some parts) = if is_name parts.0 then Some parts else None

-- the label that a text begins with, and what follows its colon
abbrev pub labelled : List ℕ → Option (List ℕ × List ℕ)
labelled text = named (cut_at 58 text)

-- ---- the parts of a line

-- a line up to its comment, without the blanks around that
abbrev pub text_of : List ℕ → List ℕ
text_of line = trimmed (before_first (λ byte. byte == 35) line)

-- the label that a line begins with
abbrev pub line_label : List ℕ → Option (List ℕ)
line_label line = option_map (λ parts. parts.0) (labelled (text_of line))

-- a blank parts what follows a label from it
abbrev pub stands_apart : List ℕ → Bool
stands_apart [] = true
stands_apart (byte ∷ rest) = is_blank byte

-- the statement of a text, with its label if it has one
abbrev pub body_in : List ℕ → Option (List ℕ × List ℕ) → Option (List ℕ)
body_in text None = Some text
body_in text (Some parts) = if stands_apart parts.1 then Some (without_blanks_before parts.1) else None

-- the statement of a line, which may be empty; none where the label is not parted from it
abbrev pub body_of : List ℕ → Option (List ℕ)
body_of line = body_in (text_of line) (labelled (text_of line))

-- the first word of a statement
abbrev pub first_word : List ℕ → List ℕ
first_word body = before_first is_blank body

-- the operands, which commas part, with blanks around them
abbrev pub operands_in : List ℕ → List (List ℕ)
operands_in [] = []
operands_in (byte ∷ rest) = map trimmed (slice_split (λ value. value == 44) (byte ∷ rest))

-- the operands of a statement
abbrev pub operands_of : List ℕ → List (List ℕ)
operands_of body = operands_in (after_first is_blank body)

-- exactly one, two or three operands
abbrev pub one_of : List (List ℕ) → Option (List ℕ)
one_of (a ∷ []) = Some a
one_of _ = None

abbrev pub two_of : List (List ℕ) → Option (List ℕ × List ℕ)
two_of (a ∷ (b ∷ [])) = Some (a, b)
two_of _ = None

abbrev pub three_of : List (List ℕ) → Option (List ℕ × List ℕ × List ℕ)
three_of (a ∷ (b ∷ (c ∷ []))) = Some (a, b, c)
three_of _ = None
