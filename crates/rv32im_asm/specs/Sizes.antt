-- The sizes of lines in bytes, and the places of labels.
use Rattle.std.specs.Prelude.{ℕ, ℤ, pos, nat_abs, int_le, nat_le, ◌+◌, ◌&&◌, Bool, false, List, [], ◌∷◌, take}
use Rattle.std.specs.Prelude.{Option, Some, None, option_map, if◌then◌else◌}
use Rattle.std.specs.Option.{option_and_then}
use Rattle.std.specs.List.{position_from}
use Rattle.std.specs.Str.{bytes_eq}
use Rattle.rv32im_asm.specs.Lines.{line_label}
use Rattle.rv32im_asm.specs.Operands.{both}
use Rattle.rv32im_asm.specs.Statements.{Meaning, said_by}
use Rattle.rv32im_asm.specs.declared.places.Place.{Place}
use Rattle.rv32im_asm.specs.declared.statements.Operation.{Operation}
use Rattle.rv32im_asm.specs.declared.statements.Operation.TheVariants.{Nothing, Constant, Byte, Zero}

abbrev pub is_between : ℤ → ℤ → ℤ → Bool
is_between low high number = int_le low number && int_le number high

-- the bytes of an operation; none where .zero has a number out of its field
abbrev pub size_with : Operation → ℤ → Option ℕ
size_with Nothing number = Some 0
size_with (Constant rd) number = Some 8
size_with Byte number = Some 1
size_with Zero number = if is_between (pos 0) (pos 1048576) number then Some (nat_abs number) else None
size_with _ number = Some 4

abbrev pub size_of : Meaning → Option ℕ
size_of meaning = size_with meaning.operation meaning.value.number

-- the bytes of a line; none where the line is not of a form
abbrev pub line_size : List ℕ → Option ℕ
line_size line = option_and_then size_of (said_by line)

-- the bytes of lines
abbrev pub total_size : List (List ℕ) → Option ℕ
total_size [] = Some 0
total_size (line ∷ lines) = both (λ size rest. size + rest) (line_size line) (total_size lines)

-- a label is this one
abbrev pub is_label : List ℕ → Option (List ℕ) → Bool
is_label name None = false
is_label name (Some label) = bytes_eq label name

-- the first line that begins with a label, and how many bytes the lines before it have
abbrev pub place_of : List (List ℕ) → List ℕ → Option Place
place_of lines name =
    option_map (λ index. record { index = index; offset = total_size (take index lines) })
    (position_from (λ line. is_label name (line_label line)) 0 lines)

-- a label as it is known up to the line of an index: after that line it has no address
abbrev pub up_to : ℕ → Place → Place
up_to reach place = if nat_le place.index reach then place else record { index = place.index; offset = None }

abbrev pub places_up_to : ℕ → (List ℕ → Option Place) → List ℕ → Option Place
places_up_to reach places name = option_map (up_to reach) (places name)
