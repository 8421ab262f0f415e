-- Marks of the addresses of instructions, one for each word of code modulo 65,536.
use Rattle.std.specs.Prelude.{ℕ, ◌/◌, ◌%◌, List, Bool, false, slice_index_or}

-- the place of the mark of an address; addresses that are 65,536 words apart share it
abbrev pub mark_place : ℕ → ℕ
mark_place address = address / 4 % 65536

-- the mark of the address is set
abbrev pub has_mark : List Bool → ℕ → Bool
has_mark marks address = slice_index_or marks (mark_place address) false
