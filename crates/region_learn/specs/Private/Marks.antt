-- Bytes of guest memory that are marked: a bit for each, in pages of 4,096 bytes that have no words before the first mark.
use Rattle.std.specs.Prelude.{ℕ, ◌/◌, ◌%◌, ◌==◌, Bool, List, [], slice_index, slice_index_or}
use Rattle.std.specs.Int.{bit_at}

-- the bit with an index
abbrev pub has_bit : ℕ → ℕ → Bool
has_bit word index = bit_at word index == 1

-- the byte with an index in a page of words is marked
abbrev pub page_has : List ℕ → ℕ → Bool
page_has words index = has_bit (slice_index words (index / 32)) (index % 32)

-- the byte with an index, counted from the lowest address of guest memory
abbrev pub marks_have : List (List ℕ) → ℕ → Bool
marks_have pages index = page_has (slice_index_or pages (index / 4096) []) (index % 4096)
