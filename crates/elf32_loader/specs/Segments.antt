-- Segments of guest memory, and what an image keeps of its own.
use Rattle.std.specs.Prelude.{ℕ, ◌+◌, ◌*◌, ◌/◌, ◌%◌, ◌==◌, ◌&&◌, ◌||◌, nat_le, nat_lt, Bool, true, false, List, [], ◌∷◌, length}
use Rattle.elf32_loader.specs.declared.segments.Segment.{Segment}
use Rattle.flow_base.specs.Guests.{memory_size}

-- the highest base, and the highest end of a segment
abbrev pub highest_base : ℕ
highest_base = 0xfefff000

abbrev pub highest_end : ℕ
highest_end = 0xfffff000

-- the address after the segment's last byte
abbrev pub end_of : Segment → ℕ
end_of segment = segment.address + length segment.bytes

-- an address lies in a segment
abbrev pub holds : Segment → ℕ → Bool
holds segment address = nat_le segment.address address && nat_lt address (end_of segment)

-- an address lies in some segment
abbrev pub some_holds : List Segment → ℕ → Bool
some_holds [] address = false
some_holds (segment ∷ segments) address = holds segment address || some_holds segments address

-- there is a segment, none is empty, and each ends at or below the next one's address
abbrev pub is_ascending : List Segment → Bool
is_ascending [] = false
is_ascending (segment ∷ []) = nat_lt 0 (length segment.bytes)
is_ascending (segment ∷ (next ∷ segments)) =
    nat_lt 0 (length segment.bytes) && (nat_le (end_of segment) next.address && is_ascending (next ∷ segments))

-- an address rounded down to a multiple of 4,096
abbrev pub rounded_down : ℕ → ℕ
rounded_down address = address / 4096 * 4096

-- the base of segments that ascend
abbrev pub is_base_of : List Segment → ℕ → Bool
is_base_of [] base = false
is_base_of (segment ∷ segments) base = (base == rounded_down segment.address) && nat_le base highest_base

-- a segment lies in the memory from the base on
abbrev pub holds_segment : ℕ → Segment → Bool
holds_segment base segment =
    nat_le base segment.address && (nat_le (end_of segment) (base + memory_size) && nat_le (end_of segment) highest_end)

-- all segments do
abbrev pub are_inside : ℕ → List Segment → Bool
are_inside base [] = true
are_inside base (segment ∷ segments) = holds_segment base segment && are_inside base segments

-- an instruction may stand there
abbrev pub is_entry : List Segment → ℕ → Bool
is_entry segments entry = (entry % 4 == 0) && some_holds segments entry
