-- What the guests of this tool are given.
use Rattle.std.specs.Prelude.{ℕ, ◌+◌, ◌^◌, ◌==◌, ◌&&◌, ◌||◌, nat_le, Bool}

-- the number of bytes of guest memory
abbrev pub memory_size : ℕ
memory_size = 16777216

-- each of so many bytes from the address on is one of guest memory; no bytes are inside anywhere, and bytes past the
-- last address that there is are not inside
abbrev pub is_inside : ℕ → ℕ → ℕ → Bool
is_inside base address count =
    (count == 0)
    || (nat_le base address && (nat_le (address + count) (base + memory_size) && nat_le (address + count) (2 ^ 32)))
