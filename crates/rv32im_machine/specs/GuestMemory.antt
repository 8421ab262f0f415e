-- The pages of guest memory that were written.
use Rattle.std.specs.Prelude.{◌≡◌, ℕ, ◌/◌, ◌<◌, List, Bool, false, slice_index, slice_index_or}

-- each byte of a page of 4,096 bytes that is not touched is 0
abbrev pub AreZeroUntouched : List Bool → List ℕ → Type 0
AreZeroUntouched touched bytes =
    (index : ℕ) → slice_index_or touched (index / 4096) false ≡ false → slice_index bytes index ≡ 0

-- each byte below an index is 0
abbrev pub AreZeroBelow : ℕ → List ℕ → Type 0
AreZeroBelow limit bytes = (index : ℕ) → index < limit → slice_index bytes index ≡ 0
