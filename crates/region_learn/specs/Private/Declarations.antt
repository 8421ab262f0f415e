-- The declaration that notes of a region give.
use Rattle.std.specs.Prelude.{◌≡◌, ℕ, ◌+◌, ◌<◌, ◌-◌, ◌&&◌, nat_le, not, Bool, true, List, length, slice_index_or}
use Rattle.std.specs.List.{filter}
use Rattle.flow_base.specs.Guests.{memory_size}
use Rattle.enclosure_regions.specs.declared.region_parts.Region.{Region}
use Rattle.enclosure_regions.specs.Regions.{are_apart, are_registers}
use Rattle.enclosure_regions.specs.Orders.{all_registers}
use Rattle.region_learn.specs.declared.notes.Notes.{Notes}
use Rattle.region_learn.specs.Learnt.{have_byte}
use Rattle.region_learn.specs.Private.Marks.{has_bit, marks_have}
use Rattle.region_learn.specs.Private.Spans.{SpansBelow}

abbrev pub kept_bit : ℕ → ℕ → ℕ → Bool
kept_bit written changed register = has_bit written register && not (has_bit changed register)

abbrev pub out_bit : ℕ → ℕ → ℕ → Bool
out_bit written changed register = has_bit written register && has_bit changed register

-- the region with what its notes say
pub record Declares (region : Region) (notes : Notes) (declared : Region) : Type 0 where
  pub id : declared.id ≡ region.id
  pub enter : declared.enter ≡ region.enter
  pub leave : declared.leave ≡ region.leave
  pub word : notes.written < 4294967296
  pub keep : declared.keep ≡ filter (kept_bit notes.written notes.changed) all_registers
  pub outs : declared.outs ≡ filter (out_bit notes.written notes.changed) all_registers
  pub spans : SpansBelow (notes.base + memory_size) declared.ranges
  pub bytes : (address : ℕ) →
      have_byte declared.ranges address ≡ (nat_le notes.base address && marks_have notes.bytes (address - notes.base))

-- the same for all regions
pub record DeclareAll (regions : List Region) (book : List Notes) (declared : List Region) : Type 0 where
  pub count : length declared ≡ length regions
  pub each : (place : ℕ) (region other : Region) (notes : Notes) → place < length regions →
      Declares (slice_index_or regions place region) (slice_index_or book place notes)
      (slice_index_or declared place other)

-- a region whose registers and ranges keep the rules but for how many ranges and bytes there may be
pub record IsDraft (region : Region) : Type 0 where
  pub outs : are_registers region.outs ≡ true
  pub keep : are_registers region.keep ≡ true
  pub apart : are_apart region.outs region.keep ≡ true
  pub spans : SpansBelow 4294967295 region.ranges
