-- What a page has after a byte of it is set.
use Rattle.std.proofs.Common.{◌≡◌, ◌≢◌, ℕ, ◌+◌, ◌^◌, ◌<◌, ◌≤◌, min, List, length, Option, Some, None, refl, sym, ap, ap₂, subst, ◌∙◌, arith}
use Rattle.std.specs.Prelude.{bit_and, slice_index, slice_index_or, slice_set}
use Rattle.std.specs.Int.{bit_at}
use Rattle.std.proofs.lemmas.Bool.{cases_lt}
use Rattle.std.proofs.Common.{⊎_elim}
use Rattle.std.proofs.lemmas.Nat.Bits.{bit_at_and, bit_at-lt, bit_at_above, bit_at_ones, bit_at_ones_above}
use Rattle.std.proofs.lemmas.List.{get_or_past, get_or-set_other, get_or-set_same}
use Rattle.flow_base.specs.Words.{Agree}
use Rattle.piece_cells.specs.Cells.{Bytes, Has}
use Rattle.piece_cells.specs.Tables.{WordTable}
use Rattle.piece_cells.specs.declared.cells.Bits.{Bits}
use Rattle.piece_cells.specs.declared.cells.Cell.{Cell}
use Rattle.piece_cells.specs.declared.cells.Cell.TheVariants.{Bits as IsBits, ByTable}
use Rattle.region_pieces.specs.Pages.{SetsCell, bits_in, cell_or, cells_of}

-- ---- the lowest eight bits

low_bit : (x i : ℕ) → i < 8 → bit_at (bit_and x 255) i ≡ bit_at x i
low_bit x i below =
    let both = bit_at_and x 255 i in
    let ones : bit_at 255 i ≡ 1 = bit_at_ones 8 i below in
    let small = bit_at-lt x i in omega (arith, both, ones, small)

high_bit : (x i : ℕ) → 8 ≤ i → bit_at (bit_and x 255) i ≡ 0
high_bit x i above =
    let both = bit_at_and x 255 i in
    let none : bit_at 255 i ≡ 0 = bit_at_ones_above 8 i above in omega (arith, both, none)

-- a byte that agrees with bits agrees with the lowest eight of them
pub fits_low : (value mask byte : ℕ) → byte < 256 → Agree mask value byte →
    Agree (bit_and mask 255) (bit_and value 255) byte
fits_low value mask byte small agree = λ i clear.
    ⊎_elim
    (λ below. low_bit value i below ∙ agree i (sym (low_bit mask i below) ∙ clear))
    (λ above. high_bit value i above ∙ sym (bit_at_above byte 8 i small above))
    (cases_lt i 8)

-- ---- a byte of a page

-- the byte is set to bits
pub sets_bits : (values masks : List ℕ) (tables later : List (Option WordTable)) (place : ℕ) (bits : Bits) →
    place < length values → place < length masks → slice_index_or later place None ≡ None →
    ((other : ℕ) → other ≢ place → slice_index_or later other None ≡ slice_index_or tables other None) →
    SetsCell place (IsBits bits) (cells_of tables values masks)
    (cells_of later (slice_set values place (bit_and bits.value 255)) (slice_set masks place (bit_and bits.mask 255)))
sets_bits values masks tables later place bits in_values in_masks none same = record {
  there = λ bytes byte small has.
      subst (λ t. Has bytes (cell_or t (bits_in (slice_set values place (bit_and bits.value 255))
      (slice_set masks place (bit_and bits.mask 255)) place)) byte) (sym none)
      (subst (λ m. Agree m (slice_index (slice_set values place (bit_and bits.value 255)) place) byte)
      (sym (get_or-set_same masks place (bit_and bits.mask 255) 0 in_masks))
      (subst (λ v. Agree (bit_and bits.mask 255) v byte)
      (sym (get_or-set_same values place (bit_and bits.value 255) 0 in_values))
      (fits_low bits.value bits.mask byte small has)));
  others = λ other below apart. λ i.
      cell_or (same other apart i) (record {
        value = get_or-set_other values place other (bit_and bits.value 255) 0 apart i;
        mask = get_or-set_other masks place other (bit_and bits.mask 255) 0 apart i;
      });
}

-- the byte is set to a table
pub sets_table : (values masks : List ℕ) (tables later : List (Option WordTable)) (place : ℕ) (table : WordTable) →
    place < length later → ((other : ℕ) → other < 64 → slice_index_or later other None ≡ slice_index_or tables other None) →
    SetsCell place (ByTable table) (cells_of tables values masks) (cells_of (slice_set later place (Some table)) values masks)
sets_table values masks tables later place table inside same = record {
  there = λ bytes byte small has.
      subst (λ t. Has bytes (cell_or t (bits_in values masks place)) byte)
      (sym (get_or-set_same later place (Some table) None inside)) has;
  others = λ other below apart.
      ap (λ t. cell_or t (bits_in values masks other))
      (get_or-set_other later place other (Some table) None apart ∙ same other below);
}

-- where there are no tables none of a page of none differs
pub none_past : (tables : List (Option WordTable)) (place : ℕ) → length tables ≤ place →
    slice_index_or tables place None ≡ None
none_past tables place past = get_or_past tables place None past
