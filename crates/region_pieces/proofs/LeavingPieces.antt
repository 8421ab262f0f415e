-- A piece at the leave is safe, where its kept registers are as at the entry and its ending is among those that come out.
use Rattle.std.proofs.Common.{◌≡◌, ℕ, zero, suc, ◌+◌, ◌%◌, ◌^◌, ◌<◌, ◌≤◌, ◌⊎◌, inl, inr, Bool, true, false, List, [], ◌∷◌}
use Rattle.std.proofs.Common.{◌++◌, Option, Some, None, map, refl, sym, ap, subst, ◌∙◌, arith}
use Rattle.std.specs.Prelude.{◌==◌, ◌&&◌, ◌||◌, nat_le, not, if◌then◌else◌, option_map, slice_index}
use Rattle.std.specs.List.{find, list_all}
use Rattle.std.proofs.lemmas.Bool.{and_parts, eq-eqb, eqb-true, leb-true}
use Rattle.flow_base.specs.Guests.{is_inside, memory_size}
use Rattle.flow_base.specs.Words.{Agree}
use Rattle.enclosure_regions.specs.declared.break_kinds.Break.{Break}
use Rattle.enclosure_regions.specs.declared.region_parts.Range.{Range}
use Rattle.enclosure_regions.specs.declared.region_parts.Region.{Region}
use Rattle.enclosure_regions.specs.Breaks.{changed_register, has_changed, keep_break, register_changed}
use Rattle.enclosure_regions.specs.Regions.{is_register}
use Rattle.enclosure_regions.specs.Turns.{start_of}
use Rattle.rv32im_machine.specs.State.{State, Store, byte_of, register_of}
use Rattle.region_machine.specs.Within.{are_inside}
use Rattle.shadow_masks.specs.Shades.{register_label}
use Rattle.transfer_rules.proofs.Agreement.{same_where_none}
use Rattle.piece_cells.specs.Cells.{Bytes, Has, Knows}
use Rattle.piece_cells.specs.declared.cells.Cell.{Cell}
use Rattle.region_pieces.specs.Leaving.{AreKept, IsEntry, IsKept, cells_from, cells_of_ranges, ending_of}
use Rattle.region_pieces.specs.Pieces.{Agrees, AreCleanBases, EndingModel, EntryModel, HasEach, HasOutputs, HaveOutputs}
use Rattle.region_pieces.specs.Pieces.{InMemory, IsInside, IsOut, None-had, One-had, PieceModel, Safe, Stands, StandsBy}
use Rattle.region_pieces.specs.Pieces.{bytes_from, bytes_of_ranges, outputs_of}
use Rattle.region_pieces.proofs.FirstPieces.{start_same}
use Rattle.region_pieces.proofs.JoinedPieces.{base_is}
use Rattle.region_pieces.proofs.SafeTurns.{comes_by_leave}

-- ---- registers of the region

register_below : (register : ℕ) → is_register register ≡ true → register < 32
register_below register is =
    let both = and_parts (nat_le 1 register) (nat_le register 31) is in
    let low = leb-true register 31 both.1 in omega (arith, low)

first_and_rest : (register : ℕ) (registers : List ℕ) → list_all is_register (register ∷ registers) ≡ true →
    (register < 32) × (list_all is_register registers ≡ true)
first_and_rest register registers all =
    let both = and_parts (is_register register) (list_all is_register registers) all in
    (register_below register both.0, both.1)

-- so many bytes that are inside memory begin and end there
pub inside_parts : (base address count : ℕ) → 0 < count → is_inside base address count ≡ true →
    (base ≤ address) × (address + count ≤ base + memory_size)
inside_parts base address count some inside = pick (count == 0) refl inside
  where
    pick : (t : Bool) → (count == 0) ≡ t → (t || (nat_le base address
        && (nat_le (address + count) (base + memory_size) && nat_le (address + count) (2 ^ 32)))) ≡ true →
        (base ≤ address) × (address + count ≤ base + memory_size)
    pick true e is = absurd (omega (arith, some, eqb-true count 0 e))
    pick false e is =
        let all = and_parts (nat_le base address)
        (nat_le (address + count) (base + memory_size) && nat_le (address + count) (2 ^ 32)) is in
        let ends = and_parts (nat_le (address + count) (base + memory_size)) (nat_le (address + count) (2 ^ 32)) all.1 in
        (leb-true base address all.0, leb-true (address + count) (base + memory_size) ends.0)

-- ---- lists of cells

has_both : (bytes : Bytes) {cells others : List Cell} {values numbers : List ℕ} → HasEach bytes cells values →
    HasEach bytes others numbers → HasEach bytes (cells ++ others) (values ++ numbers)
has_both bytes None-had other = other
has_both bytes (One-had has each) other = One-had has (has_both bytes each other)

module _ (entry : EntryModel) (is : IsEntry entry) (piece : PieceModel) (start : State)
    (agrees : Agrees entry start) (made : ℕ) (now : State) (bytes : Bytes)
    (by : StandsBy entry.region bytes start piece made now) where
  -- ---- outputs

  registers_had : (registers : List ℕ) → list_all is_register registers ≡ true →
      HasEach bytes (map (λ r. piece.registers r) registers) (map (λ r. register_of now.store r) registers)
  registers_had [] all = None-had
  registers_had (register ∷ registers) all =
      let both = first_and_rest register registers all in
      One-had (by.registers register both.0) (registers_had registers both.1)

  range_had : (count address : ℕ) → now.setting.base ≤ address → address + count ≤ now.setting.base + memory_size →
      HasEach bytes (cells_from piece address count) (bytes_from now.setting.base now.store address count)
  range_had zero address low high = None-had
  range_had (suc count) address low high =
      One-had (by.memory address (low, omega arith)) (range_had count (address + 1) (omega arith) (omega arith))

  range_inside_had : (count address : ℕ) → is_inside now.setting.base address count ≡ true →
      HasEach bytes (cells_from piece address count) (bytes_from now.setting.base now.store address count)
  range_inside_had zero address inside = None-had
  range_inside_had (suc count) address inside =
      let both = inside_parts now.setting.base address (suc count) (omega arith) inside in
      range_had (suc count) address both.0 both.1

  -- a range starts for the state where it starts for the entry
  starts_as : (range : Range) → start_of start.store.registers range ≡ start_of entry.state.store.registers range →
      start_of entry.state.store.registers range ≡ start_of now.store.kept range
  starts_as range same = sym same ∙ ap (λ xs. start_of xs range) (sym by.inside.kept)

  ranges_had : (ranges : List Range) → AreCleanBases entry.shades ranges →
      are_inside ranges entry.state.store.registers entry.state.setting.base ≡ true →
      HasEach bytes (cells_of_ranges piece entry.state.store.registers ranges)
      (bytes_of_ranges now.setting.base now.store ranges)
  ranges_had [] clean inside = None-had
  ranges_had (range ∷ ranges) clean inside =
      let both = and_parts
      (is_inside entry.state.setting.base (start_of entry.state.store.registers range) range.length)
      (are_inside ranges entry.state.store.registers entry.state.setting.base) inside in
      let here : is_inside now.setting.base (start_of entry.state.store.registers range) range.length ≡ true =
      subst (λ b. is_inside b (start_of entry.state.store.registers range) range.length ≡ true)
      (sym (base_is entry start bytes piece made now agrees by)) both.0 in
      has_both bytes
      (subst (λ a. HasEach bytes (cells_from piece (start_of entry.state.store.registers range) range.length)
      (bytes_from now.setting.base now.store a range.length))
      (starts_as range (start_same entry start agrees range clean.0))
      (range_inside_had range.length (start_of entry.state.store.registers range) here))
      (ranges_had ranges clean.1 both.1)

  pub outputs_had : HasOutputs (ending_of entry piece) (outputs_of entry.region now)
  outputs_had = record {
    bytes = bytes;
    knows = by.knows;
    has = has_both bytes (registers_had entry.region.outs is.outs)
        (ranges_had entry.region.ranges is.bases is.inside);
  }

  -- ---- kept registers

  kept_same : (register : ℕ) → register < 32 → IsKept entry piece register →
      slice_index now.store.kept register ≡ slice_index now.store.registers register
  kept_same register below kept =
      ap (λ xs. slice_index xs register) by.inside.kept
      ∙ sym (same_where_none (register_of entry.state.store register) (register_of start.store register)
      (subst (λ m. Agree m (register_of entry.state.store register) (register_of start.store register)) kept.clean
      (agrees.registers register below)))
      ∙ sym (kept.same bytes (register_of now.store register) by.knows (by.inside.guest.words register)
      (by.registers register below))

  none_changed : (registers : List ℕ) → list_all is_register registers ≡ true → AreKept entry piece registers →
      find (λ register. has_changed now.store.kept now.store.registers register) registers ≡ None
  none_changed [] all kept = refl
  none_changed (register ∷ registers) all kept =
      let both = first_and_rest register registers all in
      ap (λ t. if not t then Some register
      else find (λ r. has_changed now.store.kept now.store.registers r) registers)
      (eq-eqb (slice_index now.store.kept register) (slice_index now.store.registers register)
      (kept_same register both.0 kept.0))
      ∙ none_changed registers both.1 kept.1

  pub keeps : AreKept entry piece entry.region.keep →
      keep_break entry.region now.store.kept now.store.registers ≡ None
  keeps kept =
      ap (λ r. option_map (register_changed entry.region now.store.kept now.store.registers) r)
      (none_changed entry.region.keep is.keep kept)

-- ---- the leave

pub leave_safe : (entry : EntryModel) → IsEntry entry → (piece : PieceModel) → piece.pc ≡ entry.region.leave →
    AreKept entry piece entry.region.keep → (endings : List EndingModel) (most : ℕ) → piece.turns < most →
    ((outputs : List ℕ) → HasOutputs (ending_of entry piece) outputs → HaveOutputs endings outputs) →
    Safe entry endings most piece
leave_safe entry is piece at kept endings most left among = λ regions numbered start agrees made now stands.
    let by = stands.by in
    comes_by_leave entry regions numbered start agrees.mode endings most made now (record {
      inside = subst (λ p. IsInside entry.region start p now) at by.inside;
      outputs = among (outputs_of entry.region now)
          (outputs_had entry is piece start agrees made now stands.bytes by);
    }) (keeps entry is piece start agrees made now stands.bytes by kept)
    (let few = by.turns in omega (arith, few, left))
