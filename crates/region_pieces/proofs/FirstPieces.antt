-- Each real state that agrees with the entry is, after the turn of the entry, one for which the first piece stands; and the
-- ranges start for it where they start for the entry.
use Rattle.std.proofs.Common.{◌≡◌, ℕ, ◌+◌, ◌%◌, ◌^◌, ◌<◌, ◌≤◌, Bool, List, [], ◌∷◌, Option, Some, None}
use Rattle.std.proofs.Common.{refl, sym, ap, ap₂, subst, ◌∙◌, arith}
use Rattle.std.specs.Prelude.{◌||◌, if◌then◌else◌, slice_index}
use Rattle.std.specs.List.{list_any}
use Rattle.flow_base.specs.Words.{Agree}
use Rattle.enclosure_regions.specs.Breaks.{byte_break, declares_byte, has_byte}
use Rattle.enclosure_regions.specs.Turns.{base_value, start_of}
use Rattle.enclosure_regions.specs.declared.break_kinds.Break.TheVariants.{UndeclaredWrite}
use Rattle.enclosure_regions.specs.declared.break_kinds.Place.TheVariants.{Byte}
use Rattle.enclosure_regions.specs.declared.region_parts.Range.{Range}
use Rattle.enclosure_regions.specs.declared.region_parts.Region.{Region}
use Rattle.rv32im_machine.specs.Folds.{real_end}
use Rattle.rv32im_machine.specs.Language.{Ends, Saves, Turn, none_held, walked}
use Rattle.rv32im_machine.specs.State.{State, Store, byte_of, entered, moved_to, register_of, saved}
use Rattle.region_machine.specs.Enclosures.{Enters, region_numbered}
use Rattle.region_machine.specs.Guests.{kind_walk, looks, looks_at}
use Rattle.shadow_masks.specs.Shades.{Shades, byte_label, register_label}
use Rattle.transfer_rules.proofs.Agreement.{same_where_none}
use Rattle.piece_cells.specs.Cells.{Has}
use Rattle.piece_cells.specs.declared.cells.Cell.TheVariants.{Bits as IsBits}
use Rattle.region_pieces.specs.Pieces.{Agrees, AreCleanBases, EndingModel, EntryModel, HoldsFrom, InMemory, IsCleanBase}
use Rattle.region_pieces.specs.Pieces.{IsFirst, IsGuest, IsInside, PieceModel, Safe, Stands, StandsBy}

-- ---- the turn of the entry

-- the state behind it
abbrev pub in_region : Region → State → State
in_region region start = record {
  setting = start.setting;
  secret = start.secret;
  control = entered region.id start.control;
  store = saved start.store;
}

looks_end : (start : State) (turn : Turn) (ranges : List Range) →
    real_end (walked start.setting start.secret (looks ranges turn) start.store none_held)
    ≡ real_end (walked start.setting start.secret turn start.store none_held)
unfolding looks walked real_end
looks_end start turn [] = refl
looks_end start turn (range ∷ ranges) = one range.base ∙ looks_end start turn ranges
  where
    one : (base : Option ℕ) →
        real_end (walked start.setting start.secret (looks_at base (looks ranges turn)) start.store none_held)
        ≡ real_end (walked start.setting start.secret (looks ranges turn) start.store none_held)
    one None = refl
    one (Some register) = refl

pub entry_end : (region : Region) (start : State) →
    real_end (kind_walk (Enters region) start) ≡ in_region region start
unfolding walked real_end
entry_end region start = looks_end start (Saves (Ends (entered region.id start.control))) region.ranges

-- ---- the first piece

module _ (entry : EntryModel) (start : State) (agrees : Agrees entry start) where
  pub first_inside : IsInside entry.region start entry.region.enter (in_region entry.region start)
  unfolding entered moved_to saved
  first_inside = record {
    guest = record {
      words = agrees.guest.words;
      bytes = agrees.guest.bytes;
      registers = agrees.guest.registers;
      memory = agrees.guest.memory;
    };
    setting = refl;
    secret = refl;
    control = ap (λ p. moved_to p (entered entry.region.id start.control)) agrees.pc;
    kept = refl;
  }

  first_stands : (piece : PieceModel) → IsFirst entry piece →
      StandsBy entry.region (λ unknown. 0) start piece 1 (in_region entry.region start)
  unfolding saved
  first_stands piece is = record {
    knows = is.unknowns;
    registers = λ register below.
        subst (λ c. Has (λ unknown. 0) c (register_of start.store register)) (sym (is.registers register below))
        (agrees.registers register below);
    memory = λ address inside.
        subst (λ c. Has (λ unknown. 0) c (byte_of start.setting.base start.store address))
        (sym (is.memory address (subst (λ b. InMemory b address) agrees.base inside)))
        (subst (λ b. Agree (byte_label entry.shades address).mask (byte_of b entry.state.store address)
        (byte_of start.setting.base start.store address)) agrees.base (agrees.memory address inside));
    inside = subst (λ p. IsInside entry.region start p (in_region entry.region start)) (sym is.pc) first_inside;
    turns = let one = is.turns in omega (arith, one);
  }

  -- ---- ranges

  base_same : (base : Option ℕ) → IsCleanBase entry.shades base →
      base_value start.store.registers base ≡ base_value entry.state.store.registers base
  base_same None clean = refl
  base_same (Some register) clean =
      sym (same_where_none (register_of entry.state.store register) (register_of start.store register)
      (subst (λ m. Agree m (register_of entry.state.store register) (register_of start.store register)) clean.1
      (agrees.registers register clean.0)))

  -- a range starts for the state where it starts for the entry
  pub start_same : (range : Range) → IsCleanBase entry.shades range.base →
      start_of start.store.registers range ≡ start_of entry.state.store.registers range
  start_same range clean = ap (λ b. (b + range.offset) % 2 ^ 32) (base_same range.base clean)

  declares_same : (address : ℕ) (ranges : List Range) → AreCleanBases entry.shades ranges →
      list_any (λ range. has_byte (start_of start.store.registers range) range.length address) ranges
      ≡ list_any (λ range. has_byte (start_of entry.state.store.registers range) range.length address) ranges
  declares_same address [] clean = refl
  declares_same address (range ∷ ranges) clean =
      ap₂ (λ a b. a || b) (ap (λ s. has_byte s range.length address) (start_same range clean.0))
      (declares_same address ranges clean.1)

  -- and the region declares the same bytes
  pub break_same : (pc address : ℕ) → AreCleanBases entry.shades entry.region.ranges →
      byte_break entry.region start.store.registers pc address
      ≡ byte_break entry.region entry.state.store.registers pc address
  break_same pc address clean =
      ap (λ t. if t then None else Some (UndeclaredWrite entry.region.id pc (Byte address)))
      (declares_same address entry.region.ranges clean)

-- where the first piece is safe the region holds
pub first_holds : (entry : EntryModel) (endings : List EndingModel) (most : ℕ) (piece : PieceModel) →
    IsFirst entry piece → Safe entry endings most piece → HoldsFrom entry endings most
first_holds entry endings most piece is safe = λ regions numbered start agrees.
    let stands : Stands entry.region start piece 1 (in_region entry.region start) =
    record { bytes = λ unknown. 0; by = first_stands entry start agrees piece is } in
    let comes = safe regions numbered start agrees 1 (in_region entry.region start) stands in
    rw (entry_end entry.region start) comes
