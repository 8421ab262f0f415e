-- A piece at the leave: its kept registers, and its ending.
use Rattle.std.specs.Prelude.{◌≡◌, ℕ, zero, suc, ◌+◌, ◌<◌, ◌^◌, List, [], ◌∷◌, ◌++◌, map, true}
use Rattle.std.specs.List.{list_all}
use Rattle.enclosure_regions.specs.declared.region_parts.Range.{Range}
use Rattle.enclosure_regions.specs.Regions.{is_register}
use Rattle.enclosure_regions.specs.Turns.{start_of}
use Rattle.rv32im_machine.specs.State.{register_of}
use Rattle.region_machine.specs.Within.{are_inside}
use Rattle.shadow_masks.specs.Shades.{register_label}
use Rattle.piece_cells.specs.Cells.{Bytes, Has, Knows}
use Rattle.piece_cells.specs.declared.cells.Cell.{Cell}
use Rattle.region_pieces.specs.Pieces.{AreCleanBases, EndingModel, EntryModel, PieceModel}

-- the region names registers that there are, no bit of its base registers may differ, and its ranges are inside memory
pub record IsEntry (entry : EntryModel) : Type 0 where
  pub outs : list_all is_register entry.region.outs ≡ true
  pub keep : list_all is_register entry.region.keep ≡ true
  pub bases : AreCleanBases entry.shades entry.region.ranges
  pub inside : are_inside entry.region.ranges entry.state.store.registers entry.state.setting.base ≡ true

-- the register can but have its value at the entry, where no bit of it may differ
pub record IsKept (entry : EntryModel) (piece : PieceModel) (register : ℕ) : Type 0 where
  pub clean : (register_label entry.shades register).mask ≡ 0
  pub same : (bytes : Bytes) (word : ℕ) → Knows piece.unknowns bytes → word < 2 ^ 32 →
      Has bytes (piece.registers register) word → word ≡ register_of entry.state.store register

abbrev pub AreKept : EntryModel → PieceModel → List ℕ → Type 0
AreKept entry piece [] = Unit {0}
AreKept entry piece (register ∷ registers) = IsKept entry piece register × AreKept entry piece registers

-- the cells of so many bytes from an address on
abbrev pub cells_from : PieceModel → ℕ → ℕ → List Cell
cells_from piece address zero = []
cells_from piece address (suc count) = piece.memory address ∷ cells_from piece (address + 1) count

abbrev pub cells_of_ranges : PieceModel → List ℕ → List Range → List Cell
cells_of_ranges piece registers [] = []
cells_of_ranges piece registers (range ∷ ranges) =
    cells_from piece (start_of registers range) range.length ++ cells_of_ranges piece registers ranges

-- what the piece has at the output registers, and then at the bytes of the ranges
abbrev pub ending_of : EntryModel → PieceModel → EndingModel
ending_of entry piece = record {
  cells =
      map (λ register. piece.registers register) entry.region.outs
      ++ cells_of_ranges piece entry.state.store.registers entry.region.ranges;
  unknowns = piece.unknowns;
}
