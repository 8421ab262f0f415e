-- The laws of pieces: when a piece is safe, and that a region holds where its first piece is.
use Rattle.std.specs.Prelude.{◌≡◌, ℕ, ◌<◌, ◌==◌, false, List}
use Rattle.region_pieces.specs.Leaving.{AreKept, IsEntry, ending_of}
use Rattle.region_pieces.specs.Pieces.{AreSafe, Covers, EndingModel, EntryModel, HasOutputs, HaveOutputs, HoldsFrom}
use Rattle.region_pieces.specs.Pieces.{IsFirst, Leads, PieceModel, Safe}

-- a piece that is not at the leave is safe, where all are to which its turn leads
abbrev pub TurnLaw : Type 0
TurnLaw =
    (entry : EntryModel) (piece : PieceModel) (pieces : List PieceModel) →
    (entry.region.leave == piece.pc) ≡ false → Leads entry piece pieces → (endings : List EndingModel) (most : ℕ) →
    AreSafe entry endings most pieces → Safe entry endings most piece

-- a piece is safe, where all are that together stand for each state for which it stands
abbrev pub CoverLaw : Type 0
CoverLaw =
    (entry : EntryModel) (piece : PieceModel) (pieces : List PieceModel) → Covers entry piece pieces →
    (endings : List EndingModel) (most : ℕ) → AreSafe entry endings most pieces → Safe entry endings most piece

-- a piece at the leave is safe, where its kept registers are as at the entry, a turn is left, and its outputs are among
-- the endings
abbrev pub LeaveLaw : Type 0
LeaveLaw =
    (entry : EntryModel) → IsEntry entry → (piece : PieceModel) → piece.pc ≡ entry.region.leave →
    AreKept entry piece entry.region.keep → (endings : List EndingModel) (most : ℕ) → piece.turns < most →
    ((outputs : List ℕ) → HasOutputs (ending_of entry piece) outputs → HaveOutputs endings outputs) →
    Safe entry endings most piece

-- where the first piece is safe the region holds from the entry
abbrev pub FirstLaw : Type 0
FirstLaw =
    (entry : EntryModel) (endings : List EndingModel) (most : ℕ) (piece : PieceModel) → IsFirst entry piece →
    Safe entry endings most piece → HoldsFrom entry endings most

abbrev pub SafePiecesLaw : Type 0
SafePiecesLaw = TurnLaw × CoverLaw × LeaveLaw × FirstLaw
