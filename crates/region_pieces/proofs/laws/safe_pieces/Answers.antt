use Rattle.region_pieces.proofs.FirstPieces.{first_holds}
use Rattle.region_pieces.proofs.SafeFronts.{loop_ends}
use Rattle.region_pieces.proofs.JoinedPieces.{told_stands}
use Rattle.region_pieces.proofs.LeavingPieces.{leave_safe}
use Rattle.region_pieces.proofs.NamedCells.{named_byte_covers}
use Rattle.region_pieces.proofs.PageCells.{sets_bits}
use Rattle.region_pieces.proofs.PieceTurns.{store_leads}
use Rattle.region_pieces.proofs.SafeTurns.{cover_safe, turn_safe}
use Rattle.region_pieces.proofs.laws.safe_pieces.Goals as goal

pub returns : goal.returns
returns c = (turn_safe, cover_safe, leave_safe, first_holds)
