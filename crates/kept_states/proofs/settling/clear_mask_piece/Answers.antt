use Rattle.std.proofs.Common.{replicate}
use Rattle.shadow_masks.proofs.Zeros.{zero_at}
use Rattle.kept_states.proofs.LaidBytes.{map_ok}
use Rattle.kept_states.proofs.Settled.{zero_masks}
use Rattle.kept_states.proofs.settling.clear_mask_piece.Goals as goal

pub returns-clause-masks : goal.returns-clause-masks
returns-clause-masks c =
    map_ok c.lay_piece.result
    (zero_masks c.args.number (replicate 256 0) c.args.shadow.now c.lay_piece.new.self c.lay_piece.ensures.begins
    (zero_at 256)) c.lay_piece.ensures.masks
