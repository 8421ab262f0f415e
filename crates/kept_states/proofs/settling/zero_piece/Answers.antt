use Rattle.std.proofs.Common.{◌+◌, ◌*◌, ◌∙◌, arith, replicate}
use Rattle.shadow_masks.proofs.Zeros.{zero_at}
use Rattle.kept_states.proofs.Settled.{zero_in_piece}
use Rattle.kept_states.proofs.settling.zero_piece.Goals as goal

pub returns-then-not-are_zero-clause-bytes : goal.returns-then-not-are_zero-clause-bytes
returns-then-not-are_zero-clause-bytes c offset below =
    c.lay_piece.ensures.bytes (c.args.number * 256 + offset) (omega (arith, c.requires.number, below))
    ∙ zero_in_piece c.args.number offset _ (replicate 256 0) below (zero_at 256)
