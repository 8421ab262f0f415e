use Rattle.kept_states.proofs.LaidBytes.{below_push, below_zero}
use Rattle.kept_states.proofs.laids.lay.Goals as goal

pub returns-then-are_zero-clause-laid : goal.returns-then-are_zero-clause-laid
returns-then-are_zero-clause-laid c = λ source has below.
    below_zero c.args.pieces.now c.args.laids.now.items c.args.number source c.args.bytes.now has
    (c.are_zero.ensures c.if-are_zero.true) below

pub returns-in-Ok-clause-laid : goal.returns-in-Ok-clause-laid
returns-in-Ok-clause-laid c = λ source has below.
    below_push c.args.pieces.now c.keep_at.new.self c.args.laids.now.items _
    (record { number = c.args.number; piece = c.in_ok-piece.piece }) source c.args.bytes.now
    c.keep_at.ensures.grows c.in_ok-piece.ensures.kept has c.in-Ok.ensures.items below
