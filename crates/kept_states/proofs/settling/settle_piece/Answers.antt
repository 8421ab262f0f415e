use Rattle.std.proofs.Common.{◌≡◌, ◌<◌, ◌==◌, arith, length, get_or, take, true}
use Rattle.std.proofs.lemmas.Bool.{eqb-true}
use Rattle.kept_states.specs.declared.laids.Laid.{Laid}
use Rattle.kept_states.specs.Keeping.{memory_byte}
use Rattle.kept_states.proofs.LastFirst.{within_at}
use Rattle.kept_states.proofs.Settled.{below_next, below_none_there}
use Rattle.kept_states.proofs.settling.settle_piece.Goals as goal

none : Laid
none = record { number = 0; piece = 0 }

pub piece-requires : goal.piece-requires
unfolding none
piece-requires c =
    within_at c.args.pieces.now c.args.laids.now c.args.done none (omega (arith, c.if-done-laids.true)) c.requires.within

pub returns-then-laids-done-clause-below : goal.returns-then-laids-done-clause-below
unfolding none
returns-then-laids-done-clause-below c =
    below_next c.args.pieces.now c.args.laids.now c.args.done c.args.number none (memory_byte c.args.machine.now)
    (memory_byte c.put_piece.new.machine) c.piece.result.now (omega (arith, c.if-done-laids.true)) (omega (arith, c.if-laids-done.true))
    c.piece.ensures.same c.put_piece.ensures.bytes c.put_piece.ensures.before c.requires.below

pub returns-clause-below : goal.returns-clause-below
returns-clause-below c =
    below_none_there c.args.pieces.now (take c.args.done c.args.laids.now) c.args.number (memory_byte c.args.machine.now)
    (memory_byte c.zero_piece.new.machine) c.zero_piece.ensures.bytes c.zero_piece.ensures.before c.requires.below
