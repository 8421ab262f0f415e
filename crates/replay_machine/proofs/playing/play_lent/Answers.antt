use Rattle.replay_machine.proofs.Passings.{outcome_comes}
use Rattle.replay_machine.proofs.playing.play_lent.Goals as goal

pub returns-clause-comes : goal.returns-clause-comes
returns-clause-comes c = λ regions masks past ahead.
    let played = rw c.swap.ensures.x_after at (c.replay_turn_by.ensures regions masks past ahead) in
    rw c.swap-2.ensures.y_after (outcome_comes masks c.args.bits.now c.args.side.now.missing _ _ _ _ _
    c.requires.missing played)
