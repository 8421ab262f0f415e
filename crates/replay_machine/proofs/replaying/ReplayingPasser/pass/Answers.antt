use Rattle.std.proofs.Common.{◌∷◌}
use Rattle.replay_machine.specs.Runs.{replayed}
use Rattle.replay_machine.proofs.replaying.ReplayingPasser.pass.Goals as goal

pub returns-clause-goes : goal.returns-clause-goes
unfolding replayed
returns-clause-goes c = λ go out after masks past ahead.
    c.patch.ensures.goes masks past (λ other. replayed masks (c.args.passing.point ∷ past) (go other)) out ahead
    (λ moved. after masks (c.args.passing.point ∷ past) moved)
