use Rattle.std.specs.declared.convert.Infallible.{Infallible as Never}
use Rattle.lockstep_replay.proofs.TalliedTurns.{makes_step}
use Rattle.lockstep_replay.proofs.rounds.real_step.Goals as goal

pub returns : goal.returns
returns c = λ skip.
    makes_step Never (record { regions = c.args._marked.now.regions.items; skip = skip }) c.args.real.now c.args.tally.now
    c.turn_by.new.machine c.turn_by.new.passer (rw c.in-Ok.is at c.turn_by.ensures.plays) c.requires
