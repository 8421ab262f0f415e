use Rattle.std.specs.declared.convert.Infallible.{Infallible as Never}
use Rattle.region_machine.specs.Enclosures.{Enclosures}
use Rattle.lockstep_replay.proofs.TalliedTurns.{makes_turn}
use Rattle.lockstep_replay.proofs.rounds.real_turn.Goals as goal

pub returns : goal.returns
returns c =
    let enclosures : Enclosures = record { regions = c.args.marked.now.regions.items; skip = c.args.skip.now } in
    makes_turn Never enclosures c.args.real.now c.args.tally.now c.real_turn_by.new.machine c.real_turn_by.new.observer
    c.in-Ok.turn (rw c.in-Ok.is at c.real_turn_by.ensures.state) (rw c.in-Ok.is at c.real_turn_by.ensures.enclosed)
    (rw c.in-Ok.is at c.real_turn_by.ensures.broken) c.real_turn_by.ensures.untold
    (λ outside. rw c.in-Ok.is at c.real_turn_by.ensures.plays outside)
