use Rattle.region_machine.proofs.kinds.running_turn.Goals as goal

pub returns-in-Some-clause-kind : goal.returns-in-Some-clause-kind
returns-in-Some-clause-kind c =
    rw (← c.in-Some.ensures.found) (c.turn_inside.ensures.kind c.args.regions.now.items)
