use Rattle.std.proofs.Common.{ap}
use Rattle.enclosure_regions.specs.Turns.{entry_at}
use Rattle.enclosure_regions.proofs.turning.turn_outside.Goals as goal

pub returns-in-Some-clause-kind : goal.returns-in-Some-clause-kind
returns-in-Some-clause-kind c = ap entry_at c.in-Some.ensures.place

pub returns-in-None-clause-kind : goal.returns-in-None-clause-kind
returns-in-None-clause-kind c = ap entry_at c.in-None.ensures.place
