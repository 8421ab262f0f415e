use Rattle.std.proofs.Common.{◌∷◌, []}
use Rattle.std.proofs.lemmas.Result.{on_ok_weaker}
use Rattle.location_collapse.proofs.EventsInTurn.{allows_of}
use Rattle.location_collapse.proofs.collapses.Collapse.add.Goals as goal

pub returns-clause-within : goal.returns-clause-within
returns-clause-within c =
    on_ok_weaker c.take-taken.result
    (allows_of c.args.self.now c.take-taken.new.self (c.args.event ∷ []))
    c.take-taken.ensures.ok
