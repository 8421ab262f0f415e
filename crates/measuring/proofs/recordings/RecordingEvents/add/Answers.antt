use Rattle.std.proofs.Common.{ap, ◌∙◌, ◌∷◌, [], Err}
use Rattle.std.proofs.lemmas.Result.{on_ok_weaker}
use Rattle.measuring.proofs.RecordedEvents.{taken, passed_over}
use Rattle.measuring.proofs.recordings.RecordingEvents.add.Goals as goal

pub returns-in-Ok : goal.returns-in-Ok
returns-in-Ok c =
    on_ok_weaker c.take.result
    (λ has. taken c.args.self.now.collapse c.add.new.self c.args.self.now.visits c.take.new.self (c.args.event ∷ [])
    c.add.result c.in-Ok.field-0 c.in-Ok.is c.add.ensures.again c.add.ensures.full c.in-Ok.ensures.ok has)
    c.take.ensures

pub returns-in-Err-Limit : goal.returns-in-Err-Limit
returns-in-Err-Limit c =
    let limit = c.in-Err-Limit.is ∙ ap Err c.in-Err-Limit.field-0-is in
    passed_over c.args.self.now.collapse c.add.new.self c.args.self.now.visits (c.args.event ∷ []) c.add.result limit
    c.add.ensures.full c.more_events_exceed.ensures (c.add.ensures.limit limit)
