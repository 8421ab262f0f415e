use Rattle.std.proofs.Common.{ap, ◌∙◌, Err}
use Rattle.std.proofs.lemmas.Result.{on_ok_weaker}
use Rattle.flow_graph.specs.Events.{again_events}
use Rattle.measuring.proofs.RecordedEvents.{taken, passed_over, visited_again}
use Rattle.measuring.proofs.recordings.RecordingEvents.add_again.Goals as goal

pub returns-in-Ok : goal.returns-in-Ok
returns-in-Ok c =
    on_ok_weaker c.take.result
    (λ has. taken c.args.self.now.collapse c.add_again.new.self c.args.self.now.visits c.take.new.self
    (again_events c.args.point c.args.mask) c.add_again.result c.in-Ok.field-0 c.in-Ok.is c.add_again.ensures.again
    c.add_again.ensures.full c.in-Ok.ensures.ok
    (visited_again c.args.self.now.visits c.take.new.self c.args.point c.args.mask has))
    c.take.ensures

pub returns-in-Err-Limit : goal.returns-in-Err-Limit
returns-in-Err-Limit c =
    let limit = c.in-Err-Limit.is ∙ ap Err c.in-Err-Limit.field-0-is in
    passed_over c.args.self.now.collapse c.add_again.new.self c.args.self.now.visits
    (again_events c.args.point c.args.mask) c.add_again.result limit c.add_again.ensures.full
    c.more_events_exceed.ensures (c.add_again.ensures.limit limit)
