use Rattle.tracked_run.proofs.Appending.{appends_then}
use Rattle.tracked_run.proofs.linking.link_word.Goals as goal

pub returns : goal.returns
returns g c =
    appends_then (g.E.Events.stands_for c.args.events.now) (g.E.Events.stands_for c.link_byte.new.events)
    (g.E.Events.stands_for c.link_byte-4.new.events) _ _ c.link_byte-4.result c.in_ok-link_byte.ensures
    (appends_then (g.E.Events.stands_for c.link_byte.new.events) (g.E.Events.stands_for c.link_byte-2.new.events)
    (g.E.Events.stands_for c.link_byte-4.new.events) _ _ c.link_byte-4.result c.in_ok-link_byte-2.ensures
    (appends_then (g.E.Events.stands_for c.link_byte-2.new.events) (g.E.Events.stands_for c.link_byte-3.new.events)
    (g.E.Events.stands_for c.link_byte-4.new.events) _ _ c.link_byte-4.result c.in_ok-link_byte-3.ensures
    c.link_byte-4.ensures))
