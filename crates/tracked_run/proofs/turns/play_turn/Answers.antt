use Rattle.region_machine.specs.Enclosures.{kind_of}
use Rattle.tracked_run.proofs.TrackedTurns.{turned, base_stays, leave_stays, never_enclosed}
use Rattle.tracked_run.proofs.turns.play_turn.Goals as goal

pub returns-clause-turns : goal.returns-clause-turns
returns-clause-turns g c = λ run stands.
    let kind = kind_of c.args.marked.now.regions.items c.args.machine.now.control in
    let t = c.in_ok-turn.ensures.plays (never_enclosed c.args.marked.now.regions.items kind) in
    rw c.decided.ensures
    (turned g.E.Events.stands_for c.args.side.now.book.now.table c.args.marked.now.regions.items c.args.machine.now
    (record {
      shades = c.args.side.now.shadow.now;
      events = c.args.side.now.events.now;
      refused = c.args.side.now.refused;
      shadow_lent = c.args.side.now.shadow.ghost_name;
      events_lent = c.args.side.now.events.ghost_name;
    }) c.real_turn_by.new.machine
    (record {
      shades = c.real_turn_by.new.observer.shadow.now;
      events = c.real_turn_by.new.observer.events.now;
      refused = c.real_turn_by.new.observer.refused;
      shadow_lent = c.real_turn_by.new.observer.shadow.ghost_name;
      events_lent = c.real_turn_by.new.observer.events.ghost_name;
    }) c.in_ok-turn.turn.broken run (rw (c.requires.region, c.requires.held) at t) c.requires.unrefused
    c.in_ok-turn.ensures.broken stands)

pub returns-clause-base : goal.returns-clause-base
returns-clause-base g c =
    let kind = kind_of c.args.marked.now.regions.items c.args.machine.now.control in
    let t = c.in_ok-turn.ensures.plays (never_enclosed c.args.marked.now.regions.items kind) in
    base_stays c.args.marked.now.regions.items c.args.machine.now c.real_turn_by.new.machine c.args.side.now.shadow.now.base
    c.real_turn_by.new.observer.shadow.now.base c.in_ok-turn.ensures.state t.base c.requires.base

pub returns-clause-leave : goal.returns-clause-leave
returns-clause-leave g c = λ ran.
    leave_stays c.args.marked.now.regions.items c.args.machine.now c.real_turn_by.new.machine
    c.real_turn_by.new.observer.refused c.in_ok-turn.turn.broken c.real_turn_by.new.machine.control.mode
    c.args.marked.now.regions.keeps_rules c.requires.leave c.in_ok-turn.ensures.state c.in_ok-turn.ensures.broken
    (rw c.decided.ensures at ran)

pub returns-clause-shadow : goal.returns-clause-shadow
returns-clause-shadow g c =
    let kind = kind_of c.args.marked.now.regions.items c.args.machine.now.control in
    let t = c.in_ok-turn.ensures.plays (never_enclosed c.args.marked.now.regions.items kind) in
    t.shadow_lent

pub returns-clause-events : goal.returns-clause-events
returns-clause-events g c =
    let kind = kind_of c.args.marked.now.regions.items c.args.machine.now.control in
    let t = c.in_ok-turn.ensures.plays (never_enclosed c.args.marked.now.regions.items kind) in
    t.events_lent
