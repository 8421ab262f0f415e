use Rattle.std.proofs.Common.{ap, ◌∙◌}
use Rattle.region_machine.specs.Runs.{has_exited}
use Rattle.tracked_run.specs.Outcomes.{spent_by}
use Rattle.tracked_run.specs.declared.outcomes.TrackedTurn.TheVariants.{Ran, Exited, Refused}
use Rattle.std.proofs.Common.{Ok}
use Rattle.measuring.proofs.FollowedTurns.{starts, ran, exits, is_refused, turn_is}
use Rattle.measuring.proofs.following.follow_in.Goals as goal

pub loop-made-init : goal.loop-made-init
loop-made-init g c = record {
  unspent = c.in_ok-tracked.ensures.unspent;
  regions = c.in_ok-tracked.ensures.regions;
  table = c.in_ok-tracked.ensures.table;
  follows = starts _ _ _ _ _ _ c.in_ok-tracked.ensures.stands
      (ap (λ state. has_exited state.control.mode) c.in_ok-tracked.ensures.stands.state) c.in_ok-recording.ensures;
}

pub returns-in-Exited : goal.returns-in-Exited
returns-in-Exited g c =
    exits _ _ _ _ c.loop-made.made _ c.turn.new.self.machine _ c.turn.new.self.shadow _ _ c.into_parts-bytes.result.0
    c.in-Exited.status c.loop-made-test.true c.loop-made.invariant.follows
    (turn_is _ _ _ _ _ c.loop-made.made _ _ _ _ _ _ c.in_ok-turn.field-0 (Exited c.in-Exited.status)
    c.loop-made.invariant.table c.loop-made.invariant.regions c.loop-made.invariant.follows
    (c.in_ok-turn.ensures.turns c.loop-made.invariant.unspent) c.in-Exited.is)
    c.into_parts-bytes.ensures.output

pub returns-in-Refused : goal.returns-in-Refused
returns-in-Refused g c =
    is_refused _ _ _ _ c.loop-made.made _ _ _ _ _ _ c.in-Refused.fault c.loop-made-test.true c.loop-made.invariant.follows
    (turn_is _ _ _ _ _ c.loop-made.made _ _ _ _ _ _ c.in_ok-turn.field-0 (Refused c.in-Refused.fault)
    c.loop-made.invariant.table c.loop-made.invariant.regions c.loop-made.invariant.follows
    (c.in_ok-turn.ensures.turns c.loop-made.invariant.unspent) c.in-Refused.is)

pub loop-made-preserved : goal.loop-made-preserved
loop-made-preserved g c = record {
  unspent = c.in_ok-turn.ensures.ends ∙ ap (λ answer. spent_by (Ok answer)) c.in-Ran.is;
  regions = c.in_ok-turn.ensures.regions ∙ c.loop-made.invariant.regions;
  table = ap (λ book. book.table) c.in_ok-turn.ensures.book ∙ c.loop-made.invariant.table;
  follows = ran _ _ _ c.loop-made.made _ _ _ _ _ _ c.loop-made.invariant.follows
      (turn_is _ _ _ _ _ c.loop-made.made _ _ _ _ _ _ c.in_ok-turn.field-0 Ran
      c.loop-made.invariant.table c.loop-made.invariant.regions c.loop-made.invariant.follows
      (c.in_ok-turn.ensures.turns c.loop-made.invariant.unspent) c.in-Ran.is);
}
