use Rattle.std.proofs.Common.{sym, refl, ◌∙◌}
use Rattle.lockstep_replay.specs.Private.Standings.{why_beside}
use Rattle.lockstep_replay.proofs.RoundResults.{Played, none_fails, outside_turn, output_begins, step_beside, step_fails}
use Rattle.lockstep_replay.proofs.RoundResults.{used_played}
use Rattle.lockstep_replay.proofs.rounds.make_step.Goals as goal

pub returns-in-Some-clause-rounds : goal.returns-in-Some-clause-rounds
returns-in-Some-clause-rounds c =
    let played : Played c.args.real.now c.args.tally.now c.args.replay.now c.real_step.new.real
    c.real_step.new.tally outside_turn =
    record {
      makes = rw c.marked.ensures at (c.real_step.ensures c.args.replay.now.enclosures.skip);
      keeps = c.requires.keeps;
      small = c.args.tally.now.small;
      rules = rw c.marked.ensures at c.marked.result.now.regions.keeps_rules;
    } in
    step_fails c.args.real.now c.args.tally.now c.args.replay.now c.real_step.new.real c.real_step.new.tally
    c.in-Some.field-0 played (sym (rw c.mode.ensures at c.mode_reason.ensures) ∙ c.in-Some.is)

pub keeps_up-requires-clause-begins : goal.keeps_up-requires-clause-begins
keeps_up-requires-clause-begins c =
    let played : Played c.args.real.now c.args.tally.now c.args.replay.now c.real_step.new.real
    c.real_step.new.tally outside_turn =
    record {
      makes = rw c.marked.ensures at (c.real_step.ensures c.args.replay.now.enclosures.skip);
      keeps = c.requires.keeps;
      small = c.args.tally.now.small;
      rules = rw c.marked.ensures at c.marked.result.now.regions.keeps_rules;
    } in
    output_begins c.args.real.now c.args.tally.now c.args.replay.now c.real_step.new.real c.real_step.new.tally
    outside_turn played

pub keeps_up-requires-clause-used : goal.keeps_up-requires-clause-used
keeps_up-requires-clause-used c =
    let played : Played c.args.real.now c.args.tally.now c.args.replay.now c.real_step.new.real
    c.real_step.new.tally outside_turn =
    record {
      makes = rw c.marked.ensures at (c.real_step.ensures c.args.replay.now.enclosures.skip);
      keeps = c.requires.keeps;
      small = c.args.tally.now.small;
      rules = rw c.marked.ensures at c.marked.result.now.regions.keeps_rules;
    } in
    used_played c.args.real.now c.args.tally.now c.args.replay.now c.real_step.new.real c.real_step.new.tally
    outside_turn played (sym (rw c.mode.ensures at c.mode_reason.ensures) ∙ c.in_default.is)

pub returns-clause-rounds : goal.returns-clause-rounds
returns-clause-rounds c =
    let played : Played c.args.real.now c.args.tally.now c.args.replay.now c.real_step.new.real
    c.real_step.new.tally outside_turn =
    record {
      makes = rw c.marked.ensures at (c.real_step.ensures c.args.replay.now.enclosures.skip);
      keeps = c.requires.keeps;
      small = c.args.tally.now.small;
      rules = rw c.marked.ensures at c.marked.result.now.regions.keeps_rules;
    } in
    step_beside c.args.real.now c.args.tally.now c.args.replay.now c.real_step.new.real c.real_step.new.tally
    c.keeps_up.new.replay _ played (sym (rw c.mode.ensures at c.mode_reason.ensures) ∙ c.in_default.is)
    (record {
      says = c.keeps_up.ensures.why;
      joins = c.keeps_up.ensures.joins;
      enclosures = c.keeps_up.ensures.enclosures;
      bits = c.keeps_up.ensures.bits;
      masks = refl;
      needed = refl;
      budget = refl;
      agrees = c.keeps_up.ensures.agrees;
    })

pub returns-clause-fine : goal.returns-clause-fine
returns-clause-fine c = λ fine.
    none_fails c.real_step.new.real.control.mode c.real_step.new.tally.budget c.real_step.new.tally.needed
    (why_beside c.real_step.new.real c.real_step.new.tally.needed c.keeps_up.new.replay)
    (sym (rw c.mode.ensures at c.mode_reason.ensures) ∙ c.in_default.is) ∙ c.keeps_up.ensures.fine fine
