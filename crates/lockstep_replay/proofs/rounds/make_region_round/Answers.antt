use Rattle.std.proofs.Common.{sym, refl, ◌∙◌, None}
use Rattle.lockstep_replay.proofs.RoundResults.{Played, round_fails, round_enclosed, round_beside, output_begins}
use Rattle.lockstep_replay.proofs.RoundResults.{used_played}
use Rattle.lockstep_replay.proofs.rounds.make_region_round.Goals as goal

pub returns-in-Some : goal.returns-in-Some
returns-in-Some c =
    let played : Played c.args.real.now c.args.tally.now c.args.replay.now c.real_turn-turn.new.real
    c.real_turn-turn.new.tally c.real_turn-turn.result =
    record {
      makes = rw (c.marked.ensures, c.skip.ensures) at c.real_turn-turn.ensures;
      keeps = c.requires;
      small = c.args.tally.now.small;
      rules = rw c.marked.ensures at c.marked.result.now.regions.keeps_rules;
    } in
    round_fails c.args.real.now c.args.tally.now c.args.replay.now c.real_turn-turn.new.real
    c.real_turn-turn.new.tally c.real_turn-turn.result
    c.in-Some.why played (sym (rw c.mode.ensures at c.real_reason.ensures) ∙ c.in-Some.is)

pub returns-then-enclosed : goal.returns-then-enclosed
returns-then-enclosed c =
    let played : Played c.args.real.now c.args.tally.now c.args.replay.now c.real_turn-turn.new.real
    c.real_turn-turn.new.tally c.real_turn-turn.result =
    record {
      makes = rw (c.marked.ensures, c.skip.ensures) at c.real_turn-turn.ensures;
      keeps = c.requires;
      small = c.args.tally.now.small;
      rules = rw c.marked.ensures at c.marked.result.now.regions.keeps_rules;
    } in
    round_enclosed c.args.real.now c.args.tally.now c.args.replay.now c.real_turn-turn.new.real
    c.real_turn-turn.new.tally c.real_turn-turn.result
    played (sym (rw c.mode.ensures at c.real_reason.ensures) ∙ c.in_default.is) c.if-enclosed.true

pub keeps_up-requires-clause-begins : goal.keeps_up-requires-clause-begins
keeps_up-requires-clause-begins c =
    let played : Played c.args.real.now c.args.tally.now c.args.replay.now c.real_turn-turn.new.real
    c.real_turn-turn.new.tally c.real_turn-turn.result =
    record {
      makes = rw (c.marked.ensures, c.skip.ensures) at c.real_turn-turn.ensures;
      keeps = c.requires;
      small = c.args.tally.now.small;
      rules = rw c.marked.ensures at c.marked.result.now.regions.keeps_rules;
    } in
    output_begins c.args.real.now c.args.tally.now c.args.replay.now c.real_turn-turn.new.real
    c.real_turn-turn.new.tally c.real_turn-turn.result
    played

pub keeps_up-requires-clause-used : goal.keeps_up-requires-clause-used
keeps_up-requires-clause-used c =
    let played : Played c.args.real.now c.args.tally.now c.args.replay.now c.real_turn-turn.new.real
    c.real_turn-turn.new.tally c.real_turn-turn.result =
    record {
      makes = rw (c.marked.ensures, c.skip.ensures) at c.real_turn-turn.ensures;
      keeps = c.requires;
      small = c.args.tally.now.small;
      rules = rw c.marked.ensures at c.marked.result.now.regions.keeps_rules;
    } in
    used_played c.args.real.now c.args.tally.now c.args.replay.now c.real_turn-turn.new.real
    c.real_turn-turn.new.tally c.real_turn-turn.result
    played (sym (rw c.mode.ensures at c.real_reason.ensures) ∙ c.in_default.is)

pub returns-then-keeps_up : goal.returns-then-keeps_up
returns-then-keeps_up c =
    let played : Played c.args.real.now c.args.tally.now c.args.replay.now c.real_turn-turn.new.real
    c.real_turn-turn.new.tally c.real_turn-turn.result =
    record {
      makes = rw (c.marked.ensures, c.skip.ensures) at c.real_turn-turn.ensures;
      keeps = c.requires;
      small = c.args.tally.now.small;
      rules = rw c.marked.ensures at c.marked.result.now.regions.keeps_rules;
    } in
    round_beside c.args.real.now c.args.tally.now c.args.replay.now c.real_turn-turn.new.real
    c.real_turn-turn.new.tally c.real_turn-turn.result
    c.keeps_up.new.replay _ None played
    (sym (rw c.mode.ensures at c.real_reason.ensures) ∙ c.in_default.is) c.if-enclosed.false
    (record {
      says = λ masks place stands. sym (c.keeps_up.ensures.fine c.if-keeps_up.true) ∙ c.keeps_up.ensures.why masks place stands;
      joins = λ masks place stands none. c.keeps_up.ensures.joins masks place stands (c.keeps_up.ensures.fine c.if-keeps_up.true);
      enclosures = c.keeps_up.ensures.enclosures;
      bits = c.keeps_up.ensures.bits;
      masks = refl;
      needed = refl;
      budget = refl;
      agrees = λ none. c.keeps_up.ensures.agrees (c.keeps_up.ensures.fine c.if-keeps_up.true);
    })

pub returns : goal.returns
returns c =
    let played : Played c.args.real.now c.args.tally.now c.args.replay.now c.real_turn-turn.new.real
    c.real_turn-turn.new.tally c.real_turn-turn.result =
    record {
      makes = rw (c.marked.ensures, c.skip.ensures) at c.real_turn-turn.ensures;
      keeps = c.requires;
      small = c.args.tally.now.small;
      rules = rw c.marked.ensures at c.marked.result.now.regions.keeps_rules;
    } in
    round_beside c.args.real.now c.args.tally.now c.args.replay.now c.real_turn-turn.new.real
    c.real_turn-turn.new.tally c.real_turn-turn.result
    c.keeps_up.new.replay _ c.replay_reason-why.result played
    (sym (rw c.mode.ensures at c.real_reason.ensures) ∙ c.in_default.is) c.if-enclosed.false
    (record {
      says = λ masks place stands. c.replay_reason-why.ensures ∙ c.keeps_up.ensures.why masks place stands;
      joins = λ masks place stands none. c.keeps_up.ensures.joins masks place stands (sym c.replay_reason-why.ensures ∙ none);
      enclosures = c.keeps_up.ensures.enclosures;
      bits = c.keeps_up.ensures.bits;
      masks = refl;
      needed = refl;
      budget = refl;
      agrees = λ none. c.keeps_up.ensures.agrees (sym c.replay_reason-why.ensures ∙ none);
    })
