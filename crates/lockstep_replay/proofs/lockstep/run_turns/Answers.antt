use Rattle.std.proofs.Common.{◌∙◌, suc, ◌-◌, refl, sym, ap, subst, arith, add-one}
use Rattle.lockstep_replay.specs.declared.verdicts.Why.TheVariants.{TurnLimit}
use Rattle.lockstep_replay.specs.Verdicts.{Rejects, judged_from}
use Rattle.lockstep_replay.proofs.RoundVerdicts.{StandsAt, stands_start, step_stands, step_rejects, step_accepts, step_goes}
use Rattle.lockstep_replay.proofs.RoundVerdicts.{judged_limit, none_of}
use Rattle.lockstep_replay.proofs.lockstep.run_turns.Goals as goal

pub loop-init : goal.loop-init
loop-init c = record {
  fine = refl;
  keeps = c.requires.keeps;
  stands = λ task limits secret begins. stands_start task limits secret c.args.runs begins c.requires.empty;
  judged = λ task limits secret begins. ap (λ n. judged_from task limits secret n 0) (omega arith);
}

pub returns-in-Some : goal.returns-in-Some
returns-in-Some c = λ task limits secret begins limit.
    sym (step_rejects task limits secret (c.args.turns - suc c.loop.counter) c.loop.counter c.loop.real c.loop.tally
    c.loop.replay c.make_round.new.real c.make_round.new.tally c.make_round.new.replay c.make_round.new.round c.in-Some.why
    (c.loop.invariant.stands task limits secret begins) c.loop.invariant.keeps.kept c.make_round.ensures c.in-Some.is)
    ∙ (ap (λ n. judged_from task limits secret n c.loop.counter) (omega arith)
    ∙ c.loop.invariant.judged task limits secret begins)

pub returns-in-Some-exit_status : goal.returns-in-Some-exit_status
returns-in-Some-exit_status c = λ task limits secret begins limit.
    let exits = rw (c.in-Some-exit_status.is, c.mode.ensures) at c.exit_status.ensures in
    c.accepted.ensures
    ∙ (sym (step_accepts task limits secret (c.args.turns - suc c.loop.counter) c.loop.counter c.loop.real c.loop.tally
    c.loop.replay c.make_round.new.real c.make_round.new.tally c.make_round.new.replay c.make_round.new.round
    c.in-Some-exit_status.status (c.loop.invariant.stands task limits secret begins) c.loop.invariant.keeps.kept
    c.make_round.ensures (none_of c.make_round.new.round.why c.in_default.not-Some) exits.0 exits.1)
    ∙ (ap (λ n. judged_from task limits secret n c.loop.counter) (omega arith)
    ∙ c.loop.invariant.judged task limits secret begins))

pub loop-preserved : goal.loop-preserved
loop-preserved c = record {
  fine = none_of c.make_round.new.round.why c.in_default.not-Some;
  keeps = c.make_round.ensures.keeps (none_of c.make_round.new.round.why c.in_default.not-Some);
  stands = λ task limits secret begins.
      subst (λ n. StandsAt task limits secret n c.make_round.new.real c.make_round.new.tally c.make_round.new.replay)
      (sym (add-one c.loop.counter)) (step_stands task limits secret c.loop.counter c.loop.real c.loop.tally
      c.loop.replay c.make_round.new.real c.make_round.new.tally c.make_round.new.replay c.make_round.new.round
      (c.loop.invariant.stands task limits secret begins) c.make_round.ensures
      (none_of c.make_round.new.round.why c.in_default.not-Some));
  judged = λ task limits secret begins.
      ap (λ n. judged_from task limits secret (c.args.turns - n) n) (add-one c.loop.counter)
      ∙ (sym (step_goes task limits secret (c.args.turns - suc c.loop.counter) c.loop.counter c.loop.real c.loop.tally
      c.loop.replay c.make_round.new.real c.make_round.new.tally c.make_round.new.replay c.make_round.new.round
      (c.loop.invariant.stands task limits secret begins) c.loop.invariant.keeps.kept c.make_round.ensures
      (none_of c.make_round.new.round.why c.in_default.not-Some)
      (rw (none_of c.exit_status.result c.in_default-exit_status.not-Some, c.mode.ensures) at c.exit_status.ensures))
      ∙ (ap (λ n. judged_from task limits secret n c.loop.counter) (omega arith)
      ∙ c.loop.invariant.judged task limits secret begins));
}

pub returns : goal.returns
returns c = λ task limits secret begins limit.
    ap (λ n. Rejects (TurnLimit n)) limit
    ∙ (sym (judged_limit task limits secret (c.args.turns - c.loop.counter) c.loop.counter (omega arith))
    ∙ c.loop.invariant.judged task limits secret begins)
