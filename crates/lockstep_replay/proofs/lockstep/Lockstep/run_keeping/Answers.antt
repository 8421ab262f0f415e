use Rattle.std.proofs.Common.{◌≡◌, ◌∙◌, ◌==◌, [], length, sym, ap, true, eq-eqb, append-nil, arith}
use Rattle.std.specs.Prelude.{if◌then◌else◌}
use Rattle.rv32im_machine.specs.State.{State}
use Rattle.lockstep_replay.specs.declared.verdicts.Why.TheVariants.{SecretLength}
use Rattle.lockstep_replay.specs.Verdicts.{Rejects, judged_from}
use Rattle.lockstep_replay.proofs.lockstep.Lockstep.run_keeping.Goals as goal

pub returns-then-got-wanted : goal.returns-then-got-wanted
returns-then-got-wanted c = λ task limits secret is.
    let real : length secret ≡ c.args.self.got =
    ap (λ (s : State). s.setting.secret_length) is.begins.real ∙ sym c.args.self.got_is in
    let test : (length secret == task.secret_length) ≡ true =
    eq-eqb (length secret) task.secret_length (real ∙ (c.if-got-wanted.true ∙ is.wanted)) in
    c.run_turns.ensures task limits secret is.begins is.turns
    ∙ (ap (λ n. judged_from task limits secret n 0) is.turns
    ∙ sym (ap (λ b. if b then judged_from task limits secret limits.turns 0 else Rejects
    (SecretLength task.secret_length (length secret))) test))

pub run_turns-requires-clause-keeps : goal.run_turns-requires-clause-keeps
run_turns-requires-clause-keeps c = record {
  wanted = c.args.self.lacks_none;
  used = c.args.self.unused ∙ sym c.args.self.uncounted;
  taken = omega (arith, c.args.self.untaken, ap length c.args.self.empty);
  kept = omega (arith, c.args.self.uncounted, ap length c.args.self.empty);
  within = omega (arith, c.args.self.uncounted);
  output = ([], c.args.self.alike ∙ sym (append-nil c.args.self.runs.replay.state.control.output));
  leaves = c.args.self.leaves;
}
