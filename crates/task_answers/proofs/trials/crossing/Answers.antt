use Rattle.std.proofs.Common.{◌∙◌, List, ℕ, subst, sym, ap}
use Rattle.cut_file.specs.Pictures.{cut_picture}
use Rattle.lockstep_replay.specs.Acceptance.{Accept}
use Rattle.lockstep_replay.specs.Tasks.{Cross, Limits}
use Rattle.lockstep_replay.specs.Verdicts.{First}
use Rattle.lockstep_replay.proofs.Judging.{accepts_law}
use Rattle.trial_guests.specs.Secrets.{secret_of}
use Rattle.command_tasks.specs.Guests.{Guest}
use Rattle.task_answers.specs.Checks.{judged_by}
use Rattle.task_answers.specs.Trials.{guest_of_number, trial_turns}
use Rattle.task_answers.proofs.trials.crossing.Goals as goal

pub crossing_of-requires : goal.crossing_of-requires
crossing_of-requires c =
    let number = c.args.number in
    let cut = cut_picture c.args.measured.now.cut in
    let task = judged_by (guest_of_number number) cut in
    let output = c.args.measured.now.output in
    let limits : Limits = record { budget = c.args.measured.now.cut.bits; turns = trial_turns } in
    let accepted = subst (λ (budget : ℕ). Accept task (record { budget = budget; turns = trial_turns })
    (secret_of number) output) (sym c.requires.bits) c.requires.measured.accepted in
    let judged = ap (λ (g : Guest). First (judged_by g cut) limits c.args.secret.now) c.requires.guest
    ∙ ap (λ (s : List ℕ). First task limits s) c.requires.secret in (
      Cross task (secret_of number) trial_turns,
      output,
      c.in_ok-verdict.ensures ∙ (judged ∙ accepts_law task limits (secret_of number) output accepted),
    )

pub returns : goal.returns
returns c =
    let number = c.args.number in
    let cut = cut_picture c.args.measured.now.cut in
    let task = judged_by (guest_of_number number) cut in
    let output = c.args.measured.now.output in
    let limits : Limits = record { budget = c.args.measured.now.cut.bits; turns = trial_turns } in
    let accepted = subst (λ (budget : ℕ). Accept task (record { budget = budget; turns = trial_turns })
    (secret_of number) output) (sym c.requires.bits) c.requires.measured.accepted in
    let judged = ap (λ (g : Guest). First (judged_by g cut) limits c.args.secret.now) c.requires.guest
    ∙ ap (λ (s : List ℕ). First task limits s) c.requires.secret in
    c.crossing_of.ensures (Cross task (secret_of number) trial_turns) output
    (c.in_ok-verdict.ensures ∙ (judged ∙ accepts_law task limits (secret_of number) output accepted))
