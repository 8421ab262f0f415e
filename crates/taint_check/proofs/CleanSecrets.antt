-- The law that a clean secret is accepted: the run within all turns.
use Rattle.std.proofs.Common.{◌≡◌, suc, length, sym, ap, ◌∙◌, arith}
use Rattle.rv32im_machine.specs.Start.{zeros}
use Rattle.region_machine.specs.Starts.{guest}
use Rattle.replay_machine.specs.Runs.{replay_fresh}
use Rattle.lockstep_replay.specs.Tasks.{real_of, replay_start, task_of}
use Rattle.lockstep_replay.specs.Verdicts.{Accepts}
use Rattle.lockstep_replay.proofs.Bounds.{greater_limits_law, over_exited}
use Rattle.lockstep_replay.proofs.Judging.{accepts_law}
use Rattle.lockstep_replay.proofs.Stillness.{cross_later}
use Rattle.acceptance_law.proofs.CoveredRunAccepted.{length_zeros, zero_bytes}
use Rattle.acceptance_law.proofs.ProperRows.{proper_law}
use Rattle.acceptance_law.proofs.ProperStarts.{guest_start_law}
use Rattle.acceptance_law.proofs.StepsKeepStanding.{state_of}
use Rattle.masked_turns.proofs.CutNumbers.{small_masks, valid_skip}
use Rattle.taint_check.specs.Laws.{CleanLaw}
use Rattle.taint_check.proofs.CleanRuns.{accepted}
use Rattle.taint_check.proofs.FoundRuns.{clean_run}

pub clean_law : CleanLaw
clean_law table program public_input regions secret cut limits bits output inputs valid verdict =
    let task = task_of program public_input regions cut in
    let place = guest program public_input secret in
    let setting = place.state.setting in
    let first = place.state.control in
    let store = place.state.store in
    let other = zeros cut.secret_len in
    let found = clean_run table task limits secret bits output verdict in
    let run = found.1 in
    let turns = suc (length run.answers) in
    let is = guest_start_law program public_input secret inputs.program_valid inputs.program_bytes inputs.public_bytes
    inputs.secret_bytes in
    let long : length secret ≡ length other = found.0 ∙ sym (length_zeros cut.secret_len) in
    let starts : replay_fresh (state_of setting other first store) ≡ replay_start task =
    ap (λ n. replay_fresh (state_of (record setting { secret_length = n }) other first store)) long in
    let early = accepted table task limits secret other inputs.secret_bytes (zero_bytes cut.secret_len) is
    (small_masks cut.points) proper_law inputs.regions_valid (valid_skip cut valid) run.last run.answers output found.0
    starts run.are_answers run.fine run.exits in
    let accept = greater_limits_law task (record { budget = limits.budget; turns = turns }) limits secret output
    (omega arith) run.shorter early in
    let over = over_exited (real_of task secret turns).state.control.mode output.status early.exits.status in
    accepts_law task limits secret output accept
    ∙ ap (λ b. Accepts b output)
    (cross_later task.enclosures task.masks place turns limits.turns run.shorter over ∙ sym run.bits_are)
