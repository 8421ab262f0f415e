use Rattle.std.proofs.Common.{◌≡◌, Err, arith}
use Rattle.std.proofs.lemmas.Grind.{common_steps}
use Rattle.command_line.specs.Words.{guest_of}
use Rattle.command_tasks.specs.Private.LoadedFiles.{files_in}
use Rattle.command_tasks.specs.Tasks.{IsGuestFilesRefusal}
use Rattle.command_tasks.proofs.Refusing.{handed_on}
use Rattle.command_tasks.proofs.reading.read_many_runs.Goals as goal

pub returns-in_err-guest-clause-err : goal.returns-in_err-guest-clause-err
returns-in_err-guest-clause-err c =
    let refusal = c.in_err-guest.field-0.0 in
    let same : c.from_residual.result ≡ Err refusal = grind (arith, common_steps) in
    let files = c.files_of_many_runs.result in
    handed_on (IsGuestFilesRefusal (guest_of c.args.runs.now.guest) c.args.files.now) refusal c.from_residual.result same
    (λ known. record {
      guest_files = files_in files.0;
      secrets = files.1.now;
      are = c.files_of_many_runs.ensures.are;
      first = c.in_err-guest.ensures.err known;
    })
