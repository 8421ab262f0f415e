use Rattle.std.proofs.Common.{◌≡◌, Err, inl, inr, arith}
use Rattle.std.proofs.lemmas.Grind.{common_steps}
use Rattle.command_line.specs.Words.{guest_of}
use Rattle.command_tasks.specs.Private.LoadedFiles.{files_in}
use Rattle.command_tasks.specs.ReadTasks.{guest_in}
use Rattle.command_tasks.specs.Tasks.{IsCutFilesRefusal}
use Rattle.command_tasks.proofs.Refusing.{handed_on}
use Rattle.command_tasks.proofs.reading.read_check.Goals as goal

pub returns-in_err-guest-clause-err : goal.returns-in_err-guest-clause-err
returns-in_err-guest-clause-err c =
    let refusal = c.in_err-guest.field-0.0 in
    let same : c.from_residual.result ≡ Err refusal = grind (arith, common_steps) in
    let files = c.files_of_check.result in
    handed_on (IsCutFilesRefusal (guest_of c.args.check.now.guest) c.args.files.now) refusal c.from_residual.result same
    (λ known. record {
      guest_files = files_in files.0;
      cut_file = files.1.now;
      secrets = files.2.now;
      are = c.files_of_check.ensures.are;
      first = inl (c.in_err-guest.ensures.err known);
    })

pub returns-in_err-cut-clause-err : goal.returns-in_err-cut-clause-err
returns-in_err-cut-clause-err c =
    let refusal = c.in_err-cut.field-0.0 in
    let same : c.from_residual-in_err-cut.result ≡ Err refusal = grind (arith, common_steps) in
    let files = c.files_of_check.result in
    handed_on (IsCutFilesRefusal (guest_of c.args.check.now.guest) c.args.files.now) refusal c.from_residual-in_err-cut.result same
    (λ known. record {
      guest_files = files_in files.0;
      cut_file = files.1.now;
      secrets = files.2.now;
      are = c.files_of_check.ensures.are;
      first = inr (guest_in c.in_ok-guest.guest, c.in_ok-guest.ensures.ok, c.in_err-cut.ensures.err known);
    })
