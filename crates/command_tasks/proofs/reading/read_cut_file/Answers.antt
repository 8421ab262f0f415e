use Rattle.std.proofs.Common.{◌≢◌}
use Rattle.std.proofs.lemmas.Result.{err_from_is_err_and}
use Rattle.cut_file.specs.Faults.{FirstCutFault}
use Rattle.cut_file.specs.declared.faults.CutFault.TheVariants.{Memory as NoRoomForCut}
use Rattle.command_tasks.specs.declared.refusals.Refusal.TheVariants.{Cut}
use Rattle.command_tasks.proofs.Refusing.{refused_first}
use Rattle.command_tasks.proofs.reading.read_cut_file.Goals as goal

pub returns-in_err-read_cut-clause-err : goal.returns-in_err-read_cut-clause-err
returns-in_err-read_cut-clause-err c =
    let exit = err_from_is_err_and c.from_residual.result c.from_residual.ensures.1 in
    refused_first (λ f. FirstCutFault c.args.file.now f × (f ≢ NoRoomForCut)) NoRoomForCut (λ f. Cut f)
    c.in_err-read_cut.field-0.0 exit.0 c.from_residual.result exit.1 exit.2
    (λ apart. (rw c.as_slice.ensures at c.in_err-read_cut.ensures.fault, apart))
