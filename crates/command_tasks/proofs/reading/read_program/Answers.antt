use Rattle.std.proofs.lemmas.Result.{err_from_is_err_and}
use Rattle.elf32_loader.specs.FirstFault.{IsFirstFault}
use Rattle.elf32_loader.specs.declared.fault.ElfFault.TheVariants.{Memory as NoRoomForProgram}
use Rattle.command_tasks.specs.declared.refusals.Refusal.TheVariants.{Program}
use Rattle.command_tasks.proofs.Refusing.{refused_first}
use Rattle.command_tasks.proofs.reading.read_program.Goals as goal

pub returns-in_err-load_image-clause-err : goal.returns-in_err-load_image-clause-err
returns-in_err-load_image-clause-err c =
    let exit = err_from_is_err_and c.from_residual.result c.from_residual.ensures.1 in
    refused_first (IsFirstFault c.args.file.now) NoRoomForProgram (λ f. Program f) c.in_err-load_image.field-0.0 exit.0
    c.from_residual.result exit.1 exit.2 (rw c.as_slice.ensures at c.in_err-load_image.ensures.fault)
