use Rattle.std.proofs.Common.{refl}
use Rattle.command_tasks.specs.Loading.{want}
use Rattle.command_tasks.specs.declared.kinds.FileKind.TheVariants as kinds
use Rattle.command_tasks.proofs.reading.read_task.Goals as goal

pub one_file-requires : goal.one_file-requires
one_file-requires c = (want c.in-Assemble.source.now kinds.Source, rw c.in-Assemble.is at c.requires.within)

pub one_file-requires-in-List : goal.one_file-requires-in-List
one_file-requires-in-List c = (want c.in-List.program.now kinds.Program, rw c.in-List.is at c.requires.within)

pub one_file-requires-in-Verify : goal.one_file-requires-in-Verify
one_file-requires-in-Verify c =
    (want c.in-Verify.certificate.now kinds.Certificate, rw c.in-Verify.is at c.requires.within)

pub one_file-requires-in-Migrate : goal.one_file-requires-in-Migrate
one_file-requires-in-Migrate c = (want c.in-Migrate.cut.now kinds.Cut, rw c.in-Migrate.is at c.requires.within)

pub returns-in_ok-read_certificate_file-in-Verify-clause-ok : goal.returns-in_ok-read_certificate_file-in-Verify-clause-ok
returns-in_ok-read_certificate_file-in-Verify-clause-ok c =
    let certificate = c.in_ok-read_certificate_file-in-Verify.field-0 in
    rw c.in-Verify.is (
      c.one_file-in-Verify.result.now,
      certificate.graph,
      certificate.solved,
      c.one_file-in-Verify.ensures.is,
      c.in_ok-read_certificate_file-in-Verify.ensures.ok,
      refl,
    )
