use Rattle.elf32_loader.specs.Images.{image_picture}
use Rattle.std.proofs.Common.{subst}
use Rattle.measuring.specs.Following.{EndsAs}
use Rattle.many_runs.specs.Measures.{setup_of, start_on}
use Rattle.many_runs.proofs.RecordedRuns.{exit_exceeds, exit_followed}
use Rattle.many_runs.proofs.following_all.record_run.Goals as goal

pub returns-then-exit-clause-err : goal.returns-then-exit-clause-err
returns-then-exit-clause-err g c =
    exit_exceeds _ _ _ _ c.in-Exited.exit
    (subst (EndsAs c.args.setup.now.book.now.table c.args.setup.now.regions.now.items
    (start_on (setup_of c.args.setup.now.book.now.table
    (image_picture c.args.setup.now.image.now) c.args.setup.now.public.now c.args.setup.now.regions.now.items
    c.args.setup.now.turns) c.args.secret.now) c.args.setup.now.turns)
    c.in-Exited.is c.in-Ok.ensures) c.if-exit.true

pub returns-else-exit-clause-ok : goal.returns-else-exit-clause-ok
returns-else-exit-clause-ok g c =
    exit_followed _ _ _ _ _ c.args.secret.now c.in-Exited.exit
    (subst (EndsAs c.args.setup.now.book.now.table c.args.setup.now.regions.now.items
    (start_on (setup_of c.args.setup.now.book.now.table
    (image_picture c.args.setup.now.image.now) c.args.setup.now.public.now c.args.setup.now.regions.now.items
    c.args.setup.now.turns) c.args.secret.now) c.args.setup.now.turns)
    c.in-Exited.is c.in-Ok.ensures) c.if-exit.false
