use Rattle.std.proofs.Common.{subst, length}
use Rattle.std.proofs.lemmas.Result.{IfOk-weaker, IfErr-weaker}
use Rattle.elf32_loader.specs.Images.{image_picture}
use Rattle.region_machine.specs.Starts.{guest}
use Rattle.run_labels.specs.Runs.{unlabelled}
use Rattle.measuring.specs.Following.{EndsAs}
use Rattle.measuring.specs.Private.Weighing.{Weighs}
use Rattle.measuring.proofs.Measuring.{measures, exit_cause}
use Rattle.measuring.proofs.RunEvents.{ended_events}
use Rattle.measuring.proofs.weighing.measure_run.Goals as goal

pub returns-in-Ok-Exited-clause-ok : goal.returns-in-Ok-Exited-clause-ok
returns-in-Ok-Exited-clause-ok g c =
    let ended = subst (EndsAs c.args.book.now.table c.args.regions.now.items
    (unlabelled (guest (image_picture c.args.image.now) c.args.public.now c.args.secret.now)) c.args.turns)
    c.in-Ok-Exited.field-0-is c.in-Ok-Exited.ensures in
    IfOk-weaker c.conclude.result _ _
    (λ measured weighs. measures _ _ _ (length c.args.secret.now) _ c.in-Ok-Exited.exit measured ended
    (subst (λ n. Weighs c.in-Ok-Exited.exit n measured) c.len.ensures weighs))
    c.conclude.ensures.ok

pub returns-in-Ok-Exited-clause-err : goal.returns-in-Ok-Exited-clause-err
returns-in-Ok-Exited-clause-err g c =
    let ended = subst (EndsAs c.args.book.now.table c.args.regions.now.items
    (unlabelled (guest (image_picture c.args.image.now) c.args.public.now c.args.secret.now)) c.args.turns)
    c.in-Ok-Exited.field-0-is c.in-Ok-Exited.ensures in
    IfErr-weaker c.conclude.result _ _
    (λ fault cause. exit_cause _ _ _ _ c.in-Ok-Exited.exit fault ended cause) c.conclude.ensures.err

pub conclude-requires-clause-known : goal.conclude-requires-clause-known
conclude-requires-clause-known g c =
    let ended = subst (EndsAs c.args.book.now.table c.args.regions.now.items
    (unlabelled (guest (image_picture c.args.image.now) c.args.public.now c.args.secret.now)) c.args.turns)
    c.in-Ok-Exited.field-0-is c.in-Ok-Exited.ensures in
    ended_events c.args.book.now.table (image_picture c.args.image.now) c.args.public.now c.args.secret.now
    c.args.regions.now.items c.args.turns c.in-Ok-Exited.exit c.requires.regions c.requires.short c.requires.few ended
