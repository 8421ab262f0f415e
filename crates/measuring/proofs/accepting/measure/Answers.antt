use Rattle.std.proofs.lemmas.Result.{IfOk-weaker}
use Rattle.elf32_loader.specs.Images.{image_picture}
use Rattle.measuring.proofs.OwnCuts.{accepted, few, folds, short, small}
use Rattle.measuring.proofs.accepting.measure.Goals as goal

pub returns-clause-accepted : goal.returns-clause-accepted
returns-clause-accepted g c =
    IfOk-weaker c.measure_run.result _ _
    (λ measured m. accepted c.args.book.now.table (image_picture c.args.image.now) c.args.public.now
    c.args.regions.now.items c.args.secret.now c.args.turns measured m c.tell_inputs.ensures)
    c.measure_run.ensures.ok

pub returns-clause-folds : goal.returns-clause-folds
returns-clause-folds g c =
    IfOk-weaker c.measure_run.result _ _
    (λ measured m. folds c.args.book.now.table (image_picture c.args.image.now) c.args.public.now
    c.args.regions.now.items c.args.secret.now c.args.turns measured m c.tell_inputs.ensures)
    c.measure_run.ensures.ok

pub returns-clause-few : goal.returns-clause-few
returns-clause-few g c =
    IfOk-weaker c.measure_run.result _ _
    (λ measured m. few c.args.book.now.table (image_picture c.args.image.now) c.args.public.now c.args.regions.now.items
    c.args.secret.now c.args.turns measured m)
    c.measure_run.ensures.ok

pub returns-clause-runs : goal.returns-clause-runs
returns-clause-runs g c =
    IfOk-weaker c.measure_run.result _ _
    (λ measured m. small c.args.book.now.table (image_picture c.args.image.now) c.args.public.now
    c.args.regions.now.items c.args.secret.now c.args.turns measured m)
    c.measure_run.ensures.ok

pub returns-clause-short : goal.returns-clause-short
returns-clause-short g c =
    IfOk-weaker c.measure_run.result _ _
    (λ measured m. short c.args.book.now.table (image_picture c.args.image.now) c.args.public.now
    c.args.regions.now.items c.args.secret.now c.args.turns measured m c.requires.short)
    c.measure_run.ensures.ok
