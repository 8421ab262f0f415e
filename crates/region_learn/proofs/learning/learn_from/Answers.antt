use Rattle.std.proofs.Common.{◌∙◌, refl, sym}
use Rattle.region_learn.specs.Written.{Run}
use Rattle.region_learn.proofs.KeptOutputs.{no_output_is_kept}
use Rattle.region_learn.proofs.LostBytes.{no_byte_can_go}
use Rattle.region_learn.proofs.LeftOut.{no_register_can_go}
use Rattle.region_learn.proofs.UnbrokenRuns.{runs_unbroken}
use Rattle.region_learn.proofs.RunEnds.{book_base}
use Rattle.region_learn.proofs.learning.learn_from.Goals as goal

pub declaration-requires-clause-base : goal.declaration-requires-clause-base
declaration-requires-clause-base c =
    book_base c.run.new.book c.base-base.result
    (λ place none below. (c.in-Ok.ensures.book.each place none below).base ∙ sym c.base-base.ensures)

pub returns-in-Ok-declaration-clause-ok : goal.returns-in-Ok-declaration-clause-ok
returns-in-Ok-declaration-clause-ok c =
    c.in-Ok-declaration.ensures.ok
    (record { regions = c.args.marked.now.regions.items; start = c.args.machine.now; turns = c.args.turns }) refl
    c.in-Ok.ensures.book c.in-Ok.ensures.exit

pub returns-in-Err-declaration-clause-err : goal.returns-in-Err-declaration-clause-err
returns-in-Err-declaration-clause-err c = λ free.
    c.in-Err-declaration.ensures.err free
    (record { regions = c.args.marked.now.regions.items; start = c.args.machine.now; turns = c.args.turns }) refl
    c.in-Ok.ensures.book c.in-Ok.ensures.exit

pub returns-in-Ok-declaration-clause-unbroken : goal.returns-in-Ok-declaration-clause-unbroken
returns-in-Ok-declaration-clause-unbroken c =
    let run : Run =
    record { regions = c.args.marked.now.regions.items; start = c.args.machine.now; turns = c.args.turns } in
    runs_unbroken run c.in-Ok-declaration.regions.items
    (c.in-Ok-declaration.ensures.ok run refl c.in-Ok.ensures.book c.in-Ok.ensures.exit)
    (c.in-Ok-declaration.ensures.tight run refl (sym c.base-base.ensures) c.in-Ok.ensures.book)

pub returns-in-Ok-declaration-clause-registers : goal.returns-in-Ok-declaration-clause-registers
returns-in-Ok-declaration-clause-registers c =
    let run : Run =
    record { regions = c.args.marked.now.regions.items; start = c.args.machine.now; turns = c.args.turns } in
    no_register_can_go run c.in-Ok-declaration.regions.items
    (c.in-Ok-declaration.ensures.ok run refl c.in-Ok.ensures.book c.in-Ok.ensures.exit)
    (c.in-Ok-declaration.ensures.tight run refl (sym c.base-base.ensures) c.in-Ok.ensures.book)

pub returns-in-Ok-declaration-clause-bytes : goal.returns-in-Ok-declaration-clause-bytes
returns-in-Ok-declaration-clause-bytes c =
    let run : Run =
    record { regions = c.args.marked.now.regions.items; start = c.args.machine.now; turns = c.args.turns } in
    no_byte_can_go run c.in-Ok-declaration.regions.items
    (c.in-Ok-declaration.ensures.ok run refl c.in-Ok.ensures.book c.in-Ok.ensures.exit)
    (c.in-Ok-declaration.ensures.tight run refl (sym c.base-base.ensures) c.in-Ok.ensures.book)

pub returns-in-Ok-declaration-clause-outputs : goal.returns-in-Ok-declaration-clause-outputs
returns-in-Ok-declaration-clause-outputs c =
    let run : Run =
    record { regions = c.args.marked.now.regions.items; start = c.args.machine.now; turns = c.args.turns } in
    no_output_is_kept run c.in-Ok-declaration.regions.items
    (c.in-Ok-declaration.ensures.ok run refl c.in-Ok.ensures.book c.in-Ok.ensures.exit)
    (c.in-Ok-declaration.ensures.tight run refl (sym c.base-base.ensures) c.in-Ok.ensures.book)
