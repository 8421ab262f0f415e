use Rattle.std.proofs.Common.{refl}
use Rattle.every_secret.specs.Private.Tapes.{ruling_of, tape_of}
use Rattle.every_secret.proofs.JudgedTrees.{stop_judged}
use Rattle.every_secret.proofs.judging.judge_stop.Goals as goal

pub returns : goal.returns
returns g c = λ machine.
    let side = c.args.side.now in
    let tape = tape_of (ruling_of side.book.now.table side.known) side.shadow side.masks side.bits side.crossed side.byte_masks.items
    side.status_mask side.unclear in
    stop_judged machine tape c.args.findings.now c.args.stop c.args.after c.repeats.result
    (record { patterns = c.args.findings.now.patterns; first_stop = c.note_stop.new.first }) c.repeats.ensures refl
    c.in_ok-note_stop.ensures
