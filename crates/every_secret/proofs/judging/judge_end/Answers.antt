use Rattle.std.proofs.Common.{subst, sym}
use Rattle.every_secret.specs.declared.endings.Ending.{Ending}
use Rattle.every_secret.specs.declared.judging.Judged.TheVariants as made
use Rattle.every_secret.specs.declared.searching.Came.TheVariants.{Ended}
use Rattle.every_secret.specs.Private.Searching.{JudgesSo}
use Rattle.every_secret.specs.Private.Tapes.{ruling_of, tape_of}
use Rattle.every_secret.proofs.JudgedTrees.{unclear_judged}
use Rattle.every_secret.proofs.judging.judge_end.Goals as goal

pub returns-in-Unclear : goal.returns-in-Unclear
returns-in-Unclear g c =
    let side = c.args.side.now in
    let tape = tape_of (ruling_of side.book.now.table side.known) side.shadow side.masks side.bits side.crossed side.byte_masks.items
    side.status_mask side.unclear in
    let why = c.in-Unclear.why in
    let P : Ending → Type 0 =
    λ e. JudgesSo (Ended e c.args.after) c.args.machine.now tape c.args.findings.now c.args.findings.now
    (made.Unclear why) in
    subst P (sym c.in-Unclear.is) (unclear_judged c.args.machine.now tape c.args.findings.now why c.args.after)
