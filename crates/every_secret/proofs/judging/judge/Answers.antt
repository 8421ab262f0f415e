use Rattle.std.proofs.Common.{◌+◌, subst, sym, true}
use Rattle.every_secret.specs.declared.judging.Judged.TheVariants as made
use Rattle.every_secret.specs.declared.searching.Came.{Came}
use Rattle.every_secret.specs.Private.Searching.{JudgesSo}
use Rattle.every_secret.specs.Private.Tapes.{ruling_of, tape_of}
use Rattle.every_secret.proofs.JudgedTrees.{met_judged}
use Rattle.every_secret.proofs.judging.judge.Goals as goal

pub returns-in-Met : goal.returns-in-Met
returns-in-Met g c =
    let side = c.args.side.now in
    let tape = tape_of (ruling_of side.book.now.table side.known) side.shadow side.masks side.bits side.crossed side.byte_masks.items
    side.status_mask side.unclear in
    let arm = c.in-Met in
    let P : Came → Type 0 =
    λ came. JudgesSo came c.args.machine.now tape c.args.findings.now c.args.findings.now (made.Add (record {
      paths = arm.closed.paths;
      stopped = arm.closed.stopped;
      after = c.saturating_sub.result;
      crossed = side.crossed + arm.closed.bits;
      repeats = true;
    })) in
    subst P (sym arm.is)
    (met_judged c.args.machine.now tape c.args.findings.now arm.closed arm.left c.saturating_sub.result
    c.saturating_sub.ensures)
