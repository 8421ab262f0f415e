use Rattle.std.proofs.Common.{arith}
use Rattle.std.proofs.lemmas.Grind.{common_steps}
use Rattle.std.proofs.lemmas.List.{take_rest}
use Rattle.std.proofs.Math.Seq.{take-add}
use Rattle.std.proofs.KnownBytes.{Appends-trans}
use Rattle.flow_base.proofs.host.write_whole.Goals as goal

pub loop-done-preserved : goal.loop-done-preserved
loop-done-preserved g c =
    let all = c.args.piece.now in
    let done = c.loop-done.done in
    record {
      within = grind (arith, common_steps);
      so_far = rw (take-add done c.in-Ok.count all, ← take_rest all done)
          (Appends-trans _ _ _ _ _ c.loop-done.invariant.so_far c.in-Ok.ensures.bytes);
    }
