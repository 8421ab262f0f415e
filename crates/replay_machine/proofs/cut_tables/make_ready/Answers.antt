use Rattle.std.proofs.Common.{◌≡◌, length, arith}
use Rattle.replay_machine.specs.Tables.{all_ahead}
use Rattle.replay_machine.proofs.MasksAhead.{same_set, same_trans}
use Rattle.replay_machine.proofs.cut_tables.make_ready.Goals as goal

pub loop-index-preserved : goal.loop-index-preserved
loop-index-preserved c =
    let long : length c.loop-index.cursors.items ≡ length c.args.points.now.items =
    omega (arith, c.loop-index.invariant.length, c.args.points.now.ok, c.loop-index.cursors.ok) in
    record {
      same = same_trans _ (all_ahead c.args.points.now.items c.loop-index.cursors.items) _
          (same_set c.loop-index.index c.args.points.now.items c.loop-index.cursors.items
          c.index-in-loop-index.result.now c.index.result.now c.ready.result long c.index-in-loop-index.ensures
          c.index.ensures c.ready.ensures.same)
          c.loop-index.invariant.same;
      length = c.loop-index.invariant.length;
    }
