use Rattle.std.proofs.Common.{◌+◌, ◌*◌, arith}
use Rattle.kept_states.specs.Keeping.{memory_byte}
use Rattle.kept_states.specs.Laids.{LaidBelow}
use Rattle.kept_states.proofs.Growing.{grows_trans}
use Rattle.kept_states.proofs.LaidBytes.{below_at, below_page}
use Rattle.kept_states.proofs.laying.lay_page.Goals as goal

pub loop-place-preserved : goal.loop-place-preserved
loop-place-preserved c =
    let step : LaidBelow c.lay.new.pieces c.lay.new.laids.items (c.args.page * 16 + c.loop-place.place + 1)
    (memory_byte c.args.machine.now) =
    c.in_ok-lay.ensures.laid (memory_byte c.args.machine.now) c.piece.ensures.bytes c.loop-place.invariant.laid in
    record {
      laid = below_at c.lay.new.pieces c.lay.new.laids.items (c.args.page * 16 + c.loop-place.place + 1)
          (c.args.page * 16 + (c.loop-place.place + 1)) (memory_byte c.args.machine.now) (omega arith) step;
      grows = grows_trans c.args.pieces.now c.loop-place.pieces c.lay.new.pieces c.loop-place.invariant.grows
          c.in_ok-lay.ensures.grows;
    }
