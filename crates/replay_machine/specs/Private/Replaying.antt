-- At the end of a turn nothing more is asked for.
use Rattle.std.specs.Prelude.{ℕ, zero, suc, List, refl}
use Rattle.std.proofs.Common.{arith}
use Rattle.flow_base.specs.declared.points.Point.{Point}
use Rattle.cut_file.specs.declared.points.CutPoint.{CutPoint}
use Rattle.crossing_bits.specs.Strings.{Stream, left_of}
use Rattle.rv32im_machine.specs.State.{State}
use Rattle.rv32im_machine.specs.Language.{Ended}
use Rattle.rv32im_machine.specs.Playing.{Finished}
use Rattle.replay_machine.specs.Runs.{Masks, replayed}
use Rattle.replay_machine.specs.Visits.{IsAhead}
use Rattle.replay_machine.specs.Private.Sides.{fed_of, Replays}

pub replays_Ended : (Stop : Type 0) (ahead : List CutPoint) (stream : Stream) (missing : ℕ) (masks : Masks)
    (past : List Point) (state : State) →
    IsAhead ahead masks past →
    Replays {Stop = Stop} masks stream (fed_of missing (replayed masks past (Ended state)) (left_of stream))
    (Finished state (record { ahead = ahead; stream = stream; missing = missing }))
unfolding replayed
replays_Ended Stop ahead stream zero masks past state known =
    record { state = refl; outside = refl; ahead = known; left = refl; missing = refl; bits = refl; room = refl }
replays_Ended Stop ahead stream (suc missing) masks past state known =
    record { some = omega arith; missing = refl; bits = refl; room = refl }
