-- At the end of a turn nothing more crosses.
use Rattle.std.specs.Prelude.{◌≡◌, ◌<◌, List, [], Bool, refl}
use Rattle.std.proofs.Common.{arith, sym, append-nil}
use Rattle.flow_base.specs.declared.points.Point.{Point}
use Rattle.rv32im_machine.specs.State.{State}
use Rattle.rv32im_machine.specs.Language.{Ended}
use Rattle.rv32im_machine.specs.Folds.{real_end}
use Rattle.rv32im_machine.specs.Playing.{Finished}
use Rattle.region_machine.specs.Runs.{passed}
use Rattle.replay_machine.specs.Runs.{Masks}
use Rattle.replay_machine.specs.Visits.{IsAhead}
use Rattle.lockstep_replay.specs.Crossing.{crossing}
use Rattle.lockstep_replay.specs.Tapes.{Tally, Tallies, Crosses}

pub tallies_none : (tally : Tally) → tally.needed < 4294967296 → Tallies tally [] tally
tallies_none tally small = record {
  budget = refl;
  needed = omega (arith, small);
  kept = λ fits. sym (append-nil tally.stream.bits);
  taken = refl;
}

pub crosses_Ended : (Stop : Type 0) (tally : Tally) (masks : Masks) (past : List Point) (state : State) →
    tally.needed < 4294967296 → IsAhead tally.ahead masks past →
    Crosses {Stop = Stop} tally masks (passed past (Ended state)) (crossing masks past (Ended state))
    (real_end (Ended state)) (Finished state tally)
unfolding crossing real_end passed
crosses_Ended Stop tally masks past state small ahead = (refl, (ahead, tallies_none tally small))

-- a turn whose values are tallied ends as the real one
pub crosses_real : (Stop : Type 0) (tally : Tally) (masks : Masks) (past : List Point) (bits : List Bool)
    (end state : State) (after : Tally) →
    Crosses {Stop = Stop} tally masks past bits end (Finished state after) → state ≡ end
crosses_real Stop tally masks past bits end state after h = sym h.0
