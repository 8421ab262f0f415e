-- What a turn of the real side leaves of the string of bits.
use Rattle.std.specs.Prelude.{◌≡◌, ℕ, ◌+◌, ◌≤◌, List, ◌++◌, length, Bool}
use Rattle.flow_base.specs.declared.points.Point.{Point}
use Rattle.crossing_bits.specs.Strings.{Stream}
use Rattle.cut_file.specs.declared.points.CutPoint.{CutPoint}
use Rattle.rv32im_machine.specs.State.{State}
use Rattle.rv32im_machine.specs.Playing.{Played, Finished, Halted}
use Rattle.replay_machine.specs.Runs.{Masks}
use Rattle.replay_machine.specs.Visits.{IsAhead}
use Rattle.lockstep_replay.specs.Verdicts.{counted_bits}

-- the real side: the masks that are ahead, the string so far, the number of crossing bits so far, and the budget up to
-- which they are kept
pub record Tally : Type 0 where
  pub ahead : List CutPoint
  pub stream : Stream
  pub needed : ℕ
  pub budget : ℕ

-- after these bits have crossed: they are counted, and are kept as long as the budget holds
pub record Tallies (before : Tally) (bits : List Bool) (after : Tally) : Type 0 where
  pub budget : after.budget ≡ before.budget
  pub needed : after.needed ≡ counted_bits (before.needed + length bits)
  pub kept : before.needed + length bits ≤ before.budget → after.stream.bits ≡ before.stream.bits ++ bits
  pub taken : after.stream.taken ≡ before.stream.taken

-- the turn has reached this state, these points have been passed, and these bits have crossed
abbrev pub Crosses : {Stop : Type 0} → Tally → Masks → List Point → List Bool → State → Played Stop Tally → Type 0
Crosses before masks past bits state (Finished reached after) =
    (state ≡ reached) × (IsAhead after.ahead masks past × Tallies before bits after)
Crosses before masks past bits state (Halted stop) = ⊥
