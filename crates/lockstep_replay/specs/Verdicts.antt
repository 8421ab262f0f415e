-- The verdict on a secret: accepted, or the first condition that fails, by turn and within a turn in a fixed order.
use Rattle.std.specs.Prelude.{ℕ, zero, suc, ◌-◌, ◌==◌, min, nat_lt, List, length, Bool, true, false, Option, Some, None}
use Rattle.std.specs.Prelude.{if◌then◌else◌}
use Rattle.flow_base.specs.declared.outputs.Output.{Output}
use Rattle.crossing_bits.specs.Askers.{Fed, Fed', Short, feed}
use Rattle.rv32im_machine.specs.declared.stepping.Stepped.{Stepped}
use Rattle.rv32im_machine.specs.declared.stepping.Stepped.TheVariants.{Ran, Exited, Stopped}
use Rattle.rv32im_machine.specs.State.{State}
use Rattle.lockstep_replay.specs.declared.differences.Difference.{Difference}
use Rattle.lockstep_replay.specs.declared.verdicts.ReplayStop.TheVariants.{Guest, RangeOutside, Short as TooShort}
use Rattle.lockstep_replay.specs.declared.verdicts.Why.{Why}
use Rattle.lockstep_replay.specs.declared.verdicts.Why.TheVariants.{RealFault, RegionBreak, BudgetOverrun, ReplayFault}
use Rattle.lockstep_replay.specs.declared.verdicts.Why.TheVariants.{Parted}
use Rattle.lockstep_replay.specs.declared.verdicts.Why.TheVariants.{OutputDiffers, TurnLimit, SecretLength}
use Rattle.replay_machine.specs.declared.marks.Mark.{Mark}
use Rattle.enclosure_regions.specs.declared.break_kinds.Break.{Break}
use Rattle.replay_machine.specs.ReplayTurns.{Outside}
use Rattle.region_machine.specs.Runs.{Place}
use Rattle.replay_machine.specs.Runs.{ReplayPlace}
use Rattle.lockstep_replay.specs.Tasks.{Task, Limits, real_of, enclosed_of, common_of, Cross, replay_of}
use Rattle.lockstep_replay.specs.Marks.{mark_of, is_same_mark}
use Rattle.lockstep_replay.specs.Differences.{difference_of}

-- accepted with these crossing bits and this output, or rejected
pub data Judgement : Type 0 where
  Accepts : List Bool → Output → Judgement
  Rejects : Why → Judgement

-- a number of bits as it is printed: 4,294,967,295 stands for that number and all greater ones
abbrev pub counted_bits : ℕ → ℕ
counted_bits bits = min 4294967295 bits

-- the outputs differ
abbrev pub why_output : Option Difference → Option Why
why_output None = None
why_output (Some difference) = Some (OutputDiffers difference.index difference.real difference.replay)

-- or before that the marks
abbrev pub why_marks : Mark → Mark → Option Difference → Option Why
why_marks real replay difference =
    if is_same_mark real replay then why_output difference else Some (Parted real replay)

-- or before that the replay is stopped
abbrev pub why_stopped : Stepped → Mark → Mark → Option Difference → Option Why
why_stopped (Stopped fault) real replay difference = Some (ReplayFault (Guest fault))
why_stopped Ran real replay difference = why_marks real replay difference
why_stopped (Exited status) real replay difference = why_marks real replay difference

abbrev pub why_copy : Option Outside → Stepped → Mark → Mark → Option Difference → Option Why
why_copy (Some outside) mode real replay difference =
    Some (ReplayFault (RangeOutside outside.region outside.range))
why_copy None mode real replay difference = why_stopped mode real replay difference

-- what fails of a replay beside a real run of which so many bits have crossed
abbrev pub why_replay : State → ℕ → Fed ReplayPlace → Option Why
why_replay real crossed (Short missing) = Some (ReplayFault (TooShort missing))
why_replay real crossed (Fed' place rest) =
    why_copy place.outside place.state.control.mode (mark_of real crossed)
    (mark_of place.state (crossed - length rest)) (difference_of real place.state)

-- where no common turn is made, nothing of the replay fails
abbrev pub why_common : Bool → Option Why → Option Why
why_common true why = None
why_common false why = why

-- or before that the budget
abbrev pub why_budget : Bool → ℕ → ℕ → Option Why → Option Why
why_budget true budget needed later = Some (BudgetOverrun budget (counted_bits needed))
why_budget false budget needed later = later

-- or before that the real run is stopped
abbrev pub why_mode : Stepped → ℕ → ℕ → Option Why → Option Why
why_mode (Stopped fault) budget needed later = Some (RealFault fault)
why_mode Ran budget needed later = why_budget (nat_lt budget needed) budget needed later
why_mode (Exited status) budget needed later = why_budget (nat_lt budget needed) budget needed later

-- or before that the real run breaks a region
abbrev pub why_broken : Option Break → Option Why → Option Why
why_broken (Some broken) later = Some (RegionBreak broken)
why_broken None later = later

-- what fails after a turn of the real run, whether it is a skipped region's entry or inside it, its crossing bits so
-- far,
-- and the replay of these
abbrev pub why_of : ℕ → Bool → Place → List Bool → Fed ReplayPlace → Option Why
why_of budget enclosed real cross fed =
    why_broken real.broken
    (why_mode real.state.control.mode budget (length cross)
    (why_common enclosed (why_replay real.state (length cross) fed)))

-- the replay of the crossing bits of so many turns, in their common turns
abbrev pub fed_of : Task → List ℕ → ℕ → Fed ReplayPlace
fed_of task secret turns = feed (replay_of task (common_of task secret turns)) (Cross task secret turns)

-- the condition that fails first in the turn after so many turns, if one does
abbrev pub why_after : Task → Limits → List ℕ → ℕ → Option Why
why_after task limits secret turns =
    why_of limits.budget (enclosed_of task secret turns) (real_of task secret (suc turns))
    (Cross task secret (suc turns)) (fed_of task secret (suc turns))

-- after a turn in which no condition fails: accepted where the run has exited, and else the later judgement
abbrev pub judged_mode : Stepped → State → List Bool → Judgement → Judgement
judged_mode Ran real cross later = later
judged_mode (Exited status) real cross later = Accepts cross (record { bytes = real.control.output; status = status })
judged_mode (Stopped fault) real cross later = later

-- the judgement after a turn, given the later one; no run exits inside a region
abbrev pub judged_after : Option Why → Bool → State → List Bool → Judgement → Judgement
judged_after (Some why) enclosed real cross later = Rejects why
judged_after None true real cross later = later
judged_after None false real cross later = judged_mode real.control.mode real cross later

-- the judgement from a turn on, with so many turns to go
unfoldable pub judged_from : Task → Limits → List ℕ → ℕ → ℕ → Judgement
judged_from task limits secret zero turns = Rejects (TurnLimit limits.turns)
judged_from task limits secret (suc left) turns =
    judged_after (why_after task limits secret turns) (enclosed_of task secret turns)
    (real_of task secret (suc turns)).state (Cross task secret (suc turns))
    (judged_from task limits secret left (suc turns))

-- First: the verdict on a secret
abbrev pub First : Task → Limits → List ℕ → Judgement
First task limits secret =
    if length secret == task.secret_length then judged_from task limits secret limits.turns 0
    else Rejects (SecretLength task.secret_length (length secret))
