-- What a turn of a check with one machine does.
use Rattle.std.specs.Prelude.{◌≡◌, ◌≤◌, ℕ, List, [], ◌++◌, length, Bool, Option, None, IsTrue}
use Rattle.enclosure_regions.specs.declared.region_parts.Region.{Region}
use Rattle.rv32im_machine.specs.State.{State}
use Rattle.region_machine.specs.Within.{may_leave}
use Rattle.replay_machine.specs.Visits.{IsAhead}
use Rattle.tracked_run.specs.Labels.{map_of}
use Rattle.lockstep_replay.specs.Crossing.{crossing_of}
use Rattle.lockstep_replay.specs.Tasks.{Task, Limits, real_start}
use Rattle.taint_check.specs.declared.whys.TaintWhy.{TaintWhy}
use Rattle.taint_check.specs.Cleared.{MaskedRun, AnswersUnless, is_hidden, kind_at, next_masked, cleared_start}
use Rattle.taint_check.specs.Reasons.{unclear_turned}
use Rattle.taint_check.specs.Private.Tapes.{Tape}

-- between two turns nothing is found, the masks are those of the machine's memory, and the machine can leave its region
pub record IsReady (regions : List Region) (machine : State) (tape : Tape) : Type 0 where
  pub base : tape.shades.base ≡ machine.setting.base
  pub leaves : IsTrue (may_leave regions machine)
  pub look : tape.look ≡ None
  pub left : tape.left ≡ None

-- machine and masks stand where a run does that has broken no region, and of which these bits have crossed, no more than
-- the budget
pub record Stands (task : Task) (limits : Limits) (run : MaskedRun) (cross : List Bool) (machine : State)
    (tape : Tape) : Type 0 where
  pub state : machine ≡ run.place.state
  pub unbroken : run.place.broken ≡ None
  pub labels : map_of tape.shades ≡ run.labels
  pub ahead : IsAhead tape.tally.ahead task.masks run.place.past
  pub budget : tape.tally.budget ≡ limits.budget
  pub bits : tape.tally.stream.bits ≡ cross
  pub needed : tape.tally.needed ≡ length cross
  pub within : length cross ≤ limits.budget

-- machine and masks are at the start that a task gives them with this secret, under its regions and a budget
pub record Begins (task : Task) (limits : Limits) (secret : List ℕ) (machine : State) (tape : Tape)
    (regions : List Region) (skip : List ℕ) : Type 0 where
  pub enclosures : task.enclosures ≡ record { regions = regions; skip = skip }
  pub stands : Stands task limits (cleared_start (real_start task secret)) [] machine tape

-- with the bits that cross in the next turn
abbrev pub crossed_after : Task → MaskedRun → List Bool → List Bool
crossed_after task run cross = cross ++ crossing_of task.enclosures task.masks run.place

-- the turn is made by such answers and is unclear for this reason, if it is; where it is not, machine and masks stand
-- where the run has come to
pub record MakesMasked (table : ℕ) (task : Task) (limits : Limits) (run : MaskedRun) (cross : List Bool) (machine : State)
    (tape : Tape) (why : Option TaintWhy) : Type 0 where
  pub answers : List ℕ
  pub are_answers : AnswersUnless (is_hidden task.enclosures (kind_at task run)) table task answers run
  pub why_is : why ≡ unclear_turned task limits (length (crossed_after task run cross)) answers run
  pub state : machine ≡ (next_masked task answers run).place.state
  pub next : why ≡ None → Stands task limits (next_masked task answers run) (crossed_after task run cross) machine tape
