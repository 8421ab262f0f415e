-- What a verdict says of the two whole runs: it accepts what is accepted and nothing else, and each reason holds.
use Rattle.std.specs.Prelude.{◌≡◌, ◌≢◌, ℕ, suc, ◌-◌, ◌≤◌, ◌<◌, List, [], length, Bool, false, Some, None}
use Rattle.flow_base.specs.declared.outputs.Output.{Output}
use Rattle.crossing_bits.specs.Askers.{Fed, Fed', Short}
use Rattle.rv32im_machine.specs.declared.stepping.Stepped.TheVariants.{Ran, Stopped}
use Rattle.rv32im_machine.specs.State.{State}
use Rattle.replay_machine.specs.declared.marks.Mark.{Mark}
use Rattle.rv32im_machine.specs.declared.stepping.Fault.{Fault}
use Rattle.region_machine.specs.Runs.{Place}
use Rattle.replay_machine.specs.Runs.{ReplayPlace}
use Rattle.lockstep_replay.specs.declared.differences.Difference.{Difference}
use Rattle.lockstep_replay.specs.declared.verdicts.ReplayStop.{ReplayStop}
use Rattle.lockstep_replay.specs.declared.verdicts.ReplayStop.TheVariants.{Guest, RangeOutside, Short as TooShort}
use Rattle.lockstep_replay.specs.declared.verdicts.Why.{Why}
use Rattle.lockstep_replay.specs.declared.verdicts.Why.TheVariants.{RealFault, RegionBreak, BudgetOverrun, ReplayFault}
use Rattle.lockstep_replay.specs.declared.verdicts.Why.TheVariants.{Parted}
use Rattle.lockstep_replay.specs.declared.verdicts.Why.TheVariants.{OutputDiffers, TurnLimit, SecretLength}
use Rattle.lockstep_replay.specs.Marks.{mark_of}
use Rattle.lockstep_replay.specs.Differences.{difference_of}
use Rattle.lockstep_replay.specs.Tasks.{Task, Limits, real_of, enclosed_of, Cross}
use Rattle.lockstep_replay.specs.Acceptance.{Follows, Accept}
use Rattle.lockstep_replay.specs.Verdicts.{Accepts, Rejects, First, counted_bits, fed_of}

-- a verdict that accepts names an accepted secret's crossing bits and output
abbrev pub AcceptedLaw : Type 0
AcceptedLaw =
    (task : Task) (limits : Limits) (secret : List ℕ) (bits : List Bool) (output : Output) →
    First task limits secret ≡ Accepts bits output →
    Accept task limits secret output × (bits ≡ Cross task secret limits.turns)

-- the verdict on an accepted secret is its crossing bits and its output
abbrev pub AcceptsLaw : Type 0
AcceptsLaw =
    (task : Task) (limits : Limits) (secret : List ℕ) (output : Output) → Accept task limits secret output →
    First task limits secret ≡ Accepts (Cross task secret limits.turns) output

-- a rejected secret is not accepted, whatever the output
abbrev pub RejectedLaw : Type 0
RejectedLaw =
    (task : Task) (limits : Limits) (secret : List ℕ) (why : Why) → First task limits secret ≡ Rejects why →
    (output : Output) → Accept task limits secret output → ⊥

-- ---- the reasons

-- the replay stops so
abbrev pub StopsBy : Fed ReplayPlace → ReplayStop → Type 0
StopsBy fed (Guest fault) =
    (place : ReplayPlace) × ((rest : List Bool) × ((fed ≡ Fed' place rest)
    × (place.state.control.mode ≡ Stopped fault)))
StopsBy fed (RangeOutside region range) =
    (place : ReplayPlace) × ((rest : List Bool) × ((fed ≡ Fed' place rest)
    × (place.outside ≡ Some (record { region = region; range = range }))))
StopsBy fed (TooShort missing) = fed ≡ Short missing

-- the marks of the two runs are these, and differ
abbrev pub PartsBy : State → ℕ → Fed ReplayPlace → Mark → Mark → Type 0
PartsBy real crossed fed mark other =
    (place : ReplayPlace) × ((rest : List Bool) × ((fed ≡ Fed' place rest) × (mark ≡ mark_of real crossed)
    × (other ≡ mark_of place.state (crossed - length rest)) × (mark ≢ other)))

-- the replay uses the bits up, and the first difference of the outputs is this one
abbrev pub DiffersBy : State → Fed ReplayPlace → Difference → Type 0
DiffersBy real fed difference =
    (place : ReplayPlace) × ((fed ≡ Fed' place []) × (difference_of real place.state ≡ Some difference))

-- what a reason says of its turn: whether it is a skipped region's entry or inside it, where the real run has come to,
-- the crossing bits so far, and the replay of these
abbrev pub ReasonHolds : ℕ → Bool → Place → List Bool → Fed ReplayPlace → Why → Type 0
ReasonHolds budget enclosed real cross fed (RealFault fault) =
    (real.broken ≡ None) × (real.state.control.mode ≡ Stopped fault)
ReasonHolds budget enclosed real cross fed (RegionBreak broken) = real.broken ≡ Some broken
ReasonHolds budget enclosed real cross fed (BudgetOverrun limit needed) =
    (limit ≡ budget) × ((budget < length cross) × (needed ≡ counted_bits (length cross)))
ReasonHolds budget enclosed real cross fed (ReplayFault stop) = (enclosed ≡ false) × StopsBy fed stop
ReasonHolds budget enclosed real cross fed (Parted mark other) =
    (enclosed ≡ false) × PartsBy real.state (length cross) fed mark other
ReasonHolds budget enclosed real cross fed (OutputDiffers index byte other) =
    (enclosed ≡ false) × DiffersBy real.state fed (record { index = index; real = byte; replay = other })
ReasonHolds budget enclosed real cross fed (TurnLimit limit) = ⊥
ReasonHolds budget enclosed real cross fed (SecretLength wanted got) = ⊥

-- after so many turns of the real run the replay follows, with the same output
pub record Beside (task : Task) (secret : List ℕ) (turns : ℕ) : Type 0 where
  pub follows : Follows task secret turns
  pub output : (real_of task secret turns).state.control.output ≡ follows.place.state.control.output

-- no condition fails in the turn after so many turns
pub record Agrees (task : Task) (limits : Limits) (secret : List ℕ) (turns : ℕ) : Type 0 where
  pub unbroken : (real_of task secret (suc turns)).broken ≡ None
  pub unstopped : (fault : Fault) → (real_of task secret (suc turns)).state.control.mode ≢ Stopped fault
  pub within : length (Cross task secret (suc turns)) ≤ limits.budget
  pub beside : enclosed_of task secret turns ≡ false → Beside task secret (suc turns)

-- a reason holds of the turn after so many turns, within the limit, and no condition fails in an earlier turn
pub record Arises (task : Task) (limits : Limits) (secret : List ℕ) (why : Why) : Type 0 where
  pub turn : ℕ
  pub within : turn < limits.turns
  pub earlier : (i : ℕ) → i < turn → Agrees task limits secret i
  pub holds :
      ReasonHolds limits.budget (enclosed_of task secret turn) (real_of task secret (suc turn))
      (Cross task secret (suc turn)) (fed_of task secret (suc turn)) why

-- the limit of turns is this, no condition fails in any turn, and the real run goes on
pub record RunsOut (task : Task) (limits : Limits) (secret : List ℕ) (limit : ℕ) : Type 0 where
  pub limit_is : limit ≡ limits.turns
  pub earlier : (i : ℕ) → i < limits.turns → Agrees task limits secret i
  pub runs : (real_of task secret limits.turns).state.control.mode ≡ Ran

-- what the reason of a rejection says
abbrev pub Cause : Task → Limits → List ℕ → Why → Type 0
Cause task limits secret (RealFault fault) = Arises task limits secret (RealFault fault)
Cause task limits secret (RegionBreak broken) = Arises task limits secret (RegionBreak broken)
Cause task limits secret (BudgetOverrun limit needed) = Arises task limits secret (BudgetOverrun limit needed)
Cause task limits secret (ReplayFault stop) = Arises task limits secret (ReplayFault stop)
Cause task limits secret (Parted mark other) = Arises task limits secret (Parted mark other)
Cause task limits secret (OutputDiffers index byte other) = Arises task limits secret (OutputDiffers index byte other)
Cause task limits secret (TurnLimit limit) = RunsOut task limits secret limit
Cause task limits secret (SecretLength wanted got) =
    (wanted ≡ task.secret_length) × ((got ≡ length secret) × (wanted ≢ got))

-- the reason of a rejection holds, and in no earlier turn does a condition fail
abbrev pub CausesLaw : Type 0
CausesLaw =
    (task : Task) (limits : Limits) (secret : List ℕ) (why : Why) → First task limits secret ≡ Rejects why →
    Cause task limits secret why
