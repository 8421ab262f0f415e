-- When a secret is accepted: a statement of two separate whole runs.
use Rattle.std.specs.Prelude.{◌≡◌, ℕ, suc, ◌<◌, ◌≤◌, List, length, Bool, false, None}
use Rattle.flow_base.specs.declared.outputs.Output.{Output}
use Rattle.crossing_bits.specs.Askers.{Uses}
use Rattle.rv32im_machine.specs.declared.stepping.Stepped.{Stepped}
use Rattle.rv32im_machine.specs.declared.stepping.Stepped.TheVariants.{Ran, Exited, Stopped}
use Rattle.rv32im_machine.specs.State.{State}
use Rattle.replay_machine.specs.Runs.{ReplayPlace}
use Rattle.lockstep_replay.specs.Tasks.{Task, Limits, real_of, enclosed_of, common_of, Cross, replay_of}

-- a run has exited with an output, which is the bytes that were written and the status
pub record HasExited (state : State) (output : Output) : Type 0 where
  pub bytes : state.control.output ≡ output.bytes
  pub status : state.control.mode ≡ Exited output.status

-- both run on, or both have exited
abbrev pub EndAlike : Stepped → Stepped → Type 0
EndAlike Ran Ran = Unit {0}
EndAlike Ran (Exited status) = ⊥
EndAlike Ran (Stopped fault) = ⊥
EndAlike (Exited status) Ran = ⊥
EndAlike (Exited status) (Exited other) = Unit {0}
EndAlike (Exited status) (Stopped fault) = ⊥
EndAlike (Stopped fault) other = ⊥

-- the marks of two runs are equal: the address, the number of output bytes, and whether it has exited
pub record SameMark (real copy : State) : Type 0 where
  pub address : real.control.pc ≡ copy.control.pc
  pub written : length real.control.output ≡ length copy.control.output
  pub ended : EndAlike real.control.mode copy.control.mode

-- Done: the replay of a string exits with an output, and uses the string up exactly
pub record Done (task : Task) (turns : ℕ) (bits : List Bool) (output : Output) : Type 0 where
  pub place : ReplayPlace
  pub uses : Uses (replay_of task turns) bits place
  pub inside : place.outside ≡ None
  pub exited : HasExited place.state output

-- after so many turns of the real run the replay, with its crossing bits so far, has made the common turns of these; it
-- has used the bits up, is not stopped, and has the real mark
pub record Follows (task : Task) (secret : List ℕ) (turns : ℕ) : Type 0 where
  pub place : ReplayPlace
  pub uses : Uses (replay_of task (common_of task secret turns)) (Cross task secret turns) place
  pub inside : place.outside ≡ None
  pub mark : SameMark (real_of task secret turns).state place.state

-- Accept: a secret is accepted within a budget of bits and a limit of turns, with this output
pub record Accept (task : Task) (limits : Limits) (secret : List ℕ) (output : Output) : Type 0 where
  -- the secret has the length that the cut names
  pub has_length : length secret ≡ task.secret_length
  -- the real run breaks no region
  pub unbroken : (real_of task secret limits.turns).broken ≡ None
  -- it exits within the turns, with this output
  pub exits : HasExited (real_of task secret limits.turns).state output
  -- at most the budget's number of bits crosses
  pub within : length (Cross task secret limits.turns) ≤ limits.budget
  -- after each common turn the replay of the bits so far has used them up, is not stopped, and has the real mark
  pub follows :
      (turn : ℕ) → turn < limits.turns → enclosed_of task secret turn ≡ false → Follows task secret (suc turn)
  -- so it is after the last turn
  pub last : Follows task secret limits.turns
  -- and there the replay has exited with this output
  pub replay_exits : HasExited last.place.state output

-- a string that is the crossing bits of some accepted secret
abbrev pub IsCross : Task → Limits → List Bool → Type 0
IsCross task limits bits =
    (secret : List ℕ) × ((output : Output) × Accept task limits secret output
    × (Cross task secret limits.turns ≡ bits))

-- an output of some accepted secret
abbrev pub IsOutput : Task → Limits → Output → Type 0
IsOutput task limits output = (secret : List ℕ) × Accept task limits secret output
