-- Where a replay stands, and what a turn of it answers.
use Rattle.std.specs.Prelude.{◌≡◌, ℕ, zero, suc, ◌+◌, ◌-◌, ◌^◌, min, List, length, Bool, Option}
use Rattle.std.specs.Prelude.{Some, None}
use Rattle.cut_file.specs.declared.points.CutPoint.{CutPoint}
use Rattle.crossing_bits.specs.Askers.{Fed, Fed', Short}
use Rattle.crossing_bits.specs.Strings.{Stream, left_of}
use Rattle.rv32im_machine.specs.declared.stepping.Stepped.{Stepped}
use Rattle.rv32im_machine.specs.declared.stepping.Stepped.TheVariants.{Ran, Exited, Stopped}
use Rattle.rv32im_machine.specs.State.{State}
use Rattle.replay_machine.specs.declared.marks.Mark.{Mark}
use Rattle.replay_machine.specs.declared.turns.ReplayTurn.{ReplayTurn}
use Rattle.replay_machine.specs.declared.turns.ReplayTurn.TheVariants.{Ran as ReplayRan, Wants}
use Rattle.replay_machine.specs.declared.turns.ReplayTurn.TheVariants.{Exited as ReplayExited}
use Rattle.replay_machine.specs.declared.turns.ReplayTurn.TheVariants.{Stopped as ReplayStopped}
use Rattle.replay_machine.specs.declared.turns.ReplayTurn.TheVariants.{RangeOutside}
use Rattle.region_machine.specs.Enclosures.{Enclosures}
use Rattle.replay_machine.specs.ReplayTurns.{Outside}
use Rattle.region_machine.specs.Runs.{has_exited}
use Rattle.replay_machine.specs.Runs.{ReplayPlace, Masks}
use Rattle.replay_machine.specs.Visits.{IsAhead}

-- a replay: its regions, its machine, the range that ended it if one did, the masks that are ahead, how many bits are
-- missing (0: none), and how many it has taken
pub record Standing : Type 0 where
  pub enclosures : Enclosures
  pub state : State
  pub outside : Option Outside
  pub ahead : List CutPoint
  pub missing : ℕ
  pub taken : ℕ

-- the replay stands at this place of a run under the masks, and wants nothing
pub record Stands (standing : Standing) (masks : Masks) (place : ReplayPlace) : Type 0 where
  pub state : place.state ≡ standing.state
  pub outside : place.outside ≡ standing.outside
  pub ahead : IsAhead standing.ahead masks place.past
  pub missing : standing.missing ≡ 0

abbrev pub mode_answer : Stepped → ReplayTurn
mode_answer Ran = ReplayRan
mode_answer (Exited status) = ReplayExited status
mode_answer (Stopped fault) = ReplayStopped fault

-- what a turn answers that wants no bit
abbrev pub end_answer : Option Outside → Stepped → ReplayTurn
end_answer None mode = mode_answer mode
end_answer (Some outside) mode = RangeOutside outside.region outside.range

-- what a turn answers, by how many bits are missing after it, by the range that ended it, and by how the machine stands
abbrev pub turn_answer : ℕ → Option Outside → Stepped → ReplayTurn
turn_answer zero outside mode = end_answer outside mode
turn_answer (suc missing) outside mode = Wants (suc missing)

-- the turn has come to a place and left these bits, or so many bits were missing
pub record Arrived (masks : Masks) (place : ReplayPlace) (rest : List Bool) (after : Standing) (stream : Stream)
    (answer : ReplayTurn) : Type 0 where
  pub answers : answer ≡ end_answer place.outside place.state.control.mode
  pub stands : Stands after masks place
  pub left : left_of stream ≡ rest

pub record Lacked (count : ℕ) (after : Standing) (answer : ReplayTurn) : Type 0 where
  pub answers : answer ≡ Wants count
  pub missing : after.missing ≡ count

abbrev pub Turned : Masks → Fed ReplayPlace → Standing → Stream → ReplayTurn → Type 0
Turned masks (Fed' place rest) after stream answer = Arrived masks place rest after stream answer
Turned masks (Short missing) after stream answer = Lacked missing after answer

-- the number of bits that are taken, up to the greatest number of 64 bits
abbrev pub taken_after : ℕ → Stream → Stream → ℕ
taken_after taken before after = min (taken + (length (left_of before) - length (left_of after))) (2 ^ 64 - 1)

abbrev pub mark_of : Standing → Mark
mark_of standing = record {
  address = standing.state.control.pc;
  bits = standing.taken;
  output = length standing.state.control.output;
  exited = has_exited standing.state.control.mode;
}
