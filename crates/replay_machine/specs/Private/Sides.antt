-- What the replay's side of a turn holds, and what a turn leaves of it.
use Rattle.std.specs.Prelude.{◌≡◌, ℕ, zero, suc, ◌≤◌, List, Bool, None}
use Rattle.cut_file.specs.declared.points.CutPoint.{CutPoint}
use Rattle.crossing_bits.specs.Askers.{Asker, Fed, Fed', Short, feed}
use Rattle.crossing_bits.specs.Strings.{Stream, left_of}
use Rattle.rv32im_machine.specs.State.{State}
use Rattle.rv32im_machine.specs.Playing.{Played, Finished, Halted}
use Rattle.replay_machine.specs.Runs.{ReplayPlace, Masks}
use Rattle.replay_machine.specs.Visits.{IsAhead}

-- the masks that are ahead, the string, and how many bits a mask wanted more than were left, 0 where none did
pub record Side : Type 0 where
  pub ahead : List CutPoint
  pub stream : Stream
  pub missing : ℕ

-- what comes of feeding the bits that are left, where so many were missing before
abbrev pub fed_of : {A : Type 0} → ℕ → Asker A → List Bool → Fed A
fed_of zero asker bits = feed asker bits
fed_of (suc missing) asker bits = Short (suc missing)

-- the turn has come to this place and has left these bits
pub record Arrives (masks : Masks) (before : Stream) (place : ReplayPlace) (rest : List Bool) (reached : State)
    (after : Side) : Type 0 where
  pub state : place.state ≡ reached
  pub outside : place.outside ≡ None
  pub ahead : IsAhead after.ahead masks place.past
  pub left : left_of after.stream ≡ rest
  pub missing : after.missing ≡ 0
  pub bits : after.stream.bits ≡ before.bits
  pub room : after.stream.room ≡ before.room

-- so many bits were missing
pub record Lacks (before : Stream) (count : ℕ) (after : Side) : Type 0 where
  pub some : 1 ≤ count
  pub missing : after.missing ≡ count
  pub bits : after.stream.bits ≡ before.bits
  pub room : after.stream.room ≡ before.room

abbrev pub Comes : Masks → Stream → Fed ReplayPlace → State → Side → Type 0
Comes masks before (Fed' place rest) reached after = Arrives masks before place rest reached after
Comes masks before (Short missing) reached after = Lacks before missing after

-- the turn is played to its end, also where bits are missing
abbrev pub Replays : {Stop : Type 0} → Masks → Stream → Fed ReplayPlace → Played Stop Side → Type 0
Replays masks before fed (Finished reached after) = Comes masks before fed reached after
Replays masks before fed (Halted stop) = ⊥
