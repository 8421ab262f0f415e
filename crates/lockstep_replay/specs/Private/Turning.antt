-- One turn of the real run, and where it makes a common turn one of the replay beside it, on the bits that crossed in
-- it.
use Rattle.std.specs.Prelude.{◌≡◌, ℕ, ◌+◌, ◌≤◌, List, [], ◌++◌, length, Bool, true, false, Option, Some, None, IsTrue}
use Rattle.flow_base.specs.declared.points.Point.{Point}
use Rattle.crossing_bits.specs.Askers.{Fed, Fed', feed}
use Rattle.crossing_bits.specs.Strings.{Stream}
use Rattle.rv32im_machine.specs.State.{State}
use Rattle.rv32im_machine.specs.Folds.{real_end}
use Rattle.rv32im_machine.specs.declared.stepping.Stepped.{Stepped}
use Rattle.rv32im_machine.specs.declared.stepping.Stepped.TheVariants.{Exited}
use Rattle.enclosure_regions.specs.declared.break_kinds.Break.{Break}
use Rattle.region_machine.specs.Enclosures.{Enclosures, Kind, is_enclosed, is_enclosed_kind}
use Rattle.region_machine.specs.Guests.{guest_walk, kind_walk}
use Rattle.region_machine.specs.Breaking.{Breaks, kind_break}
use Rattle.region_machine.specs.Runs.{visited}
use Rattle.replay_machine.specs.Runs.{ReplayPlace, Masks, replay_turn}
use Rattle.replay_machine.specs.Standing.{Standing, Stands}
use Rattle.replay_machine.specs.Visits.{IsAhead}
use Rattle.region_machine.specs.Within.{may_leave}
use Rattle.lockstep_replay.specs.Marks.{mark_of}
use Rattle.lockstep_replay.specs.declared.tallies.Tallying.{Tallying}
use Rattle.region_machine.specs.declared.real_turns.RealTurn.{RealTurn}
use Rattle.lockstep_replay.specs.declared.rounds.Round.{Round}
use Rattle.lockstep_replay.specs.declared.verdicts.Why.{Why}
use Rattle.lockstep_replay.specs.Crossing.{crossing_unless}
use Rattle.lockstep_replay.specs.Differences.{byte_difference, status_difference}
use Rattle.lockstep_replay.specs.Sides.{tally_of}
use Rattle.lockstep_replay.specs.Tapes.{Tallies}
use Rattle.lockstep_replay.specs.Verdicts.{why_marks, why_broken, why_mode, why_common, why_replay}
use Rattle.std.specs.Option.{option_or}

-- ---- the real run

-- a turn of this kind has come to this state, and has left the real side so
pub record MakesReal (enclosures : Enclosures) (kind : Kind) (before : State) (tally : Tallying) (reached : State)
    (after : Tallying) (turn : RealTurn) : Type 0 where
  pub state : reached ≡ real_end (kind_walk kind before)
  pub enclosed : turn.enclosed ≡ is_enclosed_kind enclosures kind
  pub broken : turn.broken ≡ kind_break kind before
  pub budget : after.budget ≡ tally.budget
  pub tallies :
      (masks : Masks) (past : List Point) → IsAhead tally.masks masks past →
      Tallies (tally_of tally) (crossing_unless (is_enclosed_kind enclosures kind) masks past (kind_walk kind before))
      (tally_of after)
  pub ahead :
      (masks : Masks) (past : List Point) → IsAhead tally.masks masks past →
      IsAhead after.masks masks (visited (is_enclosed_kind enclosures kind) past (kind_walk kind before))

-- the bits that cross in the turn of a real run, and the replay of these
abbrev pub crossed : Enclosures → Masks → List Point → State → List Bool
crossed enclosures masks past real =
    crossing_unless (is_enclosed enclosures real.control) masks past (guest_walk enclosures.regions real)

abbrev pub fed_turn : Enclosures → Masks → ReplayPlace → List Bool → Fed ReplayPlace
fed_turn enclosures masks place bits = feed (replay_turn enclosures masks place) bits

-- this is the status with which a run in this mode has exited in its turn, if it has, and the turn is not enclosed
abbrev pub Ends : Option ℕ → Bool → Stepped → Type 0
Ends (Some status) enclosed mode = (enclosed ≡ false) × (mode ≡ Exited status)
Ends None enclosed mode = enclosed ≡ false → (status : ℕ) → mode ≡ Exited status → ⊥

-- ---- the replay beside it

-- where the marks differ, or else the outputs, of a real run and a replay that ends its turn in this mode
abbrev pub why_compared : State → ℕ → Standing → Stepped → Option Why
why_compared real needed standing mode =
    why_marks (mark_of real needed) (mark_of standing.state standing.taken)
    (option_or (byte_difference 0 real.control.output standing.state.control.output)
    (status_difference (length real.control.output) real.control.mode mode))

-- where nothing fails, the replay has used the bits up, and stands where it has come to
pub record Joins (standing : Standing) (masks : Masks) (fed : Fed ReplayPlace) : Type 0 where
  pub place : ReplayPlace
  pub uses : fed ≡ Fed' place []
  pub stands : Stands standing masks place

-- after a common turn the replay wants no bit, the bits so far are used up, so many, and both runs have one output
pub record InStep (real : State) (standing : Standing) (stream : Stream) (count : ℕ) : Type 0 where
  pub wanted : standing.missing ≡ 0
  pub used : standing.taken ≡ count
  pub taken : stream.taken ≡ length stream.bits
  pub output : real.control.output ≡ standing.state.control.output

-- ---- both

-- what fails after a turn, `needed` bits having crossed before it
abbrev pub why_turned : ℕ → Bool → Option Break → ℕ → State → List Bool → Fed ReplayPlace → Option Why
why_turned budget enclosed broken needed reached bits fed =
    why_broken broken (why_mode reached.control.mode budget (needed + length bits)
    (why_common enclosed (why_replay reached (needed + length bits) fed)))

-- where nothing fails, the replay stays where it is, or makes its turn
abbrev pub Joined : Bool → Standing → Masks → ReplayPlace → Fed ReplayPlace → Type 0
Joined true standing masks place fed = Stands standing masks place
Joined false standing masks place fed = Joins standing masks fed

-- between two turns the replay wants no bit, and has used up the bits that have crossed, which are kept and fit the
-- budget; the real run has written what the replay has, and may have written more; and it can leave its region
pub record Keeps (real : State) (standing : Standing) (stream : Stream) (count budget : ℕ) : Type 0 where
  pub wanted : standing.missing ≡ 0
  pub used : standing.taken ≡ count
  pub taken : stream.taken ≡ length stream.bits
  pub kept : length stream.bits ≡ count
  pub within : count ≤ budget
  pub output : (more : List ℕ) × (real.control.output ≡ standing.state.control.output ++ more)
  pub leaves : IsTrue (may_leave standing.enclosures.regions real)

-- a round with these regions has brought the real run, its tally and the replay here, and has left this
pub record Rounds (enclosures : Enclosures) (before : State) (tally : Tallying) (standing : Standing) (reached : State)
    (after : Tallying) (next : Standing) (round : Round) : Type 0 where
  pub state : reached ≡ real_end (guest_walk enclosures.regions before)
  pub enclosed : round.enclosed ≡ is_enclosed enclosures before.control
  pub budget : after.budget ≡ tally.budget
  pub regions_stay : next.enclosures ≡ standing.enclosures
  pub ahead :
      (masks : Masks) (past : List Point) → IsAhead tally.masks masks past →
      IsAhead after.masks masks
      (visited (is_enclosed enclosures before.control) past (guest_walk enclosures.regions before))
  pub why :
      (masks : Masks) (past : List Point) (place : ReplayPlace) → IsAhead tally.masks masks past →
      Stands standing masks place →
      round.why ≡ why_turned tally.budget (is_enclosed enclosures before.control)
      (Breaks enclosures.regions before) tally.needed reached (crossed enclosures masks past before)
      (fed_turn enclosures masks place (crossed enclosures masks past before))
  pub joins :
      (masks : Masks) (past : List Point) (place : ReplayPlace) → IsAhead tally.masks masks past →
      Stands standing masks place → round.why ≡ None →
      Joined (is_enclosed enclosures before.control) next masks place
      (fed_turn enclosures masks place (crossed enclosures masks past before))
  pub bits :
      (masks : Masks) (past : List Point) → IsAhead tally.masks masks past → round.why ≡ None →
      after.bits.bits ≡ tally.bits.bits ++ crossed enclosures masks past before
  pub keeps : round.why ≡ None → Keeps reached next after.bits after.needed after.budget
