-- What a turn that is walked leaves of what a walk holds.
use Rattle.std.specs.Prelude.{◌≡◌, ◌≤◌, ◌<◌, ◌+◌, ℕ, List, ◌++◌, length, drop, Bool, false, Option, Some, None, replicate}
use Rattle.cut_file.specs.declared.points.CutPoint.{CutPoint}
use Rattle.flow_base.specs.declared.lists.NoMemory.{NoMemory}
use Rattle.flow_base.specs.declared.points.Point.{Point}
use Rattle.crossing_bits.specs.Askers.{Asker, feed, Fed'}
use Rattle.crossing_bits.specs.Strings.{Stream, left_of}
use Rattle.replay_machine.specs.Runs.{Masks}
use Rattle.replay_machine.specs.Visits.{IsAhead}
use Rattle.rv32im_machine.specs.Language.{Walk, Looked, Passed, Moved, Saved, Restored, Ended}
use Rattle.rv32im_machine.specs.Playing.{Played, Finished, Halted}
use Rattle.rv32im_machine.specs.State.{State}
use Rattle.shadow_masks.specs.Shades.{Shades}
use Rattle.tracked_run.specs.Labels.{map_of}
use Rattle.run_labels.specs.TurnLabels.{TurnLabels}
use Rattle.masked_turns.specs.Clearing.{Cutting}
use Rattle.every_secret.specs.declared.public_inputs.PublicInput.{PublicInput}
use Rattle.every_secret.specs.declared.whys.UnclearWhy.{UnclearWhy}
use Rattle.every_secret.specs.Masked.{MaskedPlace, Reached, Goes, Meets, Halts, masked}
use Rattle.every_secret.specs.Rules.{Rules, AnswerAs}
use Rattle.every_secret.specs.Visits.{Knowledge}

-- this state is one of the ends that a walk may have, whatever goes on from its visits, where registers are put back
unfoldable pub EndsAt : Walk → State → Type 0
EndsAt (Looked seen value walk) state = EndsAt walk state
EndsAt (Passed passing go) state = (other : ℕ) × EndsAt (go other) state
EndsAt (Moved place shape source value walk) state = EndsAt walk state
EndsAt (Saved walk) state = EndsAt walk state
EndsAt (Restored registers walk back) state = EndsAt back state
EndsAt (Ended end) state = end ≡ state

-- the table of the book, and what is known of the public input
pub record Ruling : Type 0 where
  pub table : ℕ
  pub public : PublicInput

abbrev pub ruling_of : ℕ → PublicInput → Ruling
ruling_of table public = record { table = table; public = public }

-- the rules are those of the book's answers
pub record AreRulesOf (ruling : Ruling) (rules : Rules) : Type 0 where
  pub answers : AnswerAs ruling.table rules
  pub public : rules.public ≡ ruling.public

-- how masks are made, the masks, the masks of the cut that are ahead, the string with how much of it is taken, what is
-- known of what has crossed, and what the walk has met, if it has
pub record Tape : Type 0 where
  pub ruling : Ruling
  pub shades : Shades
  pub ahead : List CutPoint
  pub stream : Stream
  pub crossed : ℕ
  pub byte_masks : List ℕ
  pub status_mask : ℕ
  pub unclear : Option UnclearWhy

-- the string has grown by so many zeros, and where it has grown it is taken whole
pub record Lengthens (before after : Stream) : Type 0 where
  pub count : ℕ
  pub bits : after.bits ≡ before.bits ++ replicate count false
  pub taken : before.taken ≤ after.taken
  pub within : before.taken ≤ length before.bits → after.taken ≤ length after.bits
  pub whole : 0 < count → after.taken ≡ length after.bits

-- so many bits are taken of a string, which has grown where it had fewer
pub record Takes (count : ℕ) (before after : Stream) : Type 0 where
  pub longer : Lengthens before after
  pub enough : before.taken + count ≤ length after.bits
  pub taken : after.taken ≡ before.taken + count

-- the walk holds what a place says
pub record HoldsPlace (masks : Masks) (place : MaskedPlace) (state : State) (tape : Tape) : Type 0 where
  pub state_is : place.state ≡ state
  pub labels : map_of tape.shades ≡ place.labels
  pub ahead : IsAhead tape.ahead masks place.past
  pub crossed : tape.crossed ≡ place.crossed
  pub byte_masks : tape.byte_masks ≡ place.byte_masks
  pub status_mask : tape.status_mask ≡ place.status_mask
  pub clear : tape.unclear ≡ None

abbrev pub HoldsReached : Masks → Reached → State → Tape → Type 0
HoldsReached masks (Goes place) state tape = HoldsPlace masks place state tape
HoldsReached masks (Meets why) state tape = tape.unclear ≡ Some why
HoldsReached masks (Halts outside) state tape = ⊥

-- what comes of an asker that is fed a string as it is afterwards
pub record Arrives (masks : Masks) (asker : Asker Reached) (before : Stream) (state : State) (after : Tape) : Type 0 where
  pub reached : Reached
  pub feeds : feed asker (drop before.taken after.stream.bits) ≡ Fed' reached (left_of after.stream)
  pub held : HoldsReached masks reached state after

-- once something is met the string and what is met stay
pub record Rests (why : UnclearWhy) (before after : Tape) : Type 0 where
  pub unclear : after.unclear ≡ Some why
  pub stream : after.stream ≡ before.stream

abbrev pub TellsWalk : Option UnclearWhy → Masks → Asker Reached → Tape → State → Tape → Type 0
TellsWalk None masks asker before state after = Arrives masks asker before.stream state after
TellsWalk (Some why) masks asker before state after = Rests why before after

pub record EndsMasked (cutting : Cutting) (region : ℕ) (known : Knowledge) (before : Tape) (walk : Walk) (state : State)
    (after : Tape) : Type 0 where
  pub ends : EndsAt walk state
  pub ruling : after.ruling ≡ before.ruling
  pub longer : Lengthens before.stream after.stream
  pub tells : (rules : Rules) → AreRulesOf before.ruling rules →
      TellsWalk before.unclear cutting.masks (masked rules cutting region known walk) before state after

-- of a turn that is stopped for lack of memory nothing is said
abbrev pub PlaysMasked : Cutting → ℕ → Knowledge → Tape → Walk → Played NoMemory Tape → Type 0
PlaysMasked cutting region known before walk (Finished state after) =
    EndsMasked cutting region known before walk state after
PlaysMasked cutting region known before walk (Halted stop) = Unit {0}

-- what a walk knows, of what it holds within a turn
abbrev pub knowledge_of : List Point → TurnLabels → Tape → Knowledge
knowledge_of past labels tape = record {
  past = past;
  labels = labels;
  crossed = tape.crossed;
  byte_masks = tape.byte_masks;
  status_mask = tape.status_mask;
}

-- the same of what a walk holds
abbrev pub tape_of : Ruling → Shades → List CutPoint → Stream → ℕ → List ℕ → ℕ → Option UnclearWhy → Tape
tape_of ruling shades ahead stream crossed byte_masks status_mask unclear = record {
  ruling = ruling;
  shades = shades;
  ahead = ahead;
  stream = stream;
  crossed = crossed;
  byte_masks = byte_masks;
  status_mask = status_mask;
  unclear = unclear;
}

-- whatever the masks of the cut are that are ahead
abbrev pub PlaysWalk : ℕ → Bool → TurnLabels → Tape → Walk → Played NoMemory Tape → Type 0
PlaysWalk region skipped labels tape walk out =
    (masks : Masks) (past : List Point) → IsAhead tape.ahead masks past →
    PlaysMasked (record { masks = masks; skipped = skipped }) region (knowledge_of past labels tape) tape walk out
