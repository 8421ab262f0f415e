-- What a turn of which masks are kept, and what crosses, leaves.
use Rattle.std.specs.Prelude.{◌≡◌, ◌<◌, ℕ, List, [], Option, Some, None, refl}
use Rattle.flow_base.specs.declared.lists.NoMemory.{NoMemory}
use Rattle.flow_base.specs.declared.points.Point.{Point}
use Rattle.rv32im_machine.specs.Folds.{real_end}
use Rattle.rv32im_machine.specs.Language.{Walk, Ended}
use Rattle.rv32im_machine.specs.Playing.{Played, Finished, Halted}
use Rattle.rv32im_machine.specs.State.{State}
use Rattle.region_machine.specs.Runs.{passed}
use Rattle.replay_machine.specs.Visits.{IsAhead}
use Rattle.shadow_masks.specs.Shades.{Shades}
use Rattle.run_labels.specs.TurnLabels.{TurnLabels}
use Rattle.tracked_run.specs.Labels.{map_of}
use Rattle.lockstep_replay.specs.Crossing.{crossing}
use Rattle.lockstep_replay.specs.Ends.{tallies_none}
use Rattle.lockstep_replay.specs.declared.tallies.Tallying.{Tallying}
use Rattle.lockstep_replay.specs.Sides.{tally_of}
use Rattle.lockstep_replay.specs.Tapes.{Tally, Tallies}
use Rattle.masked_turns.specs.declared.uses.LeftBits.{LeftBits}
use Rattle.masked_turns.specs.declared.uses.SecretLook.{SecretLook}
use Rattle.masked_turns.specs.Answers.{AreWalkAnswers, EachCleared}
use Rattle.masked_turns.specs.Clearing.{Cutting, cleared_in}
use Rattle.masked_turns.specs.Deciding.{first_left, left_in}
use Rattle.masked_turns.specs.Looking.{first_look, looked_in}

-- the table of the book, the masks, what has crossed, and the first look and the first bits left at a decision
pub record Tape : Type 0 where
  pub table : ℕ
  pub shades : Shades
  pub tally : Tally
  pub look : Option SecretLook
  pub left : Option LeftBits

-- the same of what a check holds
abbrev pub tape_of : ℕ → Shades → Tallying → Option SecretLook → Option LeftBits → Tape
tape_of table shades tally look left =
    record { table = table; shades = shades; tally = tally_of tally; look = look; left = left }

-- a walk of which masks are kept, in the entry of the region with this number, ends in this state and leaves this, where
-- it began with these masks and the former things
pub record EndsCleared (region : ℕ) (cutting : Cutting) (past : List Point) (labels : TurnLabels) (before : Tape)
    (walk : Walk) (state : State) (after : Tape) : Type 0 where
  pub answers : List ℕ
  pub are_answers : AreWalkAnswers before.table cutting past labels answers walk
  pub table : after.table ≡ before.table
  pub ends : state ≡ real_end walk
  pub base : after.shades.base ≡ before.shades.base
  pub labelled : map_of after.shades ≡ cleared_in cutting past labels answers walk
  pub look : after.look ≡ first_look before.look (looked_in region cutting past labels answers walk)
  pub left : after.left ≡ first_left before.left (left_in cutting past labels answers walk)
  pub ahead : IsAhead after.tally.ahead cutting.masks (passed past walk)
  pub tallies : Tallies before.tally (crossing cutting.masks past walk) after.tally

-- of a turn that is stopped for lack of memory nothing is said
abbrev pub PlaysCleared : ℕ → Cutting → List Point → TurnLabels → Tape → Walk → Played NoMemory Tape → Type 0
PlaysCleared region cutting past labels before walk (Finished state after) =
    EndsCleared region cutting past labels before walk state after
PlaysCleared region cutting past labels before walk (Halted stop) = Unit {0}

no_look : (look : Option SecretLook) → look ≡ first_look look None
no_look None = refl
no_look (Some look) = refl

no_left : (left : Option LeftBits) → left ≡ first_left left None
no_left None = refl
no_left (Some left) = refl

-- at the end of a turn nothing more is left
pub clears_Ended : (region : ℕ) (cutting : Cutting) (past : List Point) (labels : TurnLabels) (before : Tape)
    (state : State) → map_of before.shades ≡ labels.map → before.tally.needed < 4294967296 →
    IsAhead before.tally.ahead cutting.masks past →
    PlaysCleared region cutting past labels before (Ended state) (Finished state before)
unfolding EachCleared real_end cleared_in looked_in left_in passed crossing
clears_Ended region cutting past labels before state e small ahead = record {
  answers = [];
  are_answers = record { sound = tt; by_table = tt };
  table = refl;
  ends = refl;
  base = refl;
  labelled = e;
  look = no_look before.look;
  left = no_left before.left;
  ahead = ahead;
  tallies = tallies_none before.tally small;
}

-- such a turn ends as the real one
pub clears_real : (region : ℕ) (cutting : Cutting) (past : List Point) (labels : TurnLabels) (before : Tape)
    (walk : Walk) (state : State) (after : Tape) →
    PlaysCleared region cutting past labels before walk (Finished state after) → state ≡ real_end walk
clears_real region cutting past labels before walk state after h = h.ends
