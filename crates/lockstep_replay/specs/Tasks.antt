-- What secrets are checked against, and the two runs that a check compares.
use Rattle.std.specs.Prelude.{ℕ, List, Bool}
use Rattle.elf32_loader.specs.Pictures.{Picture}
use Rattle.crossing_bits.specs.Askers.{Asker}
use Rattle.cut_file.specs.Cuts.{CutPicture}
use Rattle.cut_file.specs.Masks.{MaskAt}
use Rattle.enclosure_regions.specs.declared.region_parts.Region.{Region}
use Rattle.region_machine.specs.Enclosures.{Enclosures, is_enclosed}
use Rattle.region_machine.specs.Runs.{Place, Real, common_turns}
use Rattle.replay_machine.specs.Runs.{ReplayPlace, Masks, Replay}
use Rattle.region_machine.specs.Starts.{guest}
use Rattle.replay_machine.specs.Starts.{replay_guest}
use Rattle.lockstep_replay.specs.Crossing.{cross_after}

-- a program with its public input, its regions with those that the replay skips, the masks at the visits of points, and
-- the length of the secrets
pub record Task : Type 0 where
  pub program : Picture
  pub public_input : List ℕ
  pub enclosures : Enclosures
  pub masks : Masks
  pub secret_length : ℕ

-- the most bits that may cross, and the most turns of the real run
pub record Limits : Type 0 where
  pub budget : ℕ
  pub turns : ℕ

-- the task of a program with its public input, its regions and a cut
abbrev pub task_of : Picture → List ℕ → List Region → CutPicture → Task
task_of program public_input regions cut = record {
  program = program;
  public_input = public_input;
  enclosures = record { regions = regions; skip = cut.skip };
  masks = MaskAt cut.points;
  secret_length = cut.secret_len;
}

-- ---- the real run on a secret

abbrev pub real_start : Task → List ℕ → Place
real_start task secret = guest task.program task.public_input secret

-- after so many turns
abbrev pub real_of : Task → List ℕ → ℕ → Place
real_of task secret turns = Real task.enclosures turns (real_start task secret)

-- the turn after so many turns is a skipped region's entry or inside it
abbrev pub enclosed_of : Task → List ℕ → ℕ → Bool
enclosed_of task secret turns = is_enclosed task.enclosures (real_of task secret turns).state.control

-- how many common turns so many turns are
abbrev pub common_of : Task → List ℕ → ℕ → ℕ
common_of task secret turns = common_turns task.enclosures turns (real_start task secret)

-- Cross: the crossing bits of so many turns
abbrev pub Cross : Task → List ℕ → ℕ → List Bool
Cross task secret turns = cross_after task.enclosures task.masks turns (real_start task secret)

-- ---- the replay, which no secret is given to

abbrev pub replay_start : Task → ReplayPlace
replay_start task = replay_guest task.program task.public_input task.secret_length

-- so many turns of it
abbrev pub replay_of : Task → ℕ → Asker ReplayPlace
replay_of task turns = Replay task.enclosures task.masks turns (replay_start task)
