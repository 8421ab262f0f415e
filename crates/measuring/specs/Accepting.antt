-- The measured run is accepted with the cut that was measured of it, and with the fold of that cut; the cut is
-- small, and the texts of both are short.
use Rattle.std.specs.Prelude.{◌≡◌, ℕ, ◌≤◌, true, length, List}
use Rattle.acceptance_law.specs.RunLaws.{HasFewRuns}
use Rattle.cut_file.specs.Cuts.{CutPicture, is_cut_picture}
use Rattle.cut_file.specs.Folds.{IsFold}
use Rattle.cut_file.specs.Pictures.{cut_picture}
use Rattle.cut_file.specs.Texts.{cut_text}
use Rattle.elf32_loader.specs.Pictures.{Picture}
use Rattle.enclosure_regions.specs.declared.region_parts.Region.{Region}
use Rattle.lockstep_replay.specs.Acceptance.{Accept}
use Rattle.lockstep_replay.specs.Tasks.{task_of}
use Rattle.measuring.specs.declared.measured.Measured.{Measured}

-- the secret is accepted with its measured cut within the measured number of bits and this limit of turns, with the
-- measured output
abbrev pub IsAcceptedByItsCut : Picture → List ℕ → List Region → List ℕ → ℕ → Measured → Type 0
IsAcceptedByItsCut program public_input regions secret turns measured =
    Accept (task_of program public_input regions (cut_picture measured.cut))
    (record { budget = measured.value; turns = turns }) secret measured.output

-- and so it is with the fold of that cut
abbrev pub IsAcceptedByFolds : Picture → List ℕ → List Region → List ℕ → ℕ → Measured → Type 0
IsAcceptedByFolds program public_input regions secret turns measured =
    (folded : CutPicture) → IsFold (cut_picture measured.cut) folded →
    Accept (task_of program public_input regions folded)
    (record { budget = measured.value; turns = turns }) secret measured.output

-- the measured cut has at most one point for each measured bit, and two runs of masks for each bit beside one for
-- each point
abbrev pub HasSmallCut : Measured → Type 0
HasSmallCut measured = HasFewRuns measured.value (cut_picture measured.cut)

-- the text of a cut has at most 64 MiB, and so has that of each valid cut that is a fold of it
pub record HasShortText (cut : CutPicture) : Type 0 where
  pub text : length (cut_text cut) ≤ 67108864
  pub fold : (folded : CutPicture) → is_cut_picture folded ≡ true → IsFold cut folded
      → length (cut_text folded) ≤ 67108864
