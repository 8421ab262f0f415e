-- How long the text of a cut is at most, and that of its fold.
use Rattle.std.specs.Prelude.{◌≡◌, ℕ, ◌+◌, ◌*◌, ◌≤◌, length, sum_by, true, List}
use Rattle.cut_file.specs.declared.points.CutPoint.{CutPoint}
use Rattle.cut_file.specs.Cuts.{CutPicture, is_cut_picture}
use Rattle.cut_file.specs.Folds.{IsFold}
use Rattle.cut_file.specs.Texts.{cut_text}

-- how many runs points list, their patterns not counted
abbrev pub listed_runs : List CutPoint → ℕ
listed_runs points = sum_by (λ point. length point.runs) points

-- 64 bytes, 11 for each region to be skipped, 55 for each point, 22 for each listed run
abbrev pub byte_bound : CutPicture → ℕ
byte_bound cut = 64 + 11 * length cut.skip + 55 * length cut.points + 22 * listed_runs cut.points

-- the text of a cut of version 1 is within its bound
abbrev pub TextsAreShort : Type 0
TextsAreShort =
    (cut : CutPicture) → is_cut_picture cut ≡ true → cut.version ≡ 1 → length (cut_text cut) ≤ byte_bound cut

-- and so is the text of its fold within the bound of the cut that was folded
abbrev pub FoldsAreShort : Type 0
FoldsAreShort =
    (cut folded : CutPicture) → is_cut_picture cut ≡ true → cut.version ≡ 1 → is_cut_picture folded ≡ true → IsFold cut folded
    → length (cut_text folded) ≤ byte_bound cut
