-- The text of a cut that is measured.
use Rattle.std.specs.Prelude.{◌≡◌, ◌==◌, ℕ, List, MatchBool}
use Rattle.cut_file.specs.Cuts.{CutPicture}
use Rattle.cut_file.specs.Folds.{IsFold}
use Rattle.cut_file.specs.Texts.{CutText as IsTextOfCut}

-- in version 2 the fold of a cut, and else the cut
abbrev pub IsInVersion : ℕ → CutPicture → CutPicture → Type 0
IsInVersion version cut written = MatchBool (version == 2) (IsFold cut written) (written ≡ cut)

-- the text of a cut in a version
pub record IsCutText (version : ℕ) (measured : CutPicture) (text : List ℕ) : Type 0 where
  pub cut : CutPicture
  pub in_version : IsInVersion version measured cut
  pub is_text : IsTextOfCut text cut
