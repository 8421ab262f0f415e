-- What the rows of the table say of texts of cuts.
use Rattle.std.specs.Prelude.{◌≡◌, ℕ, ◌==◌, List, if◌then◌else◌}
use Rattle.cut_file.specs.Cuts.{CutPicture}
use Rattle.cut_file.specs.Folds.{IsFold, migrated}
use Rattle.cut_file.specs.Texts.{CutText}

-- the byte that a byte of a row stands for: of a slash a line feed, of a caret a carriage return
abbrev pub spelled_byte : ℕ → ℕ
spelled_byte byte = if byte == 47 then 10 else if byte == 94 then 13 else byte

-- the file is the text of a cut, and the other text is that of the same cut
pub record IsWritten (file text : List ℕ) : Type 0 where
  pub cut : CutPicture
  pub read : CutText file cut
  pub again : CutText text cut

-- the text is that of the fold of a cut
pub record IsFoldText (cut : CutPicture) (text : List ℕ) : Type 0 where
  pub folded : CutPicture
  pub folds : IsFold cut folded
  pub is : CutText text folded

-- the text is that of a cut in version 2
pub record IsMigratedText (cut : CutPicture) (text : List ℕ) : Type 0 where
  pub other : CutPicture
  pub same : other ≡ migrated cut
  pub is : CutText text other
