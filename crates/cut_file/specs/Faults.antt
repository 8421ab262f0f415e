-- What may be wrong with the text of a cut, told of the first line that fails.
use Rattle.std.specs.Prelude.{◌≡◌, ℕ, suc, ◌≤◌, ◌||◌, ◌==◌, Bool, true, false, List, [], ◌∷◌, ◌++◌, length, Some}
use Rattle.cut_file.specs.declared.faults.CutFault.{CutFault}
use Rattle.cut_file.specs.declared.faults.CutFault.TheVariants as faults
use Rattle.cut_file.specs.declared.lines.Line.{Line}
use Rattle.cut_file.specs.Cuts.{CutPicture, is_cut_picture}
use Rattle.cut_file.specs.Fronts.{Front, followed, front_text, is_front, is_whole, lines_before, version_of}
use Rattle.cut_file.specs.Fronts.Front.{Nothing}
use Rattle.cut_file.specs.Texts.{cut_text, is_line, line_text}

abbrev pub has_feed : List ℕ → Bool
has_feed [] = false
has_feed (byte ∷ bytes) = (byte == 10) || has_feed bytes

-- these lines are in order, and the last line is not among them
pub record IsOpen (front : Front) : Type 0 where
  pub ordered : is_front front ≡ true
  pub goes_on : is_whole front ≡ false

-- the file has these lines in order, and then a whole line with this text
pub record HasLine (file : List ℕ) (front : Front) (text : List ℕ) : Type 0 where
  pub before : IsOpen front
  pub whole : has_feed text ≡ false
  pub more : List ℕ
  pub is : file ≡ front_text front ++ (text ++ (10 ∷ more))

-- the text is that of a line whose form may stand after these lines; with it they are the next
pub record Stands (front : Front) (text : List ℕ) (next : Front) : Type 0 where
  pub line : Line
  pub known : is_line (version_of front) line ≡ true
  pub is : text ≡ line_text (version_of front) line
  pub follows : followed front line ≡ Some next

abbrev pub MayStand : Front → List ℕ → Type 0
MayStand front text = (next : Front) × Stands front text next

-- the line is of its form, and does not exceed the line of its kind before it
abbrev pub IsOutOfOrder : Front → List ℕ → Type 0
IsOutOfOrder front text = (next : Front) × Stands front text next × (is_front next ≡ false)

-- the first fault of a file. Lines are counted from 1
abbrev pub FirstCutFault : List ℕ → CutFault → Type 0
FirstCutFault file faults.Version = (text : List ℕ) × HasLine file Nothing text × (¬ MayStand Nothing text)
FirstCutFault file (faults.Line number) =
    (front : Front) × (text : List ℕ) × HasLine file front text × (¬ MayStand front text)
    × (number ≡ suc (length (lines_before front))) × (2 ≤ number)
FirstCutFault file (faults.Order number) =
    (front : Front) × (text : List ℕ) × HasLine file front text × IsOutOfOrder front text
    × (number ≡ suc (length (lines_before front)))
FirstCutFault file faults.Truncated =
    (front : Front) × (text : List ℕ) × IsOpen front × (has_feed text ≡ false) × (file ≡ front_text front ++ text)
FirstCutFault file (faults.Trailing offset) =
    (cut : CutPicture) × (byte : ℕ) × (more : List ℕ) × (is_cut_picture cut ≡ true)
    × (file ≡ cut_text cut ++ (byte ∷ more)) × (offset ≡ length (cut_text cut))
FirstCutFault file faults.Memory = Unit {0}
