-- The one text of a cut: its lines, each of words with one space between them.
use Rattle.std.specs.Prelude.{◌≡◌, ℕ, ◌==◌, nat_le, if◌then◌else◌, Bool, true, List, [], ◌∷◌, ◌++◌, codes, map}
use Rattle.std.specs.Fmt.{decimal}
use Rattle.flow_base.specs.HexWords.{hex_word}
use Rattle.flow_base.specs.Points.{slot_text, is_region_number}
use Rattle.cut_file.specs.declared.points.CutPoint.{CutPoint}
use Rattle.cut_file.specs.declared.points.Run.{Run}
use Rattle.cut_file.specs.declared.lines.Line.{Line}
use Rattle.cut_file.specs.declared.lines.Line.TheVariants.{Version, Secret, Bits, Skip, Point, End}
use Rattle.cut_file.specs.Cuts.{CutPicture, is_point_of, is_cut_picture, is_version, is_word}

-- parts with a separator between them
abbrev pub separated : ℕ → List (List ℕ) → List ℕ
separated separator [] = []
separated separator (part ∷ []) = part
separated separator (part ∷ (next ∷ parts)) = part ++ (separator ∷ separated separator (next ∷ parts))

-- words with one space between them
abbrev pub spaced : List (List ℕ) → List ℕ
spaced words = separated 32 words

-- a count, * and a mask
abbrev pub run_text : Run → List ℕ
run_text run = decimal run.count ++ (42 ∷ hex_word run.mask)

-- a run after `rest`: in version 1 its mask, as there is one run of one visit
abbrev pub rest_text : ℕ → Run → List ℕ
rest_text version run = if version == 2 then run_text run else hex_word run.mask

-- the words of a point after the first
abbrev pub point_words : ℕ → CutPoint → List (List ℕ)
point_words version cut_point =
    decimal cut_point.point.region ∷ (hex_word cut_point.point.address ∷ (slot_text cut_point.point.slot
    ∷ (map run_text cut_point.runs ++ (codes "rest" ∷ map (rest_text version) cut_point.rest))))

-- ---- the lines

-- the text of a line without its line feed, in a cut of that version
abbrev pub line_text : ℕ → Line → List ℕ
line_text version (Version number) = codes "flowcheck-cut " ++ decimal number
line_text version (Secret length) = codes "secret " ++ decimal length
line_text version (Bits bits) = codes "bits " ++ decimal bits
line_text version (Skip region) = codes "skip " ++ decimal region
line_text version (Point cut_point) = codes "point " ++ spaced (point_words version cut_point)
line_text version End = codes "end"

-- what it says is in its range
abbrev pub is_line : ℕ → Line → Bool
is_line version (Version number) = is_version number
is_line version (Secret length) = nat_le length 65536
is_line version (Bits bits) = is_word bits
is_line version (Skip region) = is_region_number region
is_line version (Point cut_point) = is_point_of version cut_point
is_line version End = true

-- the text of lines, each with its line feed
abbrev pub lines_text : ℕ → List Line → List ℕ
lines_text version [] = []
lines_text version (line ∷ lines) = line_text version line ++ (10 ∷ lines_text version lines)

-- the lines of a cut before the last
abbrev pub open_lines : CutPicture → List Line
open_lines cut =
    Version cut.version ∷ (Secret cut.secret_len ∷ (Bits cut.bits ∷ (map Skip cut.skip ++ map Point cut.points)))

abbrev pub cut_lines : CutPicture → List Line
cut_lines cut = open_lines cut ++ (End ∷ [])

-- the one text of a cut
abbrev pub cut_text : CutPicture → List ℕ
cut_text cut = lines_text cut.version (cut_lines cut)

-- the file is the text of this cut
pub record CutText (file : List ℕ) (cut : CutPicture) : Type 0 where
  pub valid : is_cut_picture cut ≡ true
  pub text : file ≡ cut_text cut
