-- How the text of a cut is written, piece by piece.
use Rattle.std.specs.Prelude.{ℕ, List, [], ◌∷◌, ◌++◌, codes, map}
use Rattle.cut_file.specs.declared.points.CutPoint.{CutPoint}
use Rattle.cut_file.specs.declared.lines.Line.{Line}
use Rattle.cut_file.specs.declared.lines.Line.TheVariants.{Skip, Point, End}
use Rattle.flow_base.specs.Points.{point_text}
use Rattle.cut_file.specs.Cuts.{CutPicture}
use Rattle.cut_file.specs.Texts.{rest_text, run_text}

-- words, each after a space
abbrev pub led : List (List ℕ) → List ℕ
led [] = []
led (word ∷ words) = 32 ∷ (word ++ led words)

-- the line of a point with its line feed
abbrev pub point_pieces : ℕ → CutPoint → List ℕ
point_pieces version cut_point =
    (codes "point " ++ point_text cut_point.point) ++ (led (map run_text cut_point.runs) ++ (codes " rest"
    ++ (led (map (rest_text version) cut_point.rest) ++ codes "\n")))

-- the lines of a cut after the first three
abbrev pub later_lines : CutPicture → List Line
later_lines cut = map Skip cut.skip ++ (map Point cut.points ++ (End ∷ []))
