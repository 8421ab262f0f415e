-- The one text of a certificate, and which line of another text is the first that fails.
use Rattle.std.specs.Prelude.{◌≡◌, ℕ, ◌-◌, ◌≤◌, ◌<◌, ◌&&◌, Bool, true, List, [], ◌∷◌, ◌++◌, length, map, take}
use Rattle.std.specs.List.{list_all}
use Rattle.flow_graph.specs.declared.ends.Arc.{Arc}
use Rattle.flow_graph.specs.declared.nodes.Node.{Node}
use Rattle.flow_graph.specs.Graphs.{is_graph}
use Rattle.flow_certificate.specs.declared.faults.FormFault.{FormFault}
use Rattle.flow_certificate.specs.declared.faults.FormFault.TheVariants as faults
use Rattle.flow_certificate.specs.declared.lines.Line.{Line}
use Rattle.flow_certificate.specs.declared.lines.Line.TheVariants.{Version, Value, Point, Relay, Link, End}
use Rattle.flow_certificate.specs.declared.lines.LinkLine.{LinkLine}
use Rattle.flow_certificate.specs.declared.lines.PointLine.{PointLine}
use Rattle.flow_certificate.specs.declared.lines.RelayLine.{RelayLine}
use Rattle.flow_certificate.specs.Lines.{is_line, line_text}

-- what a certificate says, line by line
pub record Picture : Type 0 where
  pub value : ℕ
  pub points : List PointLine
  pub relays : List RelayLine
  pub links : List LinkLine

abbrev pub node_of : PointLine → Node
node_of line = record { point = line.point; capacity = line.capacity }

abbrev pub region_of : RelayLine → ℕ
region_of line = line.region

abbrev pub arc_of : LinkLine → Arc
arc_of line = line.link

-- the lines before the last
abbrev pub open_lines : Picture → List Line
open_lines picture =
    Version ∷ (Value picture.value ∷ (map Point picture.points ++ (map Relay picture.relays ++ map Link
    picture.links)))

abbrev pub lines_of : Picture → List Line
lines_of picture = open_lines picture ++ (End ∷ [])

-- the text of lines, each with its line feed
unfoldable pub lines_text : List Line → List ℕ
lines_text [] = []
lines_text (line ∷ lines) = line_text line ++ (10 ∷ lines_text lines)

-- the points, relays and links are those of a graph
abbrev pub makes_graph : Picture → Bool
makes_graph picture =
    is_graph (map node_of picture.points) (map region_of picture.relays) (map arc_of picture.links)

-- its lines may stand in a certificate, and make a graph
abbrev pub is_certificate_picture : Picture → Bool
is_certificate_picture picture = list_all is_line (lines_of picture) && makes_graph picture

-- the file is the text of this certificate
pub record CertText (file : List ℕ) (picture : Picture) : Type 0 where
  pub valid : is_certificate_picture picture ≡ true
  pub text : file ≡ lines_text (lines_of picture)

-- the file begins with the first n lines of this certificate
pub record BeginsWith (file : List ℕ) (n : ℕ) (picture : Picture) : Type 0 where
  pub valid : is_certificate_picture picture ≡ true
  pub count : n ≤ length (lines_of picture)
  pub rest : List ℕ
  pub text : file ≡ lines_text (take n (lines_of picture)) ++ rest

-- the file is the text of no certificate, and n is the first line that fails: the lines before it begin a certificate,
-- and with it they begin none
pub record IsFirstFailure (file : List ℕ) (n : ℕ) : Type 0 where
  pub counted : 0 < n
  pub before : Picture
  pub begins : BeginsWith file (n - 1) before
  pub fails : (picture : Picture) → ¬ BeginsWith file n picture
  pub no_text : (picture : Picture) → ¬ CertText file picture

-- why a file is no certificate; lack of memory says nothing of it
abbrev pub IsFormFault : List ℕ → FormFault → Type 0
IsFormFault file (faults.Line line) = IsFirstFailure file line
IsFormFault file faults.Memory = Unit {0}
