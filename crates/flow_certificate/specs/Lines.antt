-- The lines of a certificate: their texts, and the numbers that they may have.
use Rattle.std.specs.Prelude.{ℕ, ◌^◌, ◌&&◌, nat_lt, Bool, true, false, List, ◌++◌, codes}
use Rattle.std.specs.Fmt.{decimal}
use Rattle.flow_base.specs.HexWords.{hex_word}
use Rattle.flow_base.specs.Points.{slot_text}
use Rattle.flow_graph.specs.declared.ends.End.{End}
use Rattle.flow_graph.specs.declared.ends.End.TheVariants as ends
use Rattle.max_flow.specs.declared.answers.Half.{Half}
use Rattle.max_flow.specs.declared.answers.Half.TheVariants.{Both, FirstOnly, SecondOnly, Neither}
use Rattle.flow_certificate.specs.declared.lines.Line.{Line}
use Rattle.flow_certificate.specs.declared.lines.Line.TheVariants as forms
use Rattle.flow_certificate.specs.declared.lines.LinkLine.{LinkLine}
use Rattle.flow_certificate.specs.declared.lines.PointLine.{PointLine}
use Rattle.flow_certificate.specs.declared.lines.RelayLine.{RelayLine}
use Rattle.flow_certificate.specs.Keeping.{is_number, is_certificate_point, is_region_or_outside}
use Rattle.flow_certificate.specs.VerdictTexts.{end_text}

-- which halves of a point are in the side
abbrev pub half_text : Half → List ℕ
half_text Both = codes "s"
half_text FirstOnly = codes "m"
half_text SecondOnly = codes "o"
half_text Neither = codes "t"

-- whether a relay is
abbrev pub inside_text : Bool → List ℕ
inside_text true = codes "s"
inside_text false = codes "t"

abbrev pub point_text : PointLine → List ℕ
point_text line =
    codes "point " ++ (decimal line.point.region ++ (codes " " ++ (hex_word line.point.address ++ (codes " "
    ++ (slot_text line.point.slot ++ (codes " capacity " ++ (decimal line.capacity ++ (codes " flow "
    ++ (decimal line.flow ++ (codes " side " ++ half_text line.half))))))))))

abbrev pub relay_text : RelayLine → List ℕ
relay_text line = codes "relay " ++ (decimal line.region ++ (codes " side " ++ inside_text line.inside))

abbrev pub link_text : LinkLine → List ℕ
link_text line =
    codes "link " ++ (end_text line.link.source ++ (codes " " ++ (end_text line.link.target ++ (codes " flow "
    ++ decimal line.flow))))

-- the text of a line, without its line feed
unfoldable pub line_text : Line → List ℕ
line_text forms.Version = codes "flowcheck-graph 1"
line_text (forms.Value value) = codes "value " ++ decimal value
line_text (forms.Point line) = point_text line
line_text (forms.Relay line) = relay_text line
line_text (forms.Link line) = link_text line
line_text forms.End = codes "end"

-- an end that a link can name
abbrev pub is_end : End → Bool
is_end ends.Source = true
is_end (ends.Point index) = nat_lt index (2 ^ 32)
is_end (ends.Relay region) = is_region_or_outside region
is_end ends.Sink = true

-- the numbers of a line are in their ranges, and its slot is one
abbrev pub is_line : Line → Bool
is_line forms.Version = true
is_line (forms.Value value) = is_number value
is_line (forms.Point line) =
    is_certificate_point line.point && (nat_lt 0 line.capacity && (is_number line.capacity && is_number line.flow))
is_line (forms.Relay line) = is_region_or_outside line.region
is_line (forms.Link line) = is_end line.link.source && (is_end line.link.target && is_number line.flow)
is_line forms.End = true
