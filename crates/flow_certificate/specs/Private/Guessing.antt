-- What a line may be, by its first letters and the numbers at their places. The text of what is guessed decides.
use Rattle.std.specs.Prelude.{ℕ, ◌==◌, nat_lt, List, [], ◌∷◌, ◌++◌, drop}
use Rattle.std.specs.Prelude.{slice_index, if◌then◌else◌, Option, None, option_map}
use Rattle.flow_base.specs.declared.points.Slot.{Slot}
use Rattle.flow_base.specs.TextPieces.{after_text}
use Rattle.flow_base.specs.TextWords.{number_at, slot_at, word_at}
use Rattle.flow_graph.specs.declared.ends.End.{End}
use Rattle.flow_graph.specs.declared.ends.End.TheVariants as ends
use Rattle.max_flow.specs.declared.answers.Half.{Half}
use Rattle.max_flow.specs.declared.answers.Half.TheVariants.{Both, FirstOnly, SecondOnly, Neither}
use Rattle.flow_certificate.specs.declared.lines.Line.{Line}
use Rattle.flow_certificate.specs.declared.lines.Line.TheVariants as forms
use Rattle.flow_certificate.specs.declared.lines.LinkLine.{LinkLine}
use Rattle.flow_certificate.specs.declared.lines.PointLine.{PointLine}
use Rattle.flow_certificate.specs.declared.lines.RelayLine.{RelayLine}
use Rattle.flow_certificate.specs.Lines.{is_line, line_text}

-- a number below a limit, or 0
abbrev pub below : ℕ → ℕ → ℕ
below limit number = if nat_lt number limit then number else 0

unfoldable pub end_at : List ℕ → End × List ℕ
end_at bytes =
    if slice_index bytes 0 == 112
    then (ends.Point (below 4294967296 (number_at (drop 1 bytes)).0), (number_at (drop 1 bytes)).1)
    else if slice_index bytes 0 == 114
    then (ends.Relay (below 65536 (number_at (drop 1 bytes)).0), (number_at (drop 1 bytes)).1)
    else if slice_index bytes 1 == 111 then (ends.Source, drop 6 bytes)
    else (ends.Sink, drop 4 bytes)

abbrev pub half_of : ℕ → Half
half_of letter =
    if letter == 115 then Both else if letter == 109 then FirstOnly else if letter == 111 then SecondOnly else Neither

-- ---- lines

-- the parts of the line of a point after its first word
unfoldable pub point_at : List ℕ → PointLine
point_at bytes =
    let region : ℕ × List ℕ = number_at bytes in
    let slot : Slot × List ℕ = slot_at (drop 12 region.1) in
    let capacity : ℕ × List ℕ = number_at (drop 10 slot.1) in
    let flow : ℕ × List ℕ = number_at (drop 6 capacity.1) in
    record {
      point = record { region = below 65536 region.0; address = word_at (drop 3 region.1); slot = slot.0 };
      capacity = capacity.0;
      flow = flow.0;
      half = half_of (slice_index flow.1 6);
    }

unfoldable pub relay_at : List ℕ → RelayLine
relay_at bytes =
    let region : ℕ × List ℕ = number_at bytes in
    record { region = below 65536 region.0; inside = slice_index region.1 6 == 115 }

unfoldable pub link_at : List ℕ → LinkLine
link_at bytes =
    let source : End × List ℕ = end_at bytes in
    let target : End × List ℕ = end_at (drop 1 source.1) in
    let flow : ℕ × List ℕ = number_at (drop 6 target.1) in
    record { link = record { source = source.0; target = target.0 }; flow = flow.0 }

-- the line that may stand in front
unfoldable pub guess : List ℕ → Line
guess bytes =
    if slice_index bytes 0 == 108 then forms.Link (link_at (drop 5 bytes))
    else if slice_index bytes 0 == 112 then forms.Point (point_at (drop 6 bytes))
    else if slice_index bytes 0 == 114 then forms.Relay (relay_at (drop 6 bytes))
    else if slice_index bytes 0 == 118 then forms.Value ((number_at (drop 6 bytes)).0)
    else if slice_index bytes 0 == 102 then forms.Version
    else forms.End

-- a line with what it says
abbrev pub with_line : Line → List ℕ → Line × List ℕ
with_line line rest = (line, rest)

-- the line in front with the rest after its line feed
unfoldable pub line_in : List ℕ → Option (Line × List ℕ)
line_in bytes =
    if is_line (guess bytes)
    then option_map (with_line (guess bytes)) (after_text (line_text (guess bytes) ++ (10 ∷ [])) bytes)
    else None
