-- The report of a measured run as JSON. Numbers are as in the report as text; an address is the text of one.
use Rattle.std.specs.Prelude.{ℕ, List, ◌++◌, codes, length, map}
use Rattle.serde_json.specs.Data.{Data, unsigned, number, string, array, object, member, no_members}
use Rattle.serde_json.specs.View.{items_of}
use Rattle.serde_json.specs.Written.{compact_text}
use Rattle.cut_file.specs.declared.points.CutPoint.{CutPoint}
use Rattle.flow_base.specs.Points.{slot_text}
use Rattle.flow_base.specs.declared.points.Point.{Point}
use Rattle.flow_base.specs.HexWords.{hex_word}
use Rattle.flow_graph.specs.declared.nodes.Node.{Node}
use Rattle.flow_graph.specs.EventGraphs.{capacity_at}
use Rattle.measuring.specs.declared.measured.Measured.{Measured}

abbrev pub whole : ℕ → Data
whole n = number (unsigned n)

-- a point of the cut, with its capacity in bits
abbrev pub point_data : List Node → Point → Data
point_data nodes point =
    object (member (codes "address") (string (hex_word point.address))
    (member (codes "bits") (whole (capacity_at nodes point))
    (member (codes "region") (whole point.region)
    (member (codes "slot") (string (slot_text point.slot)) no_members))))

abbrev pub cut_data : List Node → List CutPoint → Data
cut_data nodes points = array (items_of (map (λ cut_point. point_data nodes cut_point.point) points))

abbrev pub skip_data : List ℕ → Data
skip_data regions = array (items_of (map whole regions))

abbrev pub report_data : Measured → Data
report_data measured =
    object (member (codes "bits") (whole measured.value)
    (member (codes "cut") (cut_data measured.graph.points measured.cut.points)
    (member (codes "links") (whole (length measured.graph.links))
    (member (codes "output") (whole (length measured.output.bytes))
    (member (codes "points") (whole (length measured.graph.points))
    (member (codes "secret") (whole measured.cut.secret_len)
    (member (codes "skip") (skip_data measured.cut.skip)
    (member (codes "status") (whole measured.output.status)
    (member (codes "turns") (whole measured.turns) no_members)))))))))

-- the compact text and a line feed
abbrev pub report_json : Measured → List ℕ
report_json measured = compact_text (report_data measured) ++ codes "\n"
