-- Two measures of one run have one report.
use Rattle.std.proofs.Common.{◌≡◌, ℕ, List, ◌++◌, length}
use Rattle.std.specs.Prelude.{codes}
use Rattle.std.specs.Fmt.{decimal}
use Rattle.serde_json.specs.Data.{Data, object, member, no_members}
use Rattle.serde_json.specs.Written.{compact_text}
use Rattle.cut_file.specs.Cuts.{CutPicture}
use Rattle.flow_base.specs.declared.outputs.Output.{Output}
use Rattle.flow_graph.specs.declared.graphs.Graph.{Graph}
use Rattle.max_flow.specs.declared.answers.Side.{Side}
use Rattle.measuring.specs.declared.measured.Measured.{Measured}
use Rattle.measuring.proofs.OneMeasure.{AreSameMeasures, told_alike}
use Rattle.leak_report.specs.JsonReports.{cut_data, report_json, skip_data, whole}
use Rattle.leak_report.specs.Reports.{cut_lines, report_text, skip_lines}

-- the text of a report, by what it tells
told_text : ℕ → ℕ → Output → Graph → Side → CutPicture → List ℕ
told_text value turns output graph side cut =
    ((codes "bits " ++ (decimal value ++ (codes " secret " ++ (decimal cut.secret_len
    ++ (codes " turns " ++ (decimal turns ++ codes " "))))))
    ++ (codes "points " ++ (decimal (length graph.points) ++ (codes " links "
    ++ (decimal (length graph.links) ++ (codes " output " ++ (decimal (length output.bytes)
    ++ (codes " status " ++ (decimal output.status ++ codes "\n")))))))))
    ++ (skip_lines cut.skip ++ cut_lines graph.points cut.points)

pub one_report_text : (one other : Measured) → AreSameMeasures one other → report_text one ≡ report_text other
unfolding told_text
one_report_text one other same = told_alike told_text one other same

told_data : ℕ → ℕ → Output → Graph → Side → CutPicture → Data
told_data value turns output graph side cut =
    object (member (codes "bits") (whole value)
    (member (codes "cut") (cut_data graph.points cut.points)
    (member (codes "links") (whole (length graph.links))
    (member (codes "output") (whole (length output.bytes))
    (member (codes "points") (whole (length graph.points))
    (member (codes "secret") (whole cut.secret_len)
    (member (codes "skip") (skip_data cut.skip)
    (member (codes "status") (whole output.status)
    (member (codes "turns") (whole turns) no_members)))))))))

told_json : ℕ → ℕ → Output → Graph → Side → CutPicture → List ℕ
told_json value turns output graph side cut =
    compact_text (told_data value turns output graph side cut) ++ codes "\n"

pub one_report_json : (one other : Measured) → AreSameMeasures one other → report_json one ≡ report_json other
unfolding told_data told_json
one_report_json one other same = told_alike told_json one other same
