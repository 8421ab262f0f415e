-- The report of a measured run as text. Numbers are decimal; an address is 0x and eight digits in lower case.
use Rattle.std.specs.Prelude.{ℕ, List, [], ◌∷◌, ◌++◌, codes, length}
use Rattle.std.specs.Fmt.{decimal}
use Rattle.cut_file.specs.declared.points.CutPoint.{CutPoint}
use Rattle.flow_base.specs.Points.{point_text}
use Rattle.flow_base.specs.declared.points.Point.{Point}
use Rattle.flow_graph.specs.declared.nodes.Node.{Node}
use Rattle.flow_graph.specs.EventGraphs.{capacity_at}
use Rattle.measuring.specs.declared.measured.Measured.{Measured}

-- the maximum flow in bits, the length of the secret in bytes, the number of turns
abbrev pub run_text : Measured → List ℕ
run_text measured =
    codes "bits " ++ (decimal measured.value ++ (codes " secret " ++ (decimal measured.cut.secret_len
    ++ (codes " turns " ++ (decimal measured.turns ++ codes " ")))))

-- the numbers of points and links of the graph, the length of the output in bytes and the status
abbrev pub graph_text : Measured → List ℕ
graph_text measured =
    codes "points " ++ (decimal (length measured.graph.points) ++ (codes " links "
    ++ (decimal (length measured.graph.links) ++ (codes " output " ++ (decimal (length measured.output.bytes)
    ++ (codes " status " ++ (decimal measured.output.status ++ codes "\n")))))))

abbrev pub first_line : Measured → List ℕ
first_line measured = run_text measured ++ graph_text measured

-- a region that the cut skips
abbrev pub skip_line : ℕ → List ℕ
skip_line region = codes "skip " ++ (decimal region ++ codes "\n")

-- a line for each region that the cut skips
abbrev pub skip_lines : List ℕ → List ℕ
skip_lines [] = []
skip_lines (region ∷ regions) = skip_line region ++ skip_lines regions

-- a point of the cut, with its capacity in bits
abbrev pub cut_line : List Node → Point → List ℕ
cut_line nodes point =
    codes "cut " ++ (point_text point ++ (codes " bits " ++ (decimal (capacity_at nodes point) ++ codes "\n")))

-- a line for each point of the cut
abbrev pub cut_lines : List Node → List CutPoint → List ℕ
cut_lines nodes [] = []
cut_lines nodes (cut_point ∷ points) = cut_line nodes cut_point.point ++ cut_lines nodes points

abbrev pub report_text : Measured → List ℕ
report_text measured =
    first_line measured ++ (skip_lines measured.cut.skip ++ cut_lines measured.graph.points measured.cut.points)
