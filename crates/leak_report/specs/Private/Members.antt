-- The members of a report as JSON, put under their keys one after the other.
use Rattle.std.specs.Prelude.{codes, length}
use Rattle.serde_json.specs.Data.{Members, put}
use Rattle.measuring.specs.declared.measured.Measured.{Measured}
use Rattle.leak_report.specs.JsonReports.{cut_data, skip_data, whole}

-- those from `secret` on
abbrev pub with_last : Measured → Members → Members
with_last measured members =
    put (codes "secret") (whole measured.cut.secret_len) (put (codes "skip") (skip_data measured.cut.skip)
    (put (codes "status") (whole measured.output.status) (put (codes "turns") (whole measured.turns) members)))

-- those before it
abbrev pub with_first : Measured → Members → Members
with_first measured members =
    put (codes "bits") (whole measured.value)
    (put (codes "cut") (cut_data measured.graph.points measured.cut.points)
    (put (codes "links") (whole (length measured.graph.links))
    (put (codes "output") (whole (length measured.output.bytes))
    (put (codes "points") (whole (length measured.graph.points)) members))))
