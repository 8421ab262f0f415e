-- The points of the counters of visits.
use Rattle.std.specs.Prelude.{ℕ, ◌+◌, ◌*◌}
use Rattle.flow_base.specs.declared.points.Point.{Point}

-- the point of a column of the row of a page, which has an instruction in each column
abbrev pub point_at : Point → ℕ → Point
point_at page column = record { region = page.region; address = page.address + 4 * column; slot = page.slot }
