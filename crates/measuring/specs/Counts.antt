-- What is counted of points.
use Rattle.std.specs.Prelude.{◌≡◌, ℕ, ◌+◌, ◌*◌, ◌/◌, ◌%◌, ◌==◌, ◌&&◌, Bool, not, cond, List, [], Option}
use Rattle.std.specs.Prelude.{Some, None, nat_lt, slice_index_or, true}
use Rattle.std.specs.Map.{lookup}
use Rattle.flow_base.specs.declared.points.Point.{Point}
use Rattle.flow_base.specs.PointOrders.{is_same}
use Rattle.flow_base.specs.Points.{is_output_slot}
use Rattle.measuring.specs.declared.counter_rows.Row.{Row}
use Rattle.measuring.specs.declared.visit_counts.VisitCounts.{VisitCounts}

abbrev pub row_counts : Option Row → List ℕ
row_counts None = []
row_counts (Some row) = row.counts.items

-- a counter of the row of a page
abbrev pub count_at : List (Point × Row) → Point → ℕ → ℕ
count_at entries page column = slice_index_or (row_counts (lookup (is_same page) entries)) column 0

-- the slot at the start of the page
abbrev pub page_of : Point → Point
page_of point = record { region = point.region; address = point.address / 4096 * 4096; slot = point.slot }

abbrev pub column_of : Point → ℕ
column_of point = point.address % 4096 / 4

-- instructions have addresses that are multiples of 4; what leaves a region is not counted
abbrev pub is_counted : Point → Bool
is_counted point = not (is_output_slot point.slot) && (point.address % 4 == 0)

-- how often a point was counted; a point at an address that is no multiple of 4, or of an output of a region, never is
unfoldable pub count_of : VisitCounts → Point → ℕ
count_of counts point = cond (is_counted point) (count_at counts.rows.map.entries (page_of point) (column_of point)) 0

-- whether a visit more of a point can be counted; a counter ends at 2^32 - 1
abbrev pub has_room : VisitCounts → Point → Bool
has_room counts point = is_counted point && nat_lt (count_of counts point) 4294967295

-- so many visits more of a point are counted
abbrev pub CountsMore : VisitCounts → VisitCounts → Point → ℕ → Type 0
CountsMore old new point more = (q : Point) → count_of new q ≡ count_of old q + cond (is_same point q) more 0

-- what is counted of a point is forgotten
abbrev pub Clears : VisitCounts → VisitCounts → Point → Type 0
Clears old new point = (q : Point) → count_of new q ≡ cond (is_same point q) 0 (count_of old q)

-- a point is counted, and the row of its page is not there: only then is memory wanted
pub record WantsRow (counts : VisitCounts) (point : Point) : Type 0 where
  pub counted : is_counted point ≡ true
  pub new : lookup (is_same (page_of point)) counts.rows.map.entries ≡ None
