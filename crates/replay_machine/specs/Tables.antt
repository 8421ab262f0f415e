-- What a table of masks holds: for each point of a cut where its masks have come to, and which addresses are named.
use Rattle.std.specs.Prelude.{ℕ, suc, List, [], ◌∷◌, drop, Bool, false, Option, Some, None, if◌then◌else◌}
use Rattle.flow_base.specs.declared.points.Point.{Point}
use Rattle.cut_file.specs.declared.points.CutPoint.{CutPoint}
use Rattle.cut_file.specs.declared.points.Run.{Run}
use Rattle.flow_base.specs.PointOrders.{is_same}
use Rattle.region_machine.specs.AddressMarks.{has_mark}
use Rattle.replay_machine.specs.declared.cursors.Cursor.{Cursor}

-- at the start no run has begun
abbrev pub first_cursor : Cursor
first_cursor = record { repeats = false; run = 0; left = 0; mask = 0 }

-- the runs among which a cursor stands: those of the list, and after them those of the pattern
abbrev pub runs_at : CutPoint → Cursor → List Run
runs_at cut_point cursor = if cursor.repeats then cut_point.rest else cut_point.runs

-- the masks that a point has ahead: what is left of the run that has begun, then the later runs, and then the pattern
-- over and over
abbrev pub ahead_of : CutPoint → Cursor → CutPoint
ahead_of cut_point cursor = record {
  point = cut_point.point;
  runs = record { count = cursor.left; mask = cursor.mask } ∷ drop cursor.run (runs_at cut_point cursor);
  rest = cut_point.rest;
}

unfoldable pub all_ahead : List CutPoint → List Cursor → List CutPoint
all_ahead [] cursors = []
all_ahead (cut_point ∷ points) [] = []
all_ahead (cut_point ∷ points) (cursor ∷ cursors) = ahead_of cut_point cursor ∷ all_ahead points cursors

-- the index of the first of the points that is the point, where the first of all has this index
unfoldable pub index_from : ℕ → List CutPoint → Point → Option ℕ
index_from index [] point = None
index_from index (cut_point ∷ points) point =
    if is_same cut_point.point point then Some index else index_from (suc index) points point

abbrev pub index_of : List CutPoint → Point → Option ℕ
index_of points point = index_from 0 points point

-- the address of the point is marked
abbrev pub is_marked : List Bool → CutPoint → Bool
is_marked marks cut_point = has_mark marks cut_point.point.address
