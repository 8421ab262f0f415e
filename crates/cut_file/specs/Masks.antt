-- The mask of a cut at a visit of a point.
use Rattle.std.specs.Prelude.{ℕ, ◌-◌, ◌%◌, nat_lt, List, [], ◌∷◌, ◌++◌, length, replicate}
use Rattle.std.specs.Prelude.{slice_index_or, bit_and, if◌then◌else◌}
use Rattle.flow_base.specs.declared.points.Point.{Point}
use Rattle.flow_base.specs.PointOrders.{is_same}
use Rattle.flow_base.specs.Points.{width_of}
use Rattle.cut_file.specs.declared.points.CutPoint.{CutPoint}
use Rattle.cut_file.specs.declared.points.Run.{Run}

-- the masks of runs, one for each visit
unfoldable pub listed_masks : List Run → List ℕ
listed_masks [] = []
listed_masks (run ∷ runs) = replicate run.count run.mask ++ listed_masks runs

-- the item at a place, counted from 0, of a list and, after it, of a pattern that repeats
abbrev pub repeated : List ℕ → List ℕ → ℕ → ℕ
repeated masks pattern place =
    if nat_lt place (length masks) then slice_index_or masks place 0
    else slice_index_or pattern ((place - length masks) % length pattern) 0

-- the mask that is listed for a visit, counted from 1, and after those that of the pattern
abbrev pub listed_mask : CutPoint → ℕ → ℕ
listed_mask cut_point visit =
    repeated (listed_masks cut_point.runs) (listed_masks cut_point.rest) (visit - 1)

-- that mask within the slot's width
abbrev pub mask_of : CutPoint → ℕ → ℕ
mask_of cut_point visit = bit_and (listed_mask cut_point visit) (width_of cut_point.point.slot)

-- the mask of points at a visit of a point, 0 where none of them is the point
abbrev pub MaskAt : List CutPoint → Point → ℕ → ℕ
MaskAt [] point visit = 0
MaskAt (cut_point ∷ points) point visit =
    if is_same cut_point.point point then mask_of cut_point visit else MaskAt points point visit
