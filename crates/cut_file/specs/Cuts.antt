-- A cut, and what it keeps: ranges, orders, and runs of masks that differ from their neighbours.
use Rattle.std.specs.Prelude.{ℕ, ◌==◌, ◌&&◌, ◌||◌, nat_le, nat_lt, not, length, Bool, true, false, List, [], ◌∷◌}
use Rattle.std.specs.List.{list_all}
use Rattle.flow_base.specs.declared.points.Point.{Point}
use Rattle.flow_base.specs.PointOrders.{is_below}
use Rattle.flow_base.specs.Points.{is_slot, is_region_number}
use Rattle.cut_file.specs.declared.points.CutPoint.{CutPoint}
use Rattle.cut_file.specs.declared.points.Run.{Run}

-- a cut without the proofs of what it keeps
pub record CutPicture : Type 0 where
  pub version : ℕ
  pub secret_len : ℕ
  pub bits : ℕ
  pub skip : List ℕ
  pub points : List CutPoint

-- the version of a cut's text
abbrev pub is_version : ℕ → Bool
is_version version = (version == 1) || (version == 2)

abbrev pub is_empty : {A : Type 0} → List A → Bool
is_empty [] = true
is_empty (first ∷ others) = false

-- each two neighbours pass a test
abbrev pub neighbours_pass : {A : Type 0} → (A → A → Bool) → List A → Bool
neighbours_pass test [] = true
neighbours_pass test (first ∷ []) = true
neighbours_pass test (first ∷ (second ∷ others)) = test first second && neighbours_pass test (second ∷ others)

-- a word of 32 bits
abbrev pub is_word : ℕ → Bool
is_word number = nat_lt number 4294967296

abbrev pub is_run : Run → Bool
is_run run = nat_le 1 run.count && (is_word run.count && is_word run.mask)

abbrev pub have_other_masks : Run → Run → Bool
have_other_masks first second = not (first.mask == second.mask)

abbrev pub are_runs : List Run → Bool
are_runs runs = list_all is_run runs && neighbours_pass have_other_masks runs

-- the pattern after the listed masks: one run or more
abbrev pub is_rest : List Run → Bool
is_rest rest = nat_le 1 (length rest) && are_runs rest

-- one mask for one visit
abbrev pub is_single : List Run → Bool
is_single [] = false
is_single (run ∷ []) = run.count == 1
is_single (run ∷ (next ∷ runs)) = false

-- regions to be skipped, strictly ascending
abbrev pub are_regions : List ℕ → Bool
are_regions skip = list_all is_region_number skip && neighbours_pass nat_lt skip

abbrev pub is_point : Point → Bool
is_point point = nat_le point.region 65535 && (is_word point.address && is_slot point.slot)

abbrev pub is_cut_point : CutPoint → Bool
is_cut_point cut_point = is_point cut_point.point && (are_runs cut_point.runs && is_rest cut_point.rest)

-- a point of a cut of that version: in version 1 the pattern is one mask
abbrev pub is_point_of : ℕ → CutPoint → Bool
is_point_of version cut_point = is_cut_point cut_point && ((version == 2) || is_single cut_point.rest)

abbrev pub has_slot : CutPoint → Bool
has_slot cut_point = is_slot cut_point.point.slot

abbrev pub stands_before : CutPoint → CutPoint → Bool
stands_before first second = is_below first.point second.point

-- points, strictly ascending
abbrev pub are_points : List CutPoint → Bool
are_points points = list_all is_cut_point points && neighbours_pass stands_before points

-- points of a cut of that version
abbrev pub are_points_of : ℕ → List CutPoint → Bool
are_points_of version points = list_all (is_point_of version) points && neighbours_pass stands_before points

-- the picture is that of a cut
abbrev pub is_cut_picture : CutPicture → Bool
is_cut_picture cut =
    is_version cut.version && (nat_le cut.secret_len 65536 && (is_word cut.bits
    && (are_regions cut.skip && are_points_of cut.version cut.points)))
