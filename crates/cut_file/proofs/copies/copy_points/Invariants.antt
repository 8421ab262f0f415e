use Rattle.std.proofs.Common.{◌≡◌, take}
use Rattle.cut_file.proofs.copies.copy_points.Given as goal

abbrev pub invariant-loop-cut_point : goal.invariant-loop-cut_point
invariant-loop-cut_point l = l.copies ≡ take l.cut_point-index l.points
