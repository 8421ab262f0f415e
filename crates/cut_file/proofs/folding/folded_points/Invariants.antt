use Rattle.std.proofs.Common.{◌≡◌, take, true}
use Rattle.std.specs.List.{list_all}
use Rattle.cut_file.specs.Cuts.{is_cut_point}
use Rattle.cut_file.specs.Folds.{AreFolded}
use Rattle.cut_file.proofs.folding.folded_points.Given as goal

abbrev pub invariant-loop-cut_point : goal.invariant-loop-cut_point
invariant-loop-cut_point l = record {
  folded : AreFolded (take l.cut_point-index l.points) l.folded;
  known : list_all is_cut_point l.folded ≡ true;
}
