use Rattle.std.proofs.Common.{IsTrue, List, subst, sym}
use Rattle.cut_file.specs.declared.points.CutPoint.{CutPoint}
use Rattle.cut_file.specs.Cuts.{are_points}
use Rattle.cut_file.specs.Folds.{AreFolded}
use Rattle.cut_file.proofs.Following.{points_known}
use Rattle.cut_file.proofs.folding.points_of.Goals as goal

pub folded_points-requires : goal.folded_points-requires
folded_points-requires c =
    subst (λ (l : List CutPoint). IsTrue (are_points l)) (sym c.as_slice.ensures)
    (points_known c.args.cut.now.version c.args.cut.now.points c.args.cut.now.crosses)

pub returns-clause-folded : goal.returns-clause-folded
returns-clause-folded c =
    subst (λ (l : List CutPoint). AreFolded l c.in_ok-folded.folded) c.as_slice.ensures c.in_ok-folded.ensures.folded
