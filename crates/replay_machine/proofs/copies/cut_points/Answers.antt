use Rattle.std.proofs.Common.{IsTrue, List, subst, sym, ◌≡◌, ◌∙◌, ap}
use Rattle.std.specs.Prelude.{map}
use Rattle.cut_file.specs.declared.points.CutPoint.{CutPoint}
use Rattle.cut_file.specs.Cuts.{are_points}
use Rattle.cut_file.proofs.Following.{points_known}
use Rattle.replay_machine.specs.Private.Copies.{trimmed}
use Rattle.replay_machine.specs.Visits.{SameAhead}
use Rattle.replay_machine.proofs.Trimming.{trimmed_known, trimmed_same}
use Rattle.replay_machine.proofs.copies.cut_points.Goals as goal

pub returns-clause-same : goal.returns-clause-same
returns-clause-same c =
    let is : c.in_ok-points.points.items ≡ map trimmed c.args.cut.now.points =
    c.in_ok-points.ensures ∙ ap (λ (l : List CutPoint). map trimmed l) c.as_slice.ensures in
    subst (λ (l : List CutPoint). SameAhead l c.args.cut.now.points) (sym is)
    (trimmed_same c.args.cut.now.points
    (points_known c.args.cut.now.version c.args.cut.now.points c.args.cut.now.crosses))

pub returns-clause-known : goal.returns-clause-known
returns-clause-known c =
    let is : c.in_ok-points.points.items ≡ map trimmed c.args.cut.now.points =
    c.in_ok-points.ensures ∙ ap (λ (l : List CutPoint). map trimmed l) c.as_slice.ensures in
    subst (λ (l : List CutPoint). IsTrue (are_points l)) (sym is)
    (trimmed_known c.args.cut.now.points
    (points_known c.args.cut.now.version c.args.cut.now.points c.args.cut.now.crosses))
