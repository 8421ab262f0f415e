use Rattle.std.proofs.Common.{◌≡◌, ◌++◌, ◌∷◌, ◌+◌, [], List, take, subst, sym, ap, ◌∙◌}
use Rattle.std.specs.List.{list_all}
use Rattle.std.proofs.lemmas.Bool.{and_from}
use Rattle.std.proofs.lemmas.List.{take_all, take_more}
use Rattle.cut_file.specs.declared.points.CutPoint.{CutPoint}
use Rattle.cut_file.specs.Cuts.{is_cut_point}
use Rattle.cut_file.specs.Folds.{AreFolded}
use Rattle.cut_file.proofs.Following.{all_push, is_so}
use Rattle.cut_file.proofs.Periods.{folded_known, folded_push}
use Rattle.cut_file.proofs.folding.folded_points.Goals as goal

pub loop-cut_point-preserved : goal.loop-cut_point-preserved
loop-cut_point-preserved c =
    let points : List CutPoint = c.args.points.now in
    let index = c.loop-cut_point.cut_point-index in
    let item : CutPoint = c.cut_point-item.result in
    let front : List CutPoint = take index points in
    let pushed : c.push.new.self ≡ c.loop-cut_point.folded ++ (c.in_ok-point.point ∷ []) = c.in_ok-push.ensures.ok in
    let longer : take (index + 1) points ≡ front ++ (item ∷ []) =
    take_more points index item c.loop-cut_point-test.true
    ∙ ap (λ (p : CutPoint). front ++ (p ∷ [])) (sym c.cut_point-item.is) in
    record {
      folded =
          subst (λ (l : List CutPoint). AreFolded l c.push.new.self) (sym longer)
          (subst (λ (l : List CutPoint). AreFolded (front ++ (item ∷ [])) l) (sym pushed)
          (folded_push front c.loop-cut_point.folded item c.in_ok-point.point c.loop-cut_point.invariant.folded
          c.in_ok-point.ensures.folded));
      known =
          ap (list_all is_cut_point) pushed
          ∙ all_push is_cut_point c.loop-cut_point.folded c.in_ok-point.point
          ∙ and_from _ _ c.loop-cut_point.invariant.known (is_so _ c.in_ok-point.ensures.known);
    }

pub returns-clause-known : goal.returns-clause-known
returns-clause-known c =
    let whole : take c.loop-cut_point.cut_point-index c.args.points.now ≡ c.args.points.now =
    take_all c.loop-cut_point.cut_point-index c.args.points.now c.loop-cut_point-test.false in
    folded_known c.args.points.now c.loop-cut_point.folded c.requires
    (subst (λ (l : List CutPoint). AreFolded l c.loop-cut_point.folded) whole c.loop-cut_point.invariant.folded)
    c.loop-cut_point.invariant.known
