use Rattle.std.proofs.Common.{◌≡◌, sym, ap, ◌∙◌, subst, ◌++◌, ◌-◌, length, take, drop}
use Rattle.std.specs.List.{list_all, AllByRecursion}
use Rattle.std.proofs.lemmas.Bool.{and_from}
use Rattle.cut_file.specs.Cuts.{is_point_of}
use Rattle.cut_file.proofs.Following.{all_push}
use Rattle.measuring.specs.CutRuns.{HasKeptMasks, points_of}
use Rattle.measuring.specs.Cutting.{FitsCut}
use Rattle.measuring.proofs.CutRuns.{points_step, all_by_first, all_by_later, all_by_push}
use Rattle.measuring.proofs.cut_points.cut_points.Goals as goal

pub cut_point-requires : goal.cut_point-requires
cut_point-requires c =
    all_by_first (FitsCut c.args.visits.now) c.loop-rest.rest.now _ c.in-len1-up.len_at_least c.loop-rest.invariant.fits

pub loop-rest-preserved : goal.loop-rest-preserved
loop-rest-preserved c = record {
  points = subst (λ made. points_of made ++ take (length c.loop-rest.rest.now - 1) (drop 1 c.loop-rest.rest.now) ≡
      c.args.points.now) (sym c.in_ok-push.ensures.ok)
      (points_step c.loop-rest.made c.in_ok-next.next c.loop-rest.rest.now c.args.points.now _
      c.in-len1-up.len_at_least c.in_ok-next.ensures.point c.loop-rest.invariant.points);
  masks = subst (AllByRecursion (HasKeptMasks c.args.visits.now)) (sym c.in_ok-push.ensures.ok)
      (all_by_push (HasKeptMasks c.args.visits.now) c.loop-rest.made c.in_ok-next.next c.loop-rest.invariant.masks
      c.in_ok-next.ensures.masks);
  valid = ap (list_all (is_point_of 1)) c.in_ok-push.ensures.ok
      ∙ (all_push (is_point_of 1) c.loop-rest.made c.in_ok-next.next
      ∙ and_from _ _ c.loop-rest.invariant.valid c.in_ok-next.ensures.valid);
  fits = all_by_later (FitsCut c.args.visits.now) c.loop-rest.rest.now c.in-len1-up.len_at_least
      c.loop-rest.invariant.fits;
}
