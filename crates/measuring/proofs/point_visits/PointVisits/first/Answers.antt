use Rattle.std.proofs.Common.{[], ◌∷◌, ◌++◌, ap, ◌∙◌, sym, subst, IsTrue}
use Rattle.measuring.specs.VisitRuns.{run_masks, are_visit_runs}
use Rattle.measuring.proofs.VisitRuns.{masks_one, sound_one}
use Rattle.measuring.proofs.point_visits.PointVisits.first.Goals as goal

pub invariant_of-result : goal.invariant_of-result
invariant_of-result c = record {
  sound = subst (λ earlier. IsTrue (are_visit_runs (earlier ++ c.args.run ∷ []))) (sym c.new.ensures)
      (sound_one c.args.run c.requires);
}

pub returns : goal.returns
returns c = ap (λ earlier. run_masks (earlier ++ c.args.run ∷ [])) c.new.ensures ∙ masks_one c.args.run
