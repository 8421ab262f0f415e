use Rattle.std.proofs.Common.{[], ◌∷◌, ◌++◌, ap, ◌∙◌, sym, subst, IsTrue}
use Rattle.measuring.specs.VisitRuns.{run_masks, are_visit_runs}
use Rattle.measuring.proofs.VisitRuns.{masks_push, sound_begin}
use Rattle.measuring.proofs.point_visits.PointVisits.begin.Goals as goal

pub invariant_of-self : goal.invariant_of-self
invariant_of-self c = record {
  sound = subst (λ earlier. IsTrue (are_visit_runs (earlier ++ c.args.run ∷ []))) (sym c.in-Ok.ensures.ok)
      (sound_begin c.args.self.now.earlier c.args.self.now.latest c.args.run c.args.self.now.sound c.requires.some
      c.requires.apart);
}

pub returns-in-Ok-clause-ok : goal.returns-in-Ok-clause-ok
returns-in-Ok-clause-ok c =
    ap (λ earlier. run_masks (earlier ++ c.args.run ∷ [])) c.in-Ok.ensures.ok ∙ masks_push _ c.args.run
