use Rattle.std.proofs.Common.{◌∙◌, IsTrue, List, ℕ, subst, sym}
use Rattle.cut_file.specs.declared.points.CutPoint.{CutPoint}
use Rattle.cut_file.specs.Cuts.{are_points_of, are_regions}
use Rattle.cut_file.proofs.Following.{points_migrated}
use Rattle.cut_file.proofs.migrating.migrate.Goals as goal

pub invariant_of-result-clause-crosses : goal.invariant_of-result-clause-crosses
invariant_of-result-clause-crosses c =
    subst (λ (l : List CutPoint). IsTrue (are_points_of 2 l)) (sym c.in_ok-points.ensures)
    (points_migrated c.args.cut.now.version c.args.cut.now.points c.args.cut.now.crosses)

pub invariant_of-result-clause-skips : goal.invariant_of-result-clause-skips
invariant_of-result-clause-skips c =
    subst (λ (l : List ℕ). IsTrue (are_regions l)) (sym (c.in_ok-skip.ensures ∙ c.as_slice.ensures))
    c.args.cut.now.skips
