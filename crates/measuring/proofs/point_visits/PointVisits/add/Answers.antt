use Rattle.std.proofs.Common.{◌<◌, ◌++◌, ap, ◌∙◌, arith, refl, replicate}
use Rattle.std.proofs.lemmas.Bool.{ltb-true}
use Rattle.measuring.specs.PointMasks.{point_masks}
use Rattle.measuring.proofs.VisitRuns.{masks_again, sound_again}
use Rattle.measuring.proofs.point_visits.PointVisits.add.Goals as goal

pub invariant_of-self : goal.invariant_of-self
invariant_of-self c =
    let some : 0 < c.args.run.count = ltb-true 0 c.args.run.count c.requires in
    record {
      sound = sound_again c.args.self.now.earlier c.args.self.now.latest (record {
        count = c.in-Some.count;
        mask = c.args.self.now.latest.mask;
      }) c.args.self.now.sound (omega (arith, some, c.in-Some.ensures.1)) refl (omega (arith, c.in-Some.ensures.1));
    }

pub returns-in-Some-clause-ok : goal.returns-in-Some-clause-ok
returns-in-Some-clause-ok c =
    masks_again c.args.self.now.earlier c.args.self.now.latest (record {
      count = c.in-Some.count;
      mask = c.args.self.now.latest.mask;
    }) c.args.run.count c.in-Some.ensures.1 refl
    ∙ ap (λ mask. point_masks c.args.self.now ++ replicate c.args.run.count mask) c.if-self-run.false
