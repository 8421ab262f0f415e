use Rattle.std.proofs.Common.{refl, subst, cond}
use Rattle.std.proofs.lemmas.Result.{on_ok_weaker}
use Rattle.measuring.specs.Counts.{CountsMore}
use Rattle.measuring.proofs.AddedVisits.{counts_visit, uncounted}
use Rattle.measuring.proofs.kept_visits.KeptVisits.visit_clean.Goals as goal

pub returns-then-counted : goal.returns-then-counted
returns-then-counted c =
    counts_visit c.args.self.now (record {
      counts = c.more.new.self;
      points = c.args.self.now.points;
      alloc = c.args.self.now.alloc;
    }) c.args.point refl
    (subst (λ b. CountsMore c.args.self.now.counts c.more.new.self c.args.point (cond b 1 0)) c.if-counted.true
    c.in_ok-counted.ensures.more)

pub returns-else-counted : goal.returns-else-counted
returns-else-counted c =
    on_ok_weaker c.visit_uncounted.result
    (λ adds. uncounted c.args.self.now (record {
      counts = c.more.new.self;
      points = c.args.self.now.points;
      alloc = c.args.self.now.alloc;
    }) c.visit_uncounted.new.self c.args.point 0 refl
    (subst (λ b. CountsMore c.args.self.now.counts c.more.new.self c.args.point (cond b 1 0)) c.if-counted.false
    c.in_ok-counted.ensures.more) adds)
    c.visit_uncounted.ensures
