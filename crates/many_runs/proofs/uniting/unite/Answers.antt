use Rattle.std.proofs.Common.{◌++◌, [], subst}
use Rattle.measuring.specs.Recordings.{Records}
use Rattle.many_runs.specs.Private.Joining.{passes_at, recorded_links}
use Rattle.many_runs.proofs.UnitedEvents.{united}
use Rattle.many_runs.proofs.uniting.unite.Goals as goal

pub returns : goal.returns
returns c = λ runs keep. record {
  events = passes_at c.args.recordings.now c.in_ok-points.points ++ recorded_links c.args.recordings.now;
  united = united c.args.recordings.now runs c.in_ok-points.points keep c.in_ok-points.ensures.sorted
      c.in_ok-points.ensures.points;
  records = c.in_ok-add_all_links.ensures (passes_at c.args.recordings.now c.in_ok-points.points)
      (subst (λ points. Records c.add_points.new.union (passes_at c.args.recordings.now points)) c.as_slice.ensures
      (c.in_ok-add_points.ensures [] c.in_ok-union.ensures));
}
