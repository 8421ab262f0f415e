use Rattle.std.proofs.Common.{ap, ◌∙◌}
use Rattle.std.specs.List.{list_all}
use Rattle.std.proofs.lemmas.Bool.{and_from}
use Rattle.cut_file.specs.Cuts.{is_run}
use Rattle.cut_file.proofs.Following.{all_push}
use Rattle.measuring.specs.VisitRuns.{is_visit_run}
use Rattle.measuring.proofs.CutRuns.{all_later, few_first, few_later, runs_step}
use Rattle.measuring.proofs.cut_points.put_runs.Goals as goal

pub put_run-requires-clause-few : goal.put_run-requires-clause-few
put_run-requires-clause-few c = few_first c.loop-rest.rest.now _ c.in-len1-up.len_at_least c.loop-rest.invariant.few

pub loop-rest-preserved : goal.loop-rest-preserved
loop-rest-preserved c = record {
  put = runs_step c.loop-rest.runs c.put_run.new.runs _ c.loop-rest.rest.now _ c.in-len1-up.len_at_least
      c.in_ok-put_run.ensures.put c.loop-rest.invariant.put;
  valid = ap (list_all is_run) c.in_ok-put_run.ensures.put
      ∙ (all_push is_run c.loop-rest.runs _
      ∙ and_from _ _ c.loop-rest.invariant.valid c.in_ok-put_run.ensures.valid);
  some = all_later is_visit_run c.loop-rest.rest.now c.in-len1-up.len_at_least c.loop-rest.invariant.some;
  few = few_later c.loop-rest.rest.now c.in-len1-up.len_at_least c.loop-rest.invariant.few;
}
