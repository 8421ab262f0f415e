use Rattle.std.proofs.Common.{◌≡◌, sym, ap, ◌∙◌, arith, true}
use Rattle.std.specs.List.{list_all}
use Rattle.std.proofs.lemmas.Bool.{and_parts}
use Rattle.cut_file.specs.Cuts.{is_run, neighbours_pass, have_other_masks}
use Rattle.acceptance_law.specs.RunCuts.{united}
use Rattle.measuring.specs.CutRuns.{once, united_runs}
use Rattle.measuring.proofs.CutRuns.{point_valid, runs_united}
use Rattle.measuring.proofs.cut_points.cut_point.Goals as goal

pub returns-clause-valid : goal.returns-clause-valid
returns-clause-valid c =
    point_valid c.known_point-known.result c.in_ok-runs.runs c.in_ok-rest.rest c.union.result c.known_point-known.ensures.valid
    c.in_ok-runs.ensures.valid (omega arith) c.in_ok-rest.ensures

pub returns-clause-masks : goal.returns-clause-masks
returns-clause-masks c =
    let valid : list_all is_run c.in_ok-runs.runs ≡ true =
    (and_parts (list_all is_run c.in_ok-runs.runs) (neighbours_pass have_other_masks c.in_ok-runs.runs)
    c.in_ok-runs.ensures.valid).0 in
    record {
      masks = c.in_ok-runs.ensures.masks;
      rest = c.in_ok-rest.ensures ∙ ap once (c.union.ensures ∙ (ap united_runs c.as_slice.ensures
          ∙ (sym (runs_united c.in_ok-runs.runs valid) ∙ ap united c.in_ok-runs.ensures.masks)));
    }
