use Rattle.std.proofs.Common.{List, ℕ, ◌++◌, ◌+◌, drop, ap, ◌∙◌}
use Rattle.std.specs.Prelude.{map}
use Rattle.cut_file.specs.Texts.{run_text}
use Rattle.cut_file.specs.Private.Writing.{led}
use Rattle.cut_file.proofs.Pieces.{runs_step}
use Rattle.cut_file.proofs.writing.put_runs.Goals as goal

pub loop-run-preserved : goal.loop-run-preserved
loop-run-preserved c =
    let more : List ℕ = led (map run_text (drop (c.loop-run.run-index + 1) c.args.runs.now)) in
    ap (λ (l : List ℕ). l ++ more) c.in_ok-put_run.ensures
    ∙ runs_step run_text c.args.runs.now c.loop-run.run-index (record { count = 0; mask = 0 }) c.loop-run.text.items _
    c.loop-run-test.true c.loop-run.invariant
