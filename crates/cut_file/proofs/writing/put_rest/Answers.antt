use Rattle.std.proofs.Common.{List, ℕ, ◌++◌, ◌+◌, drop, ap, ◌∙◌}
use Rattle.std.specs.Prelude.{map}
use Rattle.cut_file.specs.Texts.{rest_text}
use Rattle.cut_file.specs.Private.Writing.{led}
use Rattle.cut_file.proofs.Pieces.{runs_step}
use Rattle.cut_file.proofs.writing.put_rest.Goals as goal

pub loop-run-preserved : goal.loop-run-preserved
loop-run-preserved c =
    let more : List ℕ = led (map (rest_text c.args.version) (drop (c.loop-run.run-index + 1) c.args.rest.now)) in
    ap (λ (l : List ℕ). l ++ more) c.in_ok-put_rest_run.ensures
    ∙ runs_step (rest_text c.args.version) c.args.rest.now c.loop-run.run-index (record { count = 0; mask = 0 })
    c.loop-run.text.items _ c.loop-run-test.true c.loop-run.invariant
