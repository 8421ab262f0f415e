use Rattle.std.proofs.Common.{◌≡◌, ◌++◌, drop}
use Rattle.std.specs.Prelude.{map}
use Rattle.cut_file.specs.Texts.{run_text}
use Rattle.cut_file.specs.Private.Writing.{led}
use Rattle.cut_file.proofs.writing.put_runs.Given as goal

abbrev pub invariant-loop-run : goal.invariant-loop-run
invariant-loop-run l = l.text.items ++ led (map run_text (drop l.run-index l.runs)) ≡ l.fn.text.items ++ led (map
    run_text l.runs)
