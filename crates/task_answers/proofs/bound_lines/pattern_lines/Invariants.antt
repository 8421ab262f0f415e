use Rattle.std.proofs.Common.{◌≡◌, ◌+◌, ◌++◌, drop}
use Rattle.task_answers.specs.BoundLines.{pattern_lines}
use Rattle.task_answers.proofs.bound_lines.pattern_lines.Given as goal

abbrev pub invariant-loop-place : goal.invariant-loop-place
invariant-loop-place l =
    l.text.items ++ pattern_lines (l.place + 1) (drop l.place l.patterns) ≡ pattern_lines 1 l.patterns
