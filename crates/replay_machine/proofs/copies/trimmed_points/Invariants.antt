use Rattle.std.proofs.Common.{◌≡◌, take}
use Rattle.std.specs.Prelude.{map}
use Rattle.replay_machine.specs.Private.Copies.{trimmed}
use Rattle.replay_machine.proofs.copies.trimmed_points.Given as goal

abbrev pub invariant-loop-cut_point : goal.invariant-loop-cut_point
invariant-loop-cut_point l = l.copies.items ≡ map trimmed (take l.cut_point-index l.points)
