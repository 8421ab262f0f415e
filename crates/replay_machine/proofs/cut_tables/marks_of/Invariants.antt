use Rattle.std.proofs.Common.{take, IsTrue}
use Rattle.std.specs.List.{list_all}
use Rattle.replay_machine.specs.Tables.{is_marked}
use Rattle.replay_machine.proofs.cut_tables.marks_of.Given as goal

abbrev pub invariant-loop-cut_point : goal.invariant-loop-cut_point
invariant-loop-cut_point l = IsTrue (list_all (is_marked l.marks) (take l.cut_point-index l.points))
