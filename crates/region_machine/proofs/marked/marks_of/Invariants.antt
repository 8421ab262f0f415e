use Rattle.std.proofs.Common.{take, IsTrue}
use Rattle.std.specs.List.{list_all}
use Rattle.region_machine.specs.Private.Marked.{is_marked}
use Rattle.region_machine.proofs.marked.marks_of.Given as goal

abbrev pub invariant-loop-region : goal.invariant-loop-region
invariant-loop-region l = IsTrue (list_all (is_marked l.marks) (take l.region-index l.regions))
