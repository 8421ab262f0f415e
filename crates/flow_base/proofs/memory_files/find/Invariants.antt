use Rattle.std.proofs.Common.{◌≡◌, drop}
use Rattle.flow_base.specs.MemoryFiles.{held_under}
use Rattle.flow_base.proofs.memory_files.find.Given as goal

abbrev pub invariant-loop-held : goal.invariant-loop-held
invariant-loop-held l = held_under (drop l.held-index l.names) l.name ≡ held_under l.names l.name
