use Rattle.elf32_loader.specs.Private.Searches.{AreLoads}
use Rattle.elf32_loader.proofs.loading.read_segments.Given as goal

abbrev pub invariant-loop-index : goal.invariant-loop-index
invariant-loop-index l = AreLoads l.file l.index l.segments.items
