use Rattle.elf32_loader.specs.Private.Searches.{FoundLowest}
use Rattle.elf32_loader.proofs.searching.lowest_load.Given as goal

abbrev pub invariant-loop-index : goal.invariant-loop-index
invariant-loop-index l = FoundLowest l.file l.index l.lowest
