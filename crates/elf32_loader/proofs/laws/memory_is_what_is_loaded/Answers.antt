use Rattle.elf32_loader.proofs.Memory.{memory_is_loaded, rest_is_zero}
use Rattle.elf32_loader.proofs.laws.memory_is_what_is_loaded.Goals as goal

pub returns-clause-loaded : goal.returns-clause-loaded
returns-clause-loaded c = memory_is_loaded

pub returns-clause-rest : goal.returns-clause-rest
returns-clause-rest c = rest_is_zero
