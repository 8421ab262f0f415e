use Rattle.elf32_loader.proofs.Faults.{no_image}
use Rattle.elf32_loader.proofs.Unique.{same_image}
use Rattle.elf32_loader.proofs.laws.files_give_one_image_or_a_fault.Goals as goal

pub returns-clause-fault : goal.returns-clause-fault
returns-clause-fault c = no_image

pub returns-clause-image : goal.returns-clause-image
returns-clause-image c = same_image
