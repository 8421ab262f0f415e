use Rattle.elf32_loader.proofs.Spelling.{written_image}
use Rattle.elf32_loader.proofs.laws.written_files_give_their_images.Goals as goal

pub returns : goal.returns
returns c = written_image
