-- What an answer of the assembler shows.
use Rattle.std.specs.Prelude.{Result, Ok, Err}
use Rattle.elf32_loader.specs.Images.{image_picture}
use Rattle.elf32_loader.specs.Pictures.{Picture}
use Rattle.elf32_loader.specs.declared.images.Image.{Image}
use Rattle.rv32im_asm.specs.declared.fault.AsmFault.{AsmFault}

-- the picture of the image, or the fault
abbrev pub answer_of : Result Image AsmFault → Result Picture AsmFault
answer_of (Err fault) = Err fault
answer_of (Ok image) = Ok (image_picture image)
