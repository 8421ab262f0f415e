-- The picture of an image.
use Rattle.elf32_loader.specs.declared.images.Image.{Image}
use Rattle.elf32_loader.specs.Pictures.{Picture}

abbrev pub image_picture : Image → Picture
image_picture image = record { base = image.base; entry = image.entry; segments = image.segments }
