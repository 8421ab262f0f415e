use Rattle.elf32_loader.specs.Images.{image_picture}
use Rattle.std.proofs.Common.{take}
use Rattle.many_runs.specs.Following.{AreFollowed}
use Rattle.many_runs.specs.Measures.{setup_of}
use Rattle.many_runs.proofs.following_all.record_runs.Given as goal

abbrev pub invariant-loop-index : goal.invariant-loop-index
invariant-loop-index g l =
    AreFollowed (setup_of l.setup.book.now.table (image_picture l.setup.image.now) l.setup.public.now
    l.setup.regions.now.items l.setup.turns) (take l.index l.secrets) l.recordings
