use Rattle.std.proofs.Common.{◌≡◌}
use Rattle.cut_file.specs.Pictures.{cut_picture}
use Rattle.elf32_loader.specs.Images.{image_picture}
use Rattle.lockstep_replay.specs.Tasks.{task_of}
use Rattle.replay_machine.specs.Visits.{SameAhead}
use Rattle.rv32im_machine.specs.Start.{zeros}
use Rattle.every_secret.specs.Private.Searching.{terms_of}
use Rattle.every_secret.specs.Private.Tapes.{ruling_of, tape_of}
use Rattle.every_secret.proofs.SearchedTree.{IsAtWalk}
use Rattle.every_secret.proofs.bounds.search_tree.Given as goal

abbrev pub invariant-loop-made : goal.invariant-loop-made
invariant-loop-made g l =
    IsAtWalk
    (terms_of (ruling_of l.walks.book.now.table l.walks.known) l.walks.marked.now.regions.items l.walks.cut.now.skip l.walks.budget l.walks.turns)
    (task_of (image_picture l.walks.image.now) l.walks.public.now l.walks.marked.now.regions.items
    (cut_picture l.walks.cut.now))
    ((l.walks.zeros.now ≡ zeros l.walks.cut.now.secret_len) × SameAhead l.walks.table.now l.walks.cut.now.points) l.limit
    l.made l.left l.search
    (tape_of (ruling_of l.side.book.now.table l.side.known) l.side.shadow l.side.masks l.side.bits l.side.crossed l.side.byte_masks.items
    l.side.status_mask l.side.unclear)
