use Rattle.every_secret.specs.Private.Searching.{terms_of}
use Rattle.every_secret.specs.Private.Tapes.{ruling_of, tape_of}
use Rattle.every_secret.proofs.SearchTurns.{comes_late}
use Rattle.every_secret.proofs.searching.late.Goals as goal

pub returns-clause-comes : goal.returns-clause-comes
returns-clause-comes g c = λ basis is walking.
    let side = c.args.side.now in
    let walks = c.args.walks in
    comes_late
    (terms_of (ruling_of walks.book.now.table walks.known) walks.marked.now.regions.items walks.cut.now.skip walks.budget walks.turns) basis
    c.args.search.now
    (tape_of (ruling_of side.book.now.table side.known) side.shadow side.masks side.bits side.crossed side.byte_masks.items side.status_mask
    side.unclear) is walking
