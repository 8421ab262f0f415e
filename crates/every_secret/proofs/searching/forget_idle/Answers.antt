use Rattle.std.proofs.Common.{refl}
use Rattle.every_secret.specs.Private.Searching.{terms_of}
use Rattle.every_secret.specs.Private.Tapes.{ruling_of, tape_of}
use Rattle.every_secret.proofs.ForgottenPlaces.{goes_on_forgotten, walks_forgotten}
use Rattle.every_secret.proofs.searching.forget_idle.Goals as goal

pub returns-then-depth_of-depth-clause-safe : goal.returns-then-depth_of-depth-clause-safe
returns-then-depth_of-depth-clause-safe g c =
    let walks = c.args.walks in
    let side = c.args.side.now in
    let search = c.args.search.now in
    goes_on_forgotten
    (terms_of (ruling_of walks.book.now.table walks.known) walks.marked.now.regions.items walks.cut.now.skip walks.budget walks.turns) search
    (record {
      machine = search.machine;
      opens = c.truncate.new.self;
      closed = search.closed;
      pieces = search.pieces;
      findings = search.findings;
    })
    (tape_of (ruling_of side.book.now.table side.known) side.shadow side.masks side.bits side.crossed side.byte_masks.items side.status_mask
    side.unclear) c.args.before c.if-before-ge1.true refl refl refl c.truncate.ensures.items c.requires.safe

pub returns-then-depth_of-depth-clause-goes : goal.returns-then-depth_of-depth-clause-goes
returns-then-depth_of-depth-clause-goes g c = λ basis left walking.
    let side = c.args.side.now in
    let search = c.args.search.now in
    walks_forgotten basis left search
    (record {
      machine = search.machine;
      opens = c.truncate.new.self;
      closed = search.closed;
      pieces = search.pieces;
      findings = search.findings;
    })
    (tape_of (ruling_of side.book.now.table side.known) side.shadow side.masks side.bits side.crossed side.byte_masks.items side.status_mask
    side.unclear) c.args.before refl refl refl refl c.truncate.ensures.items walking
