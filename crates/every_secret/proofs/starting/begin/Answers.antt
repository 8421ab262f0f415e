use Rattle.std.proofs.Common.{ap, refl}
use Rattle.cut_file.specs.Pictures.{cut_picture}
use Rattle.elf32_loader.specs.Images.{image_picture}
use Rattle.lockstep_replay.specs.Tasks.{Task, task_of}
use Rattle.rv32im_machine.specs.Start.{start}
use Rattle.every_secret.specs.Private.Searching.{basis_of, terms_of}
use Rattle.every_secret.specs.Private.Tapes.{ruling_of, tape_of}
use Rattle.every_secret.proofs.StartedSearch.{none_past_ahead, start_goes_on, start_walks}
use Rattle.every_secret.proofs.starting.begin.Goals as goal

pub returns-clause-safe : goal.returns-clause-safe
returns-clause-safe g c =
    let walks = c.args.walks in
    let side = c.in_ok-side.side in
    let tape = tape_of (ruling_of side.book.now.table side.known) side.shadow side.masks side.bits side.crossed side.byte_masks.items
    side.status_mask side.unclear in
    let terms = terms_of (ruling_of walks.book.now.table walks.known) walks.marked.now.regions.items walks.cut.now.skip walks.budget walks.turns in
    start_goes_on terms (start (image_picture walks.image.now) walks.public.now walks.zeros.now 1048576)
    c.in_ok-search.search c.open_start.new.search tape walks.image.now.base walks.turns walks.table.now
    c.in_ok-search.ensures c.in_ok-open_start.ensures c.in_ok-side.ensures refl refl

pub returns-clause-walks : goal.returns-clause-walks
returns-clause-walks g c = λ rules answers zeros_are same.
    let walks = c.args.walks in
    let side = c.in_ok-side.side in
    let tape = tape_of (ruling_of side.book.now.table side.known) side.shadow side.masks side.bits side.crossed side.byte_masks.items
    side.status_mask side.unclear in
    let terms = terms_of (ruling_of walks.book.now.table walks.known) walks.marked.now.regions.items walks.cut.now.skip walks.budget walks.turns in
    let task : Task = task_of (image_picture walks.image.now) walks.public.now walks.marked.now.regions.items
    (cut_picture walks.cut.now) in
    let first = c.in_ok-side.ensures in
    start_walks terms (start (image_picture walks.image.now) walks.public.now walks.zeros.now 1048576)
    c.in_ok-search.search c.open_start.new.search tape walks.image.now.base walks.turns walks.table.now
    c.in_ok-search.ensures c.in_ok-open_start.ensures c.in_ok-side.ensures
    (basis_of rules task walks.budget walks.turns)
    (ap (λ zeros. start (image_picture walks.image.now) walks.public.now zeros 1048576) zeros_are) refl
    (none_past_ahead side.masks walks.table.now walks.cut.now.points first.ahead same)
