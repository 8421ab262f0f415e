use Rattle.std.proofs.Common.{◌≡◌, refl, arith}
use Rattle.cut_file.specs.Pictures.{cut_picture}
use Rattle.elf32_loader.specs.Images.{image_picture}
use Rattle.lockstep_replay.specs.Tasks.{task_of}
use Rattle.replay_machine.specs.Visits.{SameAhead}
use Rattle.rv32im_machine.specs.Start.{zeros}
use Rattle.every_secret.specs.Private.Searching.{terms_of}
use Rattle.every_secret.specs.Private.Tapes.{ruling_of, tape_of}
use Rattle.every_secret.proofs.SearchedTree.{done_verdict, many_verdict, unclear_verdict, walk_next}
use Rattle.every_secret.proofs.bounds.search_tree.Goals as goal

pub loop-made-init : goal.loop-made-init
loop-made-init g c =
    let limit = c.requires.limit in record {
      safe = c.in_ok-search.ensures.safe;
      more = omega (arith, limit);
      walks = λ rules answers holds. (c.in_ok-search.ensures.walks rules answers holds.0 holds.1, omega arith);
    }

pub returns-in-Done : goal.returns-in-Done
returns-in-Done g c = λ rules answers zeros_are same.
    let walks = c.args.walks in
    let before = c.loop-made.side in
    let after = c.make_step.new.side in
    done_verdict
    (terms_of (ruling_of walks.book.now.table walks.known) walks.marked.now.regions.items walks.cut.now.skip walks.budget walks.turns)
    (task_of (image_picture walks.image.now) walks.public.now walks.marked.now.regions.items
    (cut_picture walks.cut.now)) c.requires.budget refl
    ((walks.zeros.now ≡ zeros walks.cut.now.secret_len) × SameAhead walks.table.now walks.cut.now.points) c.args.limit
    c.loop-made.made c.loop-made.left c.loop-made.search c.make_step.new.search
    (tape_of (ruling_of before.book.now.table before.known) before.shadow before.masks before.bits before.crossed before.byte_masks.items
    before.status_mask before.unclear)
    (tape_of (ruling_of after.book.now.table after.known) after.shadow after.masks after.bits after.crossed after.byte_masks.items
    after.status_mask after.unclear) c.loop-made.invariant c.in_ok-next.field-0 c.in_ok-bounded-in-Done.bounded
    c.in-Done.is c.in_ok-next.ensures.steps c.in_ok-bounded-in-Done.ensures rules answers (zeros_are, same)

pub loop-made-preserved : goal.loop-made-preserved
loop-made-preserved g c =
    let walks = c.args.walks in
    let before = c.loop-made.side in
    let after = c.make_step.new.side in
    walk_next
    (terms_of (ruling_of walks.book.now.table walks.known) walks.marked.now.regions.items walks.cut.now.skip walks.budget walks.turns)
    (task_of (image_picture walks.image.now) walks.public.now walks.marked.now.regions.items
    (cut_picture walks.cut.now)) c.requires.budget refl
    ((walks.zeros.now ≡ zeros walks.cut.now.secret_len) × SameAhead walks.table.now walks.cut.now.points) c.args.limit
    c.loop-made.made c.loop-made.left c.loop-made.search c.make_step.new.search
    (tape_of (ruling_of before.book.now.table before.known) before.shadow before.masks before.bits before.crossed before.byte_masks.items
    before.status_mask before.unclear)
    (tape_of (ruling_of after.book.now.table after.known) after.shadow after.masks after.bits after.crossed after.byte_masks.items
    after.status_mask after.unclear) c.loop-made.invariant c.in_ok-next.field-0 c.in-Goes.next c.in-Goes.is
    c.in_ok-next.ensures.safe c.in_ok-next.ensures.last c.in_ok-next.ensures.steps

pub returns-in-TooMany : goal.returns-in-TooMany
returns-in-TooMany g c = λ rules answers zeros_are same.
    let walks = c.args.walks in
    let before = c.loop-made.side in
    let after = c.make_step.new.side in
    many_verdict
    (terms_of (ruling_of walks.book.now.table walks.known) walks.marked.now.regions.items walks.cut.now.skip walks.budget walks.turns)
    (task_of (image_picture walks.image.now) walks.public.now walks.marked.now.regions.items
    (cut_picture walks.cut.now)) c.requires.budget refl
    ((walks.zeros.now ≡ zeros walks.cut.now.secret_len) × SameAhead walks.table.now walks.cut.now.points) c.args.limit
    c.loop-made.made c.loop-made.left c.loop-made.search c.make_step.new.search
    (tape_of (ruling_of before.book.now.table before.known) before.shadow before.masks before.bits before.crossed before.byte_masks.items
    before.status_mask before.unclear)
    (tape_of (ruling_of after.book.now.table after.known) after.shadow after.masks after.bits after.crossed after.byte_masks.items
    after.status_mask after.unclear) c.loop-made.invariant c.in_ok-next.field-0 c.string_of-path-in-TooMany.result
    c.in-TooMany.is c.in_ok-next.ensures.last c.in_ok-next.ensures.steps c.string_of-path-in-TooMany.ensures rules answers (zeros_are, same)

pub returns-in-Answered : goal.returns-in-Answered
returns-in-Answered g c = λ rules answers zeros_are same.
    let walks = c.args.walks in
    let before = c.loop-made.side in
    let after = c.make_step.new.side in
    unclear_verdict
    (terms_of (ruling_of walks.book.now.table walks.known) walks.marked.now.regions.items walks.cut.now.skip walks.budget walks.turns)
    (task_of (image_picture walks.image.now) walks.public.now walks.marked.now.regions.items
    (cut_picture walks.cut.now)) c.requires.budget refl
    ((walks.zeros.now ≡ zeros walks.cut.now.secret_len) × SameAhead walks.table.now walks.cut.now.points) c.args.limit
    c.loop-made.made c.loop-made.left c.loop-made.search c.make_step.new.search
    (tape_of (ruling_of before.book.now.table before.known) before.shadow before.masks before.bits before.crossed before.byte_masks.items
    before.status_mask before.unclear)
    (tape_of (ruling_of after.book.now.table after.known) after.shadow after.masks after.bits after.crossed after.byte_masks.items
    after.status_mask after.unclear) c.loop-made.invariant c.in_ok-next.field-0 c.string_of-path.result
    c.in-Answered.why c.in-Answered.is c.in_ok-next.ensures.steps c.string_of-path.ensures rules answers (zeros_are, same)
