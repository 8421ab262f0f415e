use Rattle.std.proofs.Common.{◌≡◌, Some, get_or, subst}
use Rattle.std.proofs.lemmas.List.{get_or_default}
use Rattle.region_machine.specs.Enclosures.{Steps}
use Rattle.region_learn.specs.declared.notes.Notes.{Notes}
use Rattle.region_learn.specs.Private.Books.{NotesAfter}
use Rattle.region_learn.proofs.BookTurns.{book_after, steps_of, stepped}
use Rattle.region_learn.proofs.turns.step_noting.Goals as goal

pub returns-in-Ok-clause-noted : goal.returns-in-Ok-clause-noted
returns-in-Ok-clause-noted c =
    let region = c.args.region.now in
    let state = c.args.machine.now in
    let book = c.args.book.now in
    let place = c.place_of-place.result in
    let before = get_or book place c.index-book-place.result in
    let after = c.turn_by.new.passer in
    let old : before ≡ get_or book place after =
    get_or_default book place c.index-book-place.result after c.place_of-place.ensures.within in
    let number : before.region ≡ region.id = c.place_of-place.ensures.found c.index-book-place.result in
    book_after (Steps (Some region)) state book place region.id after c.requires.own c.place_of-place.ensures.within
    c.place_of-place.ensures.found (steps_of region)
    (subst (λ (n : Notes). NotesAfter (Steps (Some region)) state n after) old
    (stepped region state c.turn_by.new.machine before after number c.in-Ok.ensures.plays))
