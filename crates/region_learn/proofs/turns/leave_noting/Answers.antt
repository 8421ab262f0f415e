use Rattle.std.proofs.Common.{◌≡◌, ◌∙◌, ◌||◌, ℕ, List, ap, get_or, subst}
use Rattle.enclosure_regions.specs.Breaks.{has_changed}
use Rattle.region_machine.specs.Enclosures.{Leaves}
use Rattle.region_learn.specs.declared.notes.Notes.{Notes}
use Rattle.region_learn.specs.Private.Books.{NotesAfter}
use Rattle.region_learn.specs.Private.Marks.{has_bit}
use Rattle.region_learn.proofs.BookTurns.{book_after, leaves_of, left}
use Rattle.std.proofs.lemmas.List.{get_or_default}
use Rattle.region_learn.proofs.turns.leave_noting.Goals as goal

pub returns-clause-noted : goal.returns-clause-noted
returns-clause-noted c =
    let region = c.args.region.now in
    let state = c.args.machine.now in
    let book = c.args.book.now in
    let place = c.place_of-place.result in
    let before = get_or book place c.index-book-place.result in
    let after = c.note_leave.new.self in
    let old : before ≡ get_or book place after =
    get_or_default book place c.index-book-place.result after c.place_of-place.ensures.within in
    let number : before.region ≡ region.id = c.place_of-place.ensures.found c.index-book-place.result in
    book_after (Leaves region) state book place region.id after c.requires.own c.place_of-place.ensures.within
    c.place_of-place.ensures.found (leaves_of region)
    (subst (λ (n : Notes). NotesAfter (Leaves region) state n after) old
    (left region state before after number c.note_leave.ensures.written c.note_leave.ensures.bytes
    c.note_leave.ensures.region c.note_leave.ensures.base
    (λ register below. c.note_leave.ensures.changed register below
    ∙ (ap (λ (l : List ℕ). has_bit before.changed register || has_changed l c.registers.result.now register) c.kept.ensures
    ∙ ap (λ (l : List ℕ). has_bit before.changed register || has_changed state.store.kept l register) c.registers.ensures))))
