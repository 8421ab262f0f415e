use Rattle.std.proofs.Common.{◌≡◌, ◌∙◌, ◌+◌, ◌≤◌, true, ℕ, List, ap, map, subst, sym}
use Rattle.std.specs.List.{AllByRecursion}
use Rattle.rv32im_machine.specs.State.{State}
use Rattle.enclosure_regions.specs.Regions.{ids_of}
use Rattle.enclosure_regions.specs.declared.region_lists.Regions.{Regions}
use Rattle.enclosure_regions.specs.declared.region_parts.Region.{Region}
use Rattle.region_learn.specs.declared.notes.Notes.{Notes}
use Rattle.region_learn.specs.Private.Books.{BookOf, IsNew, are_bare, numbers_of}
use Rattle.region_learn.specs.LearnAnswers.{RefusesToLearn}
use Rattle.region_learn.specs.Written.{Run, bare}
use Rattle.region_learn.proofs.BareLists.{bare_none, bare_twice, base_room}
use Rattle.region_learn.proofs.FreshNotes.{new_book_of}
use Rattle.region_learn.proofs.learning.learn.Goals as goal

pub learn_from-requires-clause-bare : goal.learn_from-requires-clause-bare
learn_from-requires-clause-bare c =
    subst (λ (l : List Region). are_bare l ≡ true)
    (sym (ap (λ (r : Regions). r.items) c.in_ok-marked.ensures ∙ c.in_ok-bare.ensures))
    (bare_none c.args.regions.now.items)

pub learn_from-requires-clause-same : goal.learn_from-requires-clause-same
learn_from-requires-clause-same c =
    subst (λ (l : List Region). map bare l ≡ l)
    (sym (ap (λ (r : Regions). r.items) c.in_ok-marked.ensures ∙ c.in_ok-bare.ensures))
    (bare_twice c.args.regions.now.items)

pub learn_from-requires-clause-book : goal.learn_from-requires-clause-book
learn_from-requires-clause-book c =
    let regions = c.in_ok-marked.marked.regions.items in
    let book : c.as_mut_slice.result.now ≡ c.in_ok-new_book.field-0 =
    c.as_mut_slice.ensures.value ∙ c.into_vec-book.ensures in
    let low : c.args.image.now.base ≡ c.in_ok-machine.machine.setting.base =
    ap (λ (s : State). s.setting.base) (sym c.in_ok-machine.ensures.start) in
    let numbers : numbers_of c.in_ok-new_book.field-0 ≡ ids_of regions =
    c.in_ok-new_book.ensures.numbers
    ∙ ap ids_of (c.as_slice.ensures ∙ sym (ap (λ (r : Regions). r.items) c.in_ok-marked.ensures)) in
    subst (λ (l : List Notes). BookOf regions 0 c.in_ok-machine.machine l) (sym book)
    (new_book_of regions c.in_ok-machine.machine c.in_ok-new_book.field-0 numbers
    (subst (λ (n : ℕ). AllByRecursion (IsNew n) c.in_ok-new_book.field-0) low c.in_ok-new_book.ensures.fresh))

pub learn_from-requires-clause-room : goal.learn_from-requires-clause-room
learn_from-requires-clause-room c =
    subst (λ (s : State). s.setting.base + 16777216 ≤ 4294967295) (sym c.in_ok-machine.ensures.start)
    (base_room c.args.image.now.segments c.args.image.now.base c.args.image.now.is_based)

pub returns-clause-err : goal.returns-clause-err
returns-clause-err c = λ free.
    let same : ◌≡◌ {A = Run}
    (record { regions = c.in_ok-marked.marked.regions.items; start = c.in_ok-machine.machine; turns = c.args.turns })
    (record { regions = map bare c.args.regions.now.items; start = c.in_ok-machine.machine; turns = c.args.turns }) =
    ap (λ (l : List Region). record { regions = l; start = c.in_ok-machine.machine; turns = c.args.turns })
    (ap (λ (r : Regions). r.items) c.in_ok-marked.ensures ∙ c.in_ok-bare.ensures) in
    let refused = subst (λ (r : Run). RefusesToLearn r c.in-Err.fault) same (c.in-Err.ensures.err free) in
    subst (λ (s : State). RefusesToLearn (record { regions = map bare c.args.regions.now.items; start = s; turns = c.args.turns })
    c.in-Err.fault) c.in_ok-machine.ensures.start refused
