use Rattle.std.proofs.Common.{◌≡◌, ◌≤◌, ◌+◌, Bool, List, None, length, refl, sym, ap, arith, subst}
use Rattle.kept_states.specs.Keeping.{Keeps}
use Rattle.every_secret.specs.declared.open_places.OpenPlace.{OpenPlace}
use Rattle.every_secret.specs.Paths.{Opens}
use Rattle.every_secret.specs.Private.Searching.{IsDeep, IsSearched, NonePast, Terms, terms_of}
use Rattle.every_secret.specs.Private.Spots.{tree_in}
use Rattle.every_secret.specs.Private.Tapes.{Tape, ruling_of, tape_of}
use Rattle.every_secret.proofs.GoneBack.{LastOf, goes_on_back, last_of, of_last, small_budget, walks_back}
use Rattle.every_secret.proofs.stepping.go_back.Goals as goal

pub returns-clause-safe : goal.returns-clause-safe
returns-clause-safe g c =
    let walks = c.args.walks in
    let side = c.args.side.now in
    let search = c.args.search.now in
    let last : OpenPlace = c.in-Some.last.now in
    let machine = c.put_back.new.machine in
    let terms : Terms = terms_of (ruling_of walks.book.now.table walks.known) walks.marked.now.regions.items walks.cut.now.skip walks.budget
    walks.turns in
    let before : Tape = tape_of (ruling_of side.book.now.table side.known) side.shadow side.masks side.bits side.crossed side.byte_masks.items
    side.status_mask side.unclear in
    let tape : Tape = tape_of (ruling_of side.book.now.table side.known) c.put_back.new.self c.in_ok-masks.masks c.skip.new.bits last.crossed
    c.in_ok-masks.byte_masks.items c.status_mask-side.result None in
    let is_last : LastOf search.opens.items last = last_of search.opens.items c.deref.result.now last
    c.deref.ensures.value c.in-Some.ensures.item.3.0 (c.in-Some.ensures.item.3.1 last) in
    let keeps : Keeps search.pieces last.kept machine tape.shades tape.ahead tape.byte_masks tape.status_mask =
    subst (λ m. Keeps search.pieces last.kept machine tape.shades tape.ahead tape.byte_masks m)
    (sym c.status_mask-side.ensures) c.in_ok-masks.ensures.keeps in
    let low : last.depth ≤ length c.args.next.bits =
    of_last (IsDeep (length c.args.next.bits)) search.opens.items last is_last c.requires.deep in
    let long : length tape.stream.bits ≡ length c.args.next.bits = ap (λ (s : List Bool). length s) c.skip.ensures.bits in
    let taken : tape.stream.taken ≡ c.args.next.taken + last.depth = c.skip.ensures.taken in
    let zero_taken : c.args.next.taken ≡ 0 = c.requires.taken in
    goes_on_back search last machine tape keeps c.put_back.ensures.setting c.put_back.ensures.secret is_last refl refl terms
    before c.requires.back refl c.put_back.ensures.begins (omega (arith, low, long, taken, zero_taken))

pub returns-clause-walks : goal.returns-clause-walks
returns-clause-walks g c = λ basis is searched opens.
    let walks = c.args.walks in
    let side = c.args.side.now in
    let search = c.args.search.now in
    let last : OpenPlace = c.in-Some.last.now in
    let machine = c.put_back.new.machine in
    let terms : Terms = terms_of (ruling_of walks.book.now.table walks.known) walks.marked.now.regions.items walks.cut.now.skip walks.budget
    walks.turns in
    let tape : Tape = tape_of (ruling_of side.book.now.table side.known) c.put_back.new.self c.in_ok-masks.masks c.skip.new.bits last.crossed
    c.in_ok-masks.byte_masks.items c.status_mask-side.result None in
    let is_last : LastOf search.opens.items last = last_of search.opens.items c.deref.result.now last
    c.deref.ensures.value c.in-Some.ensures.item.3.0 (c.in-Some.ensures.item.3.1 last) in
    let keeps : Keeps search.pieces last.kept machine tape.shades tape.ahead tape.byte_masks tape.status_mask =
    subst (λ m. Keeps search.pieces last.kept machine tape.shades tape.ahead tape.byte_masks m)
    (sym c.status_mask-side.ensures) c.in_ok-masks.ensures.keeps in
    let none : NonePast tape.shades =
    record { registers = c.tell_registers.ensures.registers; kept = c.tell_registers.ensures.kept } in
    let taken : tape.stream.taken ≡ c.args.next.taken + last.depth = c.skip.ensures.taken in
    let zero_taken : c.args.next.taken ≡ 0 = c.requires.taken in
    let same : tape.stream.bits ≡ c.args.next.bits = c.skip.ensures.bits in
    walks_back search last machine tape keeps c.put_back.ensures.setting c.put_back.ensures.secret is_last refl refl basis
    (small_budget terms basis is) none (omega (arith, taken, zero_taken))
    (subst (λ s. IsSearched basis s search) (sym same) searched) (subst (λ s. Opens (tree_in basis) s) (sym same) opens)
