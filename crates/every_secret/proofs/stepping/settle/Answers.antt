use Rattle.std.proofs.Common.{◌≡◌, ◌≤◌, ◌<◌, ◌+◌, ℕ, List, Bool, Some, None, length, sym, ap, subst, arith}
use Rattle.every_secret.specs.Paths.{next_string}
use Rattle.every_secret.specs.Private.Orders.{earlier}
use Rattle.every_secret.specs.Private.Searching.{Terms, terms_of, turned_at}
use Rattle.every_secret.specs.Private.Spots.{tree_in}
use Rattle.every_secret.specs.Private.Tapes.{Tape, ruling_of, tape_of}
use Rattle.every_secret.proofs.SteppedSearches.{added_whole, all_done, is_next, settles_next}
use Rattle.every_secret.proofs.stepping.settle.Goals as goal

-- the next string, by bits that are read from another list
next_is : (place : ℕ) (read bits : List Bool) → read ≡ bits → Some (turned_at place read) ≡ next_string read →
    next_string bits ≡ Some (turned_at place bits)
next_is place read bits same is = subst (λ s. next_string s ≡ Some (turned_at place s)) same (sym is)

none_is : (read bits : List Bool) → read ≡ bits → None ≡ next_string read → next_string bits ≡ None
none_is read bits same is = subst (λ s. next_string s ≡ None) same (sym is)

pub returns-in-None-clause-steps : goal.returns-in-None-clause-steps
returns-in-None-clause-steps g c =
    let terms : Terms = terms_of (ruling_of c.args.walks.book.now.table c.args.walks.known) c.args.walks.marked.now.regions.items
    c.args.walks.cut.now.skip c.args.walks.budget c.args.walks.turns in
    let tape : Tape = tape_of (ruling_of c.args.side.now.book.now.table c.args.side.now.known) c.args.side.now.shadow c.args.side.now.masks
    c.args.side.now.bits c.args.side.now.crossed c.args.side.now.byte_masks.items c.args.side.now.status_mask
    c.args.side.now.unclear in
    let back = c.requires.back in
    λ basis is_basis added.
    all_done basis c.args.search.now tape back.first back.others back.begins added
    (added_whole terms basis c.args.search.now tape back added)
    (none_is c.as_slice.result.now tape.stream.bits c.as_slice.ensures c.in-None.ensures.next)

pub returns-in-Some-clause-steps : goal.returns-in-Some-clause-steps
returns-in-Some-clause-steps g c =
    let terms : Terms = terms_of (ruling_of c.args.walks.book.now.table c.args.walks.known) c.args.walks.marked.now.regions.items
    c.args.walks.cut.now.skip c.args.walks.budget c.args.walks.turns in
    let tape : Tape = tape_of (ruling_of c.args.side.now.book.now.table c.args.side.now.known) c.args.side.now.shadow c.args.side.now.masks
    c.args.side.now.bits c.args.side.now.crossed c.args.side.now.byte_masks.items c.args.side.now.status_mask
    c.args.side.now.unclear in
    let back = c.requires.back in
    let turn : ℕ = c.in-Some.field-0 in
    let is : next_string tape.stream.bits ≡ Some (turned_at turn tape.stream.bits) =
    next_is turn c.as_slice.result.now tape.stream.bits c.as_slice.ensures c.in-Some.ensures.next in
    λ basis is_basis added.
    let whole = added_whole terms basis c.args.search.now tape back added in
    let next = is_next (tree_in basis) added.tree tape.stream.bits (turned_at turn tape.stream.bits) back.first whole is in
    (whole.opens, next.fewer)

pub returns-in_ok-left-in-Some-2-clause-steps : goal.returns-in_ok-left-in-Some-2-clause-steps
returns-in_ok-left-in-Some-2-clause-steps g c =
    let terms : Terms = terms_of (ruling_of c.args.walks.book.now.table c.args.walks.known) c.args.walks.marked.now.regions.items
    c.args.walks.cut.now.skip c.args.walks.budget c.args.walks.turns in
    let tape : Tape = tape_of (ruling_of c.args.side.now.book.now.table c.args.side.now.known) c.args.side.now.shadow c.args.side.now.masks
    c.args.side.now.bits c.args.side.now.crossed c.args.side.now.byte_masks.items c.args.side.now.status_mask
    c.args.side.now.unclear in
    let back = c.requires.back in
    let turn : ℕ = c.in-Some.field-0 in
    let is : next_string tape.stream.bits ≡ Some (turned_at turn tape.stream.bits) =
    next_is turn c.as_slice.result.now tape.stream.bits c.as_slice.ensures c.in-Some.ensures.next in
    let long : length c.as_slice.result.now ≡ length tape.stream.bits =
    ap (λ (s : List Bool). length s) c.as_slice.ensures in
    let read : turn < length c.as_slice.result.now = c.in-Some.ensures.within in
    let within : turn < length tape.stream.bits = omega (arith, long, read) in
    let now : c.turn_back.new.side.bits.bits ≡ turned_at turn tape.stream.bits = c.in_ok-left-in-Some-2.ensures.bits in
    λ basis is_basis added.
    let whole = added_whole terms basis c.args.search.now tape back added in
    let next = is_next (tree_in basis) added.tree tape.stream.bits (turned_at turn tape.stream.bits) back.first whole is
    in (
      c.in_ok-left-in-Some-2.ensures.walks basis is_basis
          (settles_next basis c.args.search.now tape turn within is added next) next.opens,
      subst (λ s. length (earlier (tree_in basis) tape.stream.bits) + 1 ≤ length (earlier (tree_in basis) s)) (sym now)
          next.more,
    )
