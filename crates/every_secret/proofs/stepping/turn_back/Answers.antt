use Rattle.std.proofs.Common.{◌≡◌, ◌≤◌, ◌∷◌, ℕ, List, take, sym, ap, ◌∙◌, subst, arith}
use Rattle.std.specs.Prelude.{IfOk, IfSome, Ok, Err, Result, slice_get}
use Rattle.std.specs.List.{AllByRecursion}
use Rattle.every_secret.specs.declared.open_places.OpenPlace.{OpenPlace}
use Rattle.every_secret.specs.Paths.{Opens}
use Rattle.every_secret.specs.Private.Searching.{IsDeep, IsSearched, turned_at}
use Rattle.every_secret.specs.Private.Spots.{tree_in}
use Rattle.every_secret.specs.Private.Tapes.{Tape, ruling_of, tape_of}
use Rattle.every_secret.proofs.SteppedSearches.{deep_next, searched_next}
use Rattle.every_secret.proofs.stepping.turn_back.Goals as goal

if_ok : {A E : Type 0} (P Q : A → Type 0) (result : Result A E) → ((value : A) → P value → Q value) → IfOk result P →
    IfOk result Q
if_ok P Q (Ok value) more fact = more value fact
if_ok P Q (Err error) more fact = fact

first_kept : (opens now others : List OpenPlace) (first : OpenPlace) (turn keep : ℕ) → opens ≡ now →
    now ≡ first ∷ others → first.depth ≡ 0 →
    IfSome (slice_get opens 0) (λ first. first.depth ≤ turn → 1 ≤ keep) → 1 ≤ keep
first_kept opens now others first turn keep is begins zero some =
    subst (λ s. IfSome (slice_get s 0) (λ first. first.depth ≤ turn → 1 ≤ keep)) (is ∙ begins) some
    (omega (arith, zero))

pub close_behind-requires-clause-some : goal.close_behind-requires-clause-some
close_behind-requires-clause-some g c =
    let back = c.requires.back in
    first_kept c.as_slice.result.now c.args.search.now.opens.items back.others back.first c.args.turn
    c.open_until-keep.result c.as_slice.ensures.value back.begins back.at_start c.open_until-keep.ensures.first

deep_taken : (turn keep : ℕ) (opens now next : List OpenPlace) → opens ≡ now → next ≡ take keep now →
    AllByRecursion (IsDeep turn) (take keep opens) → AllByRecursion (IsDeep turn) next
deep_taken turn keep opens now next is taken all =
    subst (λ s. AllByRecursion (IsDeep turn) s) (ap (λ s. take keep s) is ∙ sym taken) all

pub go_back-requires-clause-deep : goal.go_back-requires-clause-deep
go_back-requires-clause-deep g c =
    deep_next c.args.turn c.args.side.now.bits.bits c.in_ok-next.next.bits c.close_behind.new.search.opens.items
    c.requires.within c.in_ok-next.ensures.bits
    (deep_taken c.args.turn c.open_until-keep.result c.as_slice.result.now c.args.search.now.opens.items
    c.close_behind.new.search.opens.items c.as_slice.ensures.value c.in_ok-close_behind.ensures.opens
    c.open_until-keep.ensures.all)

pub returns-clause-walks : goal.returns-clause-walks
returns-clause-walks g c =
    let tape : Tape = tape_of (ruling_of c.args.side.now.book.now.table c.args.side.now.known) c.args.side.now.shadow c.args.side.now.masks
    c.args.side.now.bits c.args.side.now.crossed c.args.side.now.byte_masks.items c.args.side.now.status_mask
    c.args.side.now.unclear in
    let turn = c.args.turn in
    let same : c.in_ok-next.next.bits ≡ turned_at turn tape.stream.bits = c.in_ok-next.ensures.bits in
    let low : AllByRecursion (IsDeep turn) c.close_behind.new.search.opens.items =
    deep_taken turn c.open_until-keep.result c.as_slice.result.now c.args.search.now.opens.items
    c.close_behind.new.search.opens.items c.as_slice.ensures.value c.in_ok-close_behind.ensures.opens
    c.open_until-keep.ensures.all in
    if_ok _ _ c.go_back.result
    (λ left walks basis is_basis settles opens.
    walks basis is_basis
    (subst (λ s. IsSearched basis s c.close_behind.new.search) (sym same)
    (searched_next basis turn c.close_behind.new.search tape c.requires.within low
    (c.in_ok-close_behind.ensures.settles basis is_basis settles)))
    (subst (λ s. Opens (tree_in basis) s) (sym same) opens)) c.go_back.ensures.walks
