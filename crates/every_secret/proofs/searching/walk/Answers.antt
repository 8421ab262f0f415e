use Rattle.std.proofs.Common.{◌≡◌, ◌≤◌, ◌-◌, ℕ, suc, arith, subst, ◌∙◌}
use Rattle.std.proofs.lemmas.Result.{IfOk-weaker}
use Rattle.every_secret.specs.Private.Orders.{SameBefore}
use Rattle.every_secret.specs.Private.Searching.{GoesOrEnds, IsCome, IsBasis, IsWalking, terms_of}
use Rattle.every_secret.specs.Private.Spots.{Basis}
use Rattle.every_secret.specs.Private.Tapes.{Tape, ruling_of, tape_of}
use Rattle.every_secret.proofs.searching.walk.Goals as goal

one_left : (left : ℕ) → 1 ≤ left → left ≡ suc (left - 1)
one_left left some = omega (arith, some)

pub returns-in-Some-clause-comes : goal.returns-in-Some-clause-comes
returns-in-Some-clause-comes g c = λ basis is walking.
    let side = c.args.side.now in
    let later = c.make_one.new.side in
    let some = c.if-left-eq0.false in
    let now = subst (λ n. IsWalking basis n c.args.search.now
    (tape_of (ruling_of side.book.now.table side.known) side.shadow side.masks side.bits side.crossed side.byte_masks.items side.status_mask
    side.unclear)) (one_left c.args.left (omega (arith, some))) walking in
    subst (λ ends. GoesOrEnds basis (c.args.left - 1) ends c.make_one.new.search
    (tape_of (ruling_of later.book.now.table later.known) later.shadow later.masks later.bits later.crossed later.byte_masks.items
    later.status_mask later.unclear)) c.in-Some.is (c.in_ok-ending.ensures.goes basis (c.args.left - 1) is now)

pub returns-clause-comes : goal.returns-clause-comes
returns-clause-comes g c =
    let walks = c.args.walks in
    let terms = terms_of (ruling_of walks.book.now.table walks.known) walks.marked.now.regions.items walks.cut.now.skip walks.budget walks.turns in
    let side = c.args.side.now in
    let tape : Tape = tape_of (ruling_of side.book.now.table side.known) side.shadow side.masks side.bits side.crossed side.byte_masks.items
    side.status_mask side.unclear in
    let made = c.make_one.new.side in
    let next : Tape = tape_of (ruling_of made.book.now.table made.known) made.shadow made.masks made.bits made.crossed made.byte_masks.items
    made.status_mask made.unclear in
    let later = c.walk_on.new.side in
    let last : Tape = tape_of (ruling_of later.book.now.table later.known) later.shadow later.masks later.bits later.crossed later.byte_masks.items
    later.status_mask later.unclear in
    let some = c.if-left-eq0.false in
    IfOk-weaker c.walk_on.result
    (λ came. (basis : Basis) → IsBasis terms basis →
    IsWalking basis (c.args.left - 1) c.make_one.new.search next → IsCome basis came c.walk_on.new.search last)
    (λ came. (basis : Basis) → IsBasis terms basis → IsWalking basis c.args.left c.args.search.now tape →
    IsCome basis came c.walk_on.new.search last)
    (λ came comes. λ basis is walking.
    comes basis is (subst (λ ends. GoesOrEnds basis (c.args.left - 1) ends c.make_one.new.search next)
    c.in_default.is (c.in_ok-ending.ensures.goes basis (c.args.left - 1) is
    (subst (λ n. IsWalking basis n c.args.search.now tape) (one_left c.args.left (omega (arith, some))) walking))))
    c.walk_on.ensures.comes

pub returns-clause-early : goal.returns-clause-early
returns-clause-early g c =
    IfOk-weaker c.walk_on.result (λ came. SameBefore c.walk_on.new.side.bits.bits c.make_one.new.side.bits.bits)
    (λ came. SameBefore c.walk_on.new.side.bits.bits c.args.side.now.bits.bits)
    (λ came early tree. early tree ∙ c.in_ok-ending.ensures.early tree) c.walk_on.ensures.early
