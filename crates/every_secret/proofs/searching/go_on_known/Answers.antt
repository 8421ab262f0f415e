use Rattle.std.proofs.Common.{◌≡◌, ◌+◌, ℕ, suc, arith, subst, sym}
use Rattle.every_secret.specs.Private.Searching.{GoesOrEnds, IsWalking, LooksUp}
use Rattle.every_secret.specs.Private.Tapes.{ruling_of, tape_of}
use Rattle.every_secret.proofs.searching.go_on_known.Goals as goal

one_more : (left : ℕ) → suc left ≡ left + 1
one_more left = omega arith

pub returns-in-Some-clause-goes : goal.returns-in-Some-clause-goes
returns-in-Some-clause-goes g c = λ basis is walking.
    let side = c.args.side.now in
    let tape = tape_of (ruling_of side.book.now.table side.known) side.shadow side.masks side.bits side.crossed side.byte_masks.items
    side.status_mask side.unclear in
    let here = subst (λ n. IsWalking basis n c.args.search.now tape) (one_more c.args.left) walking in
    subst (λ met. LooksUp basis (c.args.left + 1) met c.look_up.new.search tape) c.in-Some.is
    (c.in_ok-closed.ensures.looks basis is here)

pub returns-in-Some-2-clause-goes : goal.returns-in-Some-2-clause-goes
returns-in-Some-2-clause-goes g c = λ basis is walking.
    let side = c.args.side.now in
    let tape = tape_of (ruling_of side.book.now.table side.known) side.shadow side.masks side.bits side.crossed side.byte_masks.items
    side.status_mask side.unclear in
    let later = c.make_one.new.side in
    let here = subst (λ n. IsWalking basis n c.args.search.now tape) (one_more c.args.left) walking in
    let looked = subst (λ met. LooksUp basis (c.args.left + 1) met c.look_up.new.search tape) c.in_default.is
    (c.in_ok-closed.ensures.looks basis is here) in
    let goes = subst (λ n. IsWalking basis n c.look_up.new.search tape) (sym (one_more c.args.left)) looked in
    subst (λ ends. GoesOrEnds basis c.args.left ends c.make_one.new.search
    (tape_of (ruling_of later.book.now.table later.known) later.shadow later.masks later.bits later.crossed later.byte_masks.items
    later.status_mask later.unclear)) c.in-Some-2.is (c.in_ok-ending.ensures.goes basis c.args.left is goes)

pub returns-clause-goes : goal.returns-clause-goes
returns-clause-goes g c = λ basis is walking.
    let side = c.args.side.now in
    let tape = tape_of (ruling_of side.book.now.table side.known) side.shadow side.masks side.bits side.crossed side.byte_masks.items
    side.status_mask side.unclear in
    let later = c.make_one.new.side in
    let here = subst (λ n. IsWalking basis n c.args.search.now tape) (one_more c.args.left) walking in
    let looked = subst (λ met. LooksUp basis (c.args.left + 1) met c.look_up.new.search tape) c.in_default.is
    (c.in_ok-closed.ensures.looks basis is here) in
    let goes = subst (λ n. IsWalking basis n c.look_up.new.search tape) (sym (one_more c.args.left)) looked in
    c.forget_idle.ensures.goes basis c.args.left
    (subst (λ ends. GoesOrEnds basis c.args.left ends c.make_one.new.search
    (tape_of (ruling_of later.book.now.table later.known) later.shadow later.masks later.bits later.crossed later.byte_masks.items
    later.status_mask later.unclear)) c.in_default-2.is (c.in_ok-ending.ensures.goes basis c.args.left is goes))
