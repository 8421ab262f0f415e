use Rattle.std.proofs.Common.{◌≡◌, ◌≤◌, ◌<◌, ◌+◌, ◌-◌, ℕ, suc, arith, subst, ◌∙◌}
use Rattle.every_secret.specs.Private.Searching.{GoesOrComes, GoesOrEnds, IsWalking}
use Rattle.every_secret.specs.Private.Tapes.{ruling_of, tape_of}
use Rattle.every_secret.proofs.searching.walk_on.Goals as goal

one_left : (left made : ℕ) → made < left → left - made ≡ suc (left - made - 1)
one_left left made less = omega (arith, less)

one_made : (left made : ℕ) → left - made - 1 ≡ left - (made + 1)
one_made left made = omega arith

none_left : (left made : ℕ) → left ≤ made → left - made ≡ 0
none_left left made all = omega (arith, all)

pub returns-in-Some-clause-comes : goal.returns-in-Some-clause-comes
returns-in-Some-clause-comes g c = λ basis is walking.
    let side = c.loop-made.side in
    let later = c.go_on_known.new.side in
    let less = c.loop-made-test.true in
    let now = subst (λ n. IsWalking basis n c.loop-made.search
    (tape_of (ruling_of side.book.now.table side.known) side.shadow side.masks side.bits side.crossed side.byte_masks.items
    side.status_mask side.unclear)) (one_left c.args.left c.loop-made.made (omega (arith, less)))
    (c.loop-made.invariant.walks basis is walking) in
    subst (λ came. GoesOrComes basis (c.args.left - c.loop-made.made - 1) came c.go_on_known.new.search (tape_of (ruling_of later.book.now.table later.known)
    later.shadow later.masks later.bits later.crossed later.byte_masks.items later.status_mask later.unclear))
    c.in-Some.is (c.in_ok-came.ensures.goes basis is now)

pub returns-in-Some-2-clause-comes : goal.returns-in-Some-2-clause-comes
returns-in-Some-2-clause-comes g c = λ basis is walking.
    let side = c.loop-made.side in
    let later = c.make_one.new.side in
    let less = c.loop-made-test.true in
    let now = subst (λ n. IsWalking basis n c.loop-made.search
    (tape_of (ruling_of side.book.now.table side.known) side.shadow side.masks side.bits side.crossed side.byte_masks.items
    side.status_mask side.unclear)) (one_left c.args.left c.loop-made.made (omega (arith, less)))
    (c.loop-made.invariant.walks basis is walking) in
    subst (λ ends. GoesOrEnds basis (c.args.left - c.loop-made.made - 1) ends c.make_one.new.search (tape_of (ruling_of later.book.now.table later.known)
    later.shadow later.masks later.bits later.crossed later.byte_masks.items later.status_mask later.unclear))
    c.in-Some-2.is (c.in_ok-ending.ensures.goes basis (c.args.left - c.loop-made.made - 1) is now)

pub loop-made-preserved-then-is_looked_up : goal.loop-made-preserved-then-is_looked_up
loop-made-preserved-then-is_looked_up g c = record {
  safe = c.in_ok-came.ensures.safe c.in_default.is;
  early = λ tree. c.in_ok-came.ensures.early tree ∙ c.loop-made.invariant.early tree;
  walks = λ basis is walking.
      let side = c.loop-made.side in
      let later = c.go_on_known.new.side in
      let less = c.loop-made-test.true in
      let now = subst (λ n. IsWalking basis n c.loop-made.search
      (tape_of (ruling_of side.book.now.table side.known) side.shadow side.masks side.bits side.crossed side.byte_masks.items
      side.status_mask side.unclear)) (one_left c.args.left c.loop-made.made (omega (arith, less)))
      (c.loop-made.invariant.walks basis is walking) in
      subst (λ n. IsWalking basis n c.go_on_known.new.search (tape_of (ruling_of later.book.now.table later.known)
      later.shadow later.masks later.bits later.crossed later.byte_masks.items later.status_mask later.unclear))
      (one_made c.args.left c.loop-made.made)
      (subst (λ came. GoesOrComes basis (c.args.left - c.loop-made.made - 1) came c.go_on_known.new.search (tape_of (ruling_of later.book.now.table later.known)
      later.shadow later.masks later.bits later.crossed later.byte_masks.items later.status_mask later.unclear))
      c.in_default.is (c.in_ok-came.ensures.goes basis is now));
}

pub loop-made-preserved : goal.loop-made-preserved
loop-made-preserved g c = record {
  safe = c.in_ok-ending.ensures.safe c.in_default-2.is;
  early = λ tree. c.in_ok-ending.ensures.early tree ∙ c.loop-made.invariant.early tree;
  walks = λ basis is walking.
      let side = c.loop-made.side in
      let later = c.make_one.new.side in
      let less = c.loop-made-test.true in
      let now = subst (λ n. IsWalking basis n c.loop-made.search
      (tape_of (ruling_of side.book.now.table side.known) side.shadow side.masks side.bits side.crossed side.byte_masks.items
      side.status_mask side.unclear)) (one_left c.args.left c.loop-made.made (omega (arith, less)))
      (c.loop-made.invariant.walks basis is walking) in
      subst (λ n. IsWalking basis n c.make_one.new.search (tape_of (ruling_of later.book.now.table later.known)
      later.shadow later.masks later.bits later.crossed later.byte_masks.items later.status_mask later.unclear))
      (one_made c.args.left c.loop-made.made)
      (subst (λ came. GoesOrEnds basis (c.args.left - c.loop-made.made - 1) came c.make_one.new.search (tape_of (ruling_of later.book.now.table later.known)
      later.shadow later.masks later.bits later.crossed later.byte_masks.items later.status_mask later.unclear))
      c.in_default-2.is (c.in_ok-ending.ensures.goes basis (c.args.left - c.loop-made.made - 1) is now));
}

pub returns-clause-comes : goal.returns-clause-comes
returns-clause-comes g c = λ basis is walking.
    let side = c.loop-made.side in
    let all = c.loop-made-test.false in
    c.late.ensures.comes basis is (subst (λ n. IsWalking basis n c.loop-made.search
    (tape_of (ruling_of side.book.now.table side.known) side.shadow side.masks side.bits side.crossed side.byte_masks.items side.status_mask
    side.unclear)) (none_left c.args.left c.loop-made.made (omega (arith, all)))
    (c.loop-made.invariant.walks basis is walking))
