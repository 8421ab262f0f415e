use Rattle.std.proofs.Common.{◌≡◌, None, sym, ap, ◌∙◌, subst, arith}
use Rattle.lockstep_replay.specs.Tasks.{Limits}
use Rattle.every_secret.specs.Private.Searching.{terms_of}
use Rattle.every_secret.specs.Private.Tapes.{AreRulesOf, ruling_of, tape_of}
use Rattle.every_secret.specs.Private.Walks.{ending_after}
use Rattle.every_secret.proofs.EarlierPaths.{same_before}
use Rattle.every_secret.proofs.SearchTurns.{goes_back, goes_or_ends, none_within}
use Rattle.every_secret.proofs.WalkedPaths.{none_after}
use Rattle.every_secret.proofs.searching.make_one.Goals as goal

pub returns-clause-back : goal.returns-clause-back
returns-clause-back g c =
    let side = c.args.side.now in
    let new = c.make_turn.new.side in
    let walks = c.args.walks in
    goes_back
    (terms_of (ruling_of walks.book.now.table walks.known) walks.marked.now.regions.items walks.cut.now.skip walks.budget walks.turns)
    c.args.search.now c.make_turn.new.machine
    (tape_of (ruling_of side.book.now.table side.known) side.shadow side.masks side.bits side.crossed side.byte_masks.items side.status_mask
    side.unclear)
    (tape_of (ruling_of new.book.now.table new.known) new.shadow new.masks new.bits new.crossed new.byte_masks.items new.status_mask
    new.unclear) c.in_ok-outside.ensures.setting c.in_ok-outside.ensures.secret c.in_ok-outside.ensures.ruling
    c.in_ok-outside.ensures.base c.requires.safe.back

pub returns-clause-safe : goal.returns-clause-safe
returns-clause-safe g c = λ none.
    let side = c.args.side.now in
    let new = c.make_turn.new.side in
    let walks = c.args.walks in
    let limits : Limits = record { budget = walks.budget; turns = walks.turns } in
    let state = c.make_turn.new.machine in
    let outside = c.in_ok-outside.outside in
    let tape = tape_of (ruling_of new.book.now.table new.known) new.shadow new.masks new.bits new.crossed new.byte_masks.items new.status_mask
    new.unclear in
    let ends : ending_after outside tape.unclear state.control.mode walks.budget tape.crossed ≡ None =
    ap (λ mode. ending_after outside tape.unclear mode walks.budget tape.crossed) (sym c.mode-mode.ensures)
    ∙ (sym c.ended-ending.ensures ∙ none) in
    let fine = none_after outside tape.unclear state.control.mode walks.budget tape.crossed ends in
    record {
      back = goes_back
          (terms_of (ruling_of walks.book.now.table walks.known) walks.marked.now.regions.items walks.cut.now.skip walks.budget walks.turns)
          c.args.search.now state
          (tape_of (ruling_of side.book.now.table side.known) side.shadow side.masks side.bits side.crossed side.byte_masks.items
          side.status_mask side.unclear) tape c.in_ok-outside.ensures.setting c.in_ok-outside.ensures.secret
          c.in_ok-outside.ensures.ruling c.in_ok-outside.ensures.base c.requires.safe.back;
      ready = c.in_ok-outside.ensures.ready fine.0 fine.1;
      crossed = (none_within limits outside state tape ends).1;
      within = c.in_ok-outside.ensures.longer.within c.requires.safe.within;
    }

pub returns-clause-goes : goal.returns-clause-goes
returns-clause-goes g c = λ basis left is walking.
    let side = c.args.side.now in
    let new = c.make_turn.new.side in
    let walks = c.args.walks in
    let state = c.make_turn.new.machine in
    let outside = c.in_ok-outside.outside in
    let before = tape_of (ruling_of side.book.now.table side.known) side.shadow side.masks side.bits side.crossed side.byte_masks.items
    side.status_mask side.unclear in
    let after = tape_of (ruling_of new.book.now.table new.known) new.shadow new.masks new.bits new.crossed new.byte_masks.items
    new.status_mask new.unclear in
    let budget : basis.limits.budget ≡ walks.budget = ap (λ (l : Limits). l.budget) is.limits in
    let small = is.small in
    let enclosures : basis.task.enclosures
    ≡ record { regions = walks.marked.now.regions.items; skip = c.as_slice-skip.result.now } =
    is.enclosures
    ∙ ap (λ s. (record { regions = walks.marked.now.regions.items; skip = s })) (sym c.as_slice-skip.ensures) in
    let ends : ending_after outside after.unclear state.control.mode basis.limits.budget after.crossed
    ≡ c.ended-ending.result =
    ap (λ b. ending_after outside after.unclear state.control.mode b after.crossed) budget
    ∙ (ap (λ mode. ending_after outside after.unclear mode walks.budget after.crossed) (sym c.mode-mode.ensures)
    ∙ sym c.ended-ending.ensures) in
    goes_or_ends basis (omega (arith, budget, small)) c.args.search.now state before after outside
    c.in_ok-outside.ensures.setting c.in_ok-outside.ensures.secret c.in_ok-outside.ensures.longer
    c.requires.safe.within c.in_ok-outside.ensures.halts left walking
    (c.in_ok-outside.ensures.makes basis.rules basis.task walking.now
    (subst (λ t. AreRulesOf t basis.rules) (sym c.requires.safe.back.ruling) is.answers)
    enclosures walking.holds) c.ended-ending.result ends

pub returns-clause-early : goal.returns-clause-early
returns-clause-early g c = λ tree.
    same_before c.args.side.now.bits.bits c.make_turn.new.side.bits.bits c.in_ok-outside.ensures.longer.count
    c.in_ok-outside.ensures.longer.bits tree
