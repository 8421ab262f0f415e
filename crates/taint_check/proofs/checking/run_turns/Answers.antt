use Rattle.std.proofs.Common.{◌≡◌, ◌<◌, ◌∙◌, ◌+◌, length, refl, ap, sym, subst, arith, add-one}
use Rattle.lockstep_replay.specs.Tasks.{Cross}
use Rattle.taint_check.specs.Cleared.{Cleared}
use Rattle.taint_check.specs.declared.whys.TaintWhy.TheVariants.{TurnLimit}
use Rattle.taint_check.specs.Tainted.{IsClean, IsUnclear, IsVerdict, exit_of}
use Rattle.taint_check.specs.Private.Tapes.{tape_of}
use Rattle.taint_check.proofs.RunVerdicts.{IsGoing, going_start, going-on, none_of, verdict-unclear, verdict-clean}
use Rattle.taint_check.proofs.RunVerdicts.{verdict_limit}
use Rattle.taint_check.proofs.checking.run_turns.Goals as goal

pub loop-init : goal.loop-init
loop-init g c =
    let side = c.args.side in record {
      ready = c.requires;
      table = refl;
      going = λ task limits secret begins.
          going_start side.book.now.table task limits secret c.args.machine
          (tape_of side.book.now.table side.shadow side.tally side.look side.left) c.args.marked.now.regions.items
          c.args.skip.now begins;
    }

pub returns-in-Some : goal.returns-in-Some
returns-in-Some g c = λ task limits secret begins limit same.
    let side = c.loop.side in
    let new = c.make_turn.new.side in
    let going = c.loop.invariant.going task limits secret begins in
    let below : c.loop.counter < limits.turns = subst (λ n. c.loop.counter < n) limit c.loop-test.true in
    subst (λ f. IsVerdict c.args.side.book.now.table task limits secret f) (sym c.unclear.ensures)
    (subst (λ t. IsVerdict t task limits secret (IsUnclear c.in-Some.why)) c.loop.invariant.table
    (verdict-unclear side.book.now.table task limits secret c.loop.counter c.loop.machine
    (tape_of side.book.now.table side.shadow side.tally side.look side.left) going c.make_turn.new.machine
    (tape_of new.book.now.table new.shadow new.tally new.look new.left) c.in_ok-why.field-0
    (c.in_ok-why.ensures.makes task limits (Cleared task secret going.answers) (Cross task secret (length going.answers))
    begins.enclosures going.stands) c.in-Some.why c.in-Some.is below same))

pub returns-in-Some-exit_status : goal.returns-in-Some-exit_status
returns-in-Some-exit_status g c = λ task limits secret begins limit same.
    let side = c.loop.side in
    let new = c.make_turn.new.side in
    let going = c.loop.invariant.going task limits secret begins in
    let below : c.loop.counter < limits.turns = subst (λ n. c.loop.counter < n) limit c.loop-test.true in
    let exits = sym (ap (λ mode. exit_of mode) c.mode.ensures) ∙ (sym c.exit_status.ensures ∙ c.in-Some-exit_status.is) in
    subst (λ f. IsVerdict c.args.side.book.now.table task limits secret f) (sym c.clean.ensures)
    (subst (λ t. IsVerdict t task limits secret (IsClean new.tally.bits.bits
    (record { bytes = c.make_turn.new.machine.control.output; status = c.in-Some-exit_status.status })))
    c.loop.invariant.table
    (verdict-clean side.book.now.table task limits secret c.loop.counter c.loop.machine
    (tape_of side.book.now.table side.shadow side.tally side.look side.left) going c.make_turn.new.machine
    (tape_of new.book.now.table new.shadow new.tally new.look new.left) c.in_ok-why.field-0
    (c.in_ok-why.ensures.makes task limits (Cleared task secret going.answers) (Cross task secret (length going.answers))
    begins.enclosures going.stands) c.in-Some-exit_status.status (none_of c.in_ok-why.field-0 c.in_default.not-Some) exits
    below same))

pub loop-preserved : goal.loop-preserved
loop-preserved g c =
    let side = c.loop.side in
    let new = c.make_turn.new.side in
    let fine = none_of c.in_ok-why.field-0 c.in_default.not-Some in
    let runs = sym (ap (λ mode. exit_of mode) c.mode.ensures)
    ∙ (sym c.exit_status.ensures ∙ none_of c.exit_status.result c.in_default-exit_status.not-Some) in
    record {
      ready = c.in_ok-why.ensures.ready fine;
      table = c.in_ok-why.ensures.table ∙ c.loop.invariant.table;
      going = λ task limits secret begins.
          let going = c.loop.invariant.going task limits secret begins in
          subst (λ t. IsGoing t task limits secret (c.loop.counter + 1) c.make_turn.new.machine
          (tape_of new.book.now.table new.shadow new.tally new.look new.left)) (sym c.in_ok-why.ensures.table)
          (subst (λ n. IsGoing side.book.now.table task limits secret n c.make_turn.new.machine
          (tape_of new.book.now.table new.shadow new.tally new.look new.left)) (sym (add-one c.loop.counter))
          (going-on side.book.now.table task limits secret c.loop.counter c.loop.machine
          (tape_of side.book.now.table side.shadow side.tally side.look side.left) going c.make_turn.new.machine
          (tape_of new.book.now.table new.shadow new.tally new.look new.left) c.in_ok-why.field-0
          (c.in_ok-why.ensures.makes task limits (Cleared task secret going.answers)
          (Cross task secret (length going.answers)) begins.enclosures going.stands) fine runs));
    }

pub returns : goal.returns
returns g c = λ task limits secret begins limit same.
    let side = c.loop.side in
    let all : c.loop.counter ≡ limits.turns = omega (arith, limit) in
    subst (λ f. IsVerdict c.args.side.book.now.table task limits secret f) (sym c.unclear-2.ensures)
    (subst (λ t. IsVerdict t task limits secret (IsUnclear (TurnLimit c.args.turns))) c.loop.invariant.table
    (verdict_limit side.book.now.table task limits secret c.loop.counter c.args.turns c.loop.machine
    (tape_of side.book.now.table side.shadow side.tally side.look side.left)
    (c.loop.invariant.going task limits secret begins) all limit same))
