use Rattle.std.proofs.Common.{◌≡◌, ◌∙◌, ◌+◌, ℕ, suc, None, Some, refl, sym, ap, subst, arith}
use Rattle.rv32im_machine.specs.declared.stepping.Stepped.TheVariants.{Exited, Stopped}
use Rattle.rv32im_machine.specs.State.{State}
use Rattle.region_machine.proofs.Stillness.{IsOver}
use Rattle.region_learn.specs.Private.Books.{BookOf}
use Rattle.region_learn.specs.LearnAnswers.{first_call}
use Rattle.region_learn.specs.Written.{state_after}
use Rattle.region_learn.proofs.RunEnds.{book_base, book_more, first_more, state_more, still_book}
use Rattle.region_learn.proofs.RunFaults.{call_fault, end_fault}
use Rattle.region_learn.proofs.runs.run.Goals as goal

pub loop-init : goal.loop-init
unfolding state_after first_call
loop-init c = record { state = refl; setting = refl; book = c.requires.book; quiet = refl; ran = c.requires.ran }

pub next_turn-requires-clause-base : goal.next_turn-requires-clause-base
unfolding state_after
next_turn-requires-clause-base c =
    book_base c.loop.book c.loop.machine.setting.base
    (λ place none below. (c.loop.invariant.book.each place none below).base
    ∙ ap (λ s. s.base) (sym c.loop.invariant.setting))

pub returns-in-Err-clause-fault : goal.returns-in-Err-clause-fault
returns-in-Err-clause-fault c = λ free.
    let n = c.loop.counter in
    call_fault c.args.marked.now.regions.items c.args.machine.now c.in-Err.fault (suc n) c.args.turns (omega arith)
    (first_more c.args.marked.now.regions.items c.args.machine.now c.loop.machine n (Some c.in-Err.fault)
    c.loop.invariant.state c.loop.invariant.quiet (c.in-Err.ensures.fault free))

pub returns-in-Exited-clause-exit : goal.returns-in-Exited-clause-exit
returns-in-Exited-clause-exit c =
    let regions = c.args.marked.now.regions.items in
    let start = c.args.machine.now in
    let n = c.loop.counter in
    let next : c.next_turn.new.machine ≡ state_after regions (suc n) start =
    state_more regions start c.loop.machine c.next_turn.new.machine n c.loop.invariant.state c.in-Ok.ensures.state in
    end_fault regions start (Exited c.in-Exited.field-0) (suc n) c.args.turns (omega arith)
    (first_more regions start c.loop.machine n None c.loop.invariant.state c.loop.invariant.quiet c.in-Ok.ensures.quiet)
    (ap (λ (s : State). s.control.mode) (sym next) ∙ (sym c.mode.ensures ∙ c.in-Exited.is)) tt

pub returns-in-Exited-clause-book : goal.returns-in-Exited-clause-book
returns-in-Exited-clause-book c =
    let regions = c.args.marked.now.regions.items in
    let start = c.args.machine.now in
    let n = c.loop.counter in
    let next : c.next_turn.new.machine ≡ state_after regions (suc n) start =
    state_more regions start c.loop.machine c.next_turn.new.machine n c.loop.invariant.state c.in-Ok.ensures.state in
    let mode : (state_after regions (suc n) start).control.mode ≡ Exited c.in-Exited.field-0 =
    ap (λ (s : State). s.control.mode) (sym next) ∙ (sym c.mode.ensures ∙ c.in-Exited.is) in
    still_book regions start (suc n) c.args.turns c.next_turn.new.book (omega arith) (subst IsOver (sym mode) tt)
    (book_more regions start c.loop.machine n c.loop.book c.next_turn.new.book c.loop.invariant.state
    c.loop.invariant.book c.in-Ok.ensures.noted)

pub returns-in-Stopped-clause-fault : goal.returns-in-Stopped-clause-fault
returns-in-Stopped-clause-fault c = λ free.
    let regions = c.args.marked.now.regions.items in
    let start = c.args.machine.now in
    let n = c.loop.counter in
    let next : c.next_turn.new.machine ≡ state_after regions (suc n) start =
    state_more regions start c.loop.machine c.next_turn.new.machine n c.loop.invariant.state c.in-Ok.ensures.state in
    end_fault regions start (Stopped c.in-Stopped.fault) (suc n) c.args.turns (omega arith)
    (first_more regions start c.loop.machine n None c.loop.invariant.state c.loop.invariant.quiet c.in-Ok.ensures.quiet)
    (ap (λ (s : State). s.control.mode) (sym next) ∙ (sym c.mode.ensures ∙ c.in-Stopped.is)) tt

pub loop-preserved : goal.loop-preserved
loop-preserved c =
    let regions = c.args.marked.now.regions.items in
    let start = c.args.machine.now in
    let n = c.loop.counter in
    let e : suc n ≡ n + 1 = omega arith in
    record {
      state =
          state_more regions start c.loop.machine c.next_turn.new.machine n c.loop.invariant.state c.in-Ok.ensures.state
          ∙ ap (λ (k : ℕ). state_after regions k start) e;
      setting = c.next_turn.ensures.setting ∙ c.loop.invariant.setting;
      book = subst (λ (k : ℕ). BookOf regions k start c.next_turn.new.book) e
          (book_more regions start c.loop.machine n c.loop.book c.next_turn.new.book c.loop.invariant.state
          c.loop.invariant.book c.in-Ok.ensures.noted);
      quiet = ap (λ (k : ℕ). first_call regions k start) (sym e)
          ∙ first_more regions start c.loop.machine n None c.loop.invariant.state c.loop.invariant.quiet
          c.in-Ok.ensures.quiet;
      ran = sym c.mode.ensures ∙ c.in-Ran.is;
    }
