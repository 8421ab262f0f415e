use Rattle.std.proofs.Common.{◌≡◌, false, sym, ap, ◌∙◌, arith}
use Rattle.std.proofs.lemmas.Result.{err_from_is_err_and}
use Rattle.cut_file.specs.Fronts.{is_whole}
use Rattle.cut_file.specs.Pictures.{front_of, cut_picture}
use Rattle.cut_file.proofs.FileTexts.{fine}
use Rattle.cut_file.proofs.LineDrafts.{cut_off, ends_here, fails_here, goes_on_so, not_whole}
use Rattle.cut_file.proofs.reading.lines.Goals as goal

pub returns-in_err-longer-clause-err : goal.returns-in_err-longer-clause-err
returns-in_err-longer-clause-err c =
    let p = err_from_is_err_and c.from_residual.result c.from_residual.ensures.1 in
    rw (p.1, p.2) (λ free. sym c.loop-text.invariant.same
    ∙ fails_here c.loop-text.number (front_of c.loop-text.draft) c.in_err-longer.field-0.0 c.loop-text.rest.now
    c.in-Some.text.now c.in-Some.more.now (sym c.in-Some.ensures.halves) (c.in_err-longer.ensures.err free))

pub returns-in-Whole-clause-ok : goal.returns-in-Whole-clause-ok
returns-in-Whole-clause-ok c =
    sym c.loop-text.invariant.same
    ∙ ends_here c.loop-text.number (front_of c.loop-text.draft) (cut_picture c.in-Whole.cut) c.loop-text.rest.now
    c.in-Some.text.now c.in-Some.more.now (sym c.in-Some.ensures.halves)
    (c.in_ok-longer.ensures.ok ∙ ap (λ d. fine (front_of d)) c.in-Whole.is)

pub loop-text-preserved : goal.loop-text-preserved
loop-text-preserved c =
    let small = c.loop-text.invariant.small in
    let lengths = c.in-Some.ensures.lengths in
    let long = c.in_ok-longer.ensures.long in
    let goes_on : is_whole (front_of c.in_ok-longer.longer) ≡ false =
    not_whole c.in_ok-longer.longer c.in_default-2.not-Whole in
    record {
      small = omega (arith, small, lengths, long);
      ordered = c.in_ok-longer.ensures.front;
      same = sym (goes_on_so c.loop-text.number (front_of c.loop-text.draft) (front_of c.in_ok-longer.longer)
          c.loop-text.rest.now c.in-Some.text.now c.in-Some.more.now (sym c.in-Some.ensures.halves)
          c.in_ok-longer.ensures.ok goes_on) ∙ c.loop-text.invariant.same;
    }

pub returns-clause-err : goal.returns-clause-err
returns-clause-err c = λ _.
    sym c.loop-text.invariant.same
    ∙ cut_off c.loop-text.number (front_of c.loop-text.draft) c.loop-text.rest.now (sym c.in_default.ensures.halves)
