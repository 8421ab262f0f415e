use Rattle.std.proofs.Common.{◌≡◌, ◌≢◌, None, Some, sym, arith}
use Rattle.std.proofs.lemmas.Grind.{common_steps}
use Rattle.rv32im_asm.specs.Lines.{cut_at}
use Rattle.rv32im_asm.proofs.Commas.{three_none, three_two, three_last, more_than_three}
use Rattle.rv32im_asm.proofs.lines.three.Goals as goal

pub returns-in_err-first : goal.returns-in_err-first
returns-in_err-first c =
    let cut : cut_at 44 c.args.text.now ≡ None = grind (arith, common_steps) in
    grind (arith, common_steps, three_none c.args.text.now cut)

pub returns-in_err-second : goal.returns-in_err-second
returns-in_err-second c =
    let cut : cut_at 44 c.args.text.now ≡ Some (c.in_ok-first.first.now, c.in_ok-first.rest.now) = grind
    (arith, common_steps) in
    let last : cut_at 44 c.in_ok-first.rest.now ≡ None = grind (arith, common_steps) in
    grind (arith, common_steps, three_two c.args.text.now c.in_ok-first.first.now c.in_ok-first.rest.now cut last)

pub returns-in-Some : goal.returns-in-Some
returns-in-Some c =
    let cut : cut_at 44 c.args.text.now ≡ Some (c.in_ok-first.first.now, c.in_ok-first.rest.now) = grind
    (arith, common_steps) in
    let next : cut_at 44 c.in_ok-first.rest.now ≡ Some (c.in_ok-second.second.now, c.in_ok-second.third.now) =
    grind (arith, common_steps) in
    let more : cut_at 44 c.in_ok-second.third.now ≢ None = grind (arith, common_steps) in
    sym (more_than_three c.args.text.now c.in_ok-first.first.now c.in_ok-first.rest.now c.in_ok-second.second.now
    c.in_ok-second.third.now cut next more)

pub returns-in-None : goal.returns-in-None
returns-in-None c =
    let cut : cut_at 44 c.args.text.now ≡ Some (c.in_ok-first.first.now, c.in_ok-first.rest.now) = grind
    (arith, common_steps) in
    let next : cut_at 44 c.in_ok-first.rest.now ≡ Some (c.in_ok-second.second.now, c.in_ok-second.third.now) =
    grind (arith, common_steps) in
    let last : cut_at 44 c.in_ok-second.third.now ≡ None = grind (arith, common_steps) in
    rw (c.trimmed.ensures, c.trimmed-in-None.ensures, c.trimmed-in-None-2.ensures)
    (sym (three_last c.args.text.now c.in_ok-first.first.now c.in_ok-first.rest.now c.in_ok-second.second.now
    c.in_ok-second.third.now cut next last))
