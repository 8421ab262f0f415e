use Rattle.std.proofs.Common.{◌≡◌, ◌≢◌, None, Some, sym, arith}
use Rattle.std.proofs.lemmas.Grind.{common_steps}
use Rattle.rv32im_asm.specs.Lines.{cut_at}
use Rattle.rv32im_asm.proofs.Commas.{two_none, two_last, more_than_two}
use Rattle.rv32im_asm.proofs.lines.two.Goals as goal

pub returns-in_err-first : goal.returns-in_err-first
returns-in_err-first c =
    let cut : cut_at 44 c.args.text.now ≡ None = grind (arith, common_steps) in
    grind (arith, common_steps, two_none c.args.text.now cut)

pub returns-in-Some : goal.returns-in-Some
returns-in-Some c =
    let cut : cut_at 44 c.args.text.now ≡ Some (c.in_ok-first.first.now, c.in_ok-first.second.now) = grind
    (arith, common_steps) in
    let more : cut_at 44 c.in_ok-first.second.now ≢ None = grind (arith, common_steps) in
    sym (more_than_two c.args.text.now c.in_ok-first.first.now c.in_ok-first.second.now cut more)

pub returns-in-None : goal.returns-in-None
returns-in-None c =
    let cut : cut_at 44 c.args.text.now ≡ Some (c.in_ok-first.first.now, c.in_ok-first.second.now) = grind
    (arith, common_steps) in
    let last : cut_at 44 c.in_ok-first.second.now ≡ None = grind (arith, common_steps) in
    rw (c.trimmed.ensures, c.trimmed-in-None.ensures)
    (sym (two_last c.args.text.now c.in_ok-first.first.now c.in_ok-first.second.now cut last))
