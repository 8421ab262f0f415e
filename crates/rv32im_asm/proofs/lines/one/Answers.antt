use Rattle.std.proofs.Common.{◌≡◌, ◌≢◌, [], None, Some, sym, arith}
use Rattle.std.proofs.lemmas.Grind.{common_steps}
use Rattle.rv32im_asm.specs.Lines.{cut_at}
use Rattle.rv32im_asm.proofs.Commas.{one_some, one_none}
use Rattle.rv32im_asm.proofs.lines.one.Goals as goal

pub returns-in-Some : goal.returns-in-Some
returns-in-Some c =
    let cut : cut_at 44 c.args.text.now ≡ Some (c.in-Some.field-0.0.now, c.in-Some.field-0.1.now) = grind
    (arith, common_steps) in
    sym (one_some c.args.text.now c.in-Some.field-0.0.now c.in-Some.field-0.1.now cut)

pub returns-in-None : goal.returns-in-None
returns-in-None c =
    let cut : cut_at 44 c.args.text.now ≡ None = grind (arith, common_steps) in
    let some : c.args.text.now ≢ [] = grind (arith, common_steps) in
    rw c.trimmed.ensures (sym (one_none c.args.text.now cut some))
