use Rattle.std.proofs.Common.{◌≡◌, arith, sym}
use Rattle.std.proofs.lemmas.Grind.{common_steps}
use Rattle.std.specs.Fmt.{decimal}
use Rattle.command_line.proofs.DecimalWords.{number_high, number_kept, number_low}
use Rattle.command_line.proofs.numbers.number_of.Goals as goal
use Rattle.command_line.proofs.numbers.number_of.Goals.{then-number-lowest-via-then-number-lowest, then-number-lowest-via-else-number-lowest+then-number-highest}

pub returns-then-number-lowest-clause-is : goal.returns-then-number-lowest-clause-is
returns-then-number-lowest-clause-is c =
    let found : c.args.word.now ≡ decimal c.in-Some.number = grind (arith, common_steps, c.in-Some.is, c.in-Some.ensures.text, c.as_bytes.ensures.value) in
    elim c.then-number-lowest.branch [
      | then-number-lowest-via-then-number-lowest w ↦ sym (number_low c.args.lowest c.args.highest c.in-Some.number c.args.word.now (omega arith) found (omega (arith, w.if-number-lowest)))
      | then-number-lowest-via-else-number-lowest+then-number-highest w ↦ sym (number_high c.args.lowest c.args.highest c.in-Some.number c.args.word.now (omega arith) found (omega (arith, w.if-number-highest)))
    ]

pub returns-clause-is : goal.returns-clause-is
returns-clause-is c =
    let found : c.args.word.now ≡ decimal c.in-Some.number = grind (arith, common_steps, c.in-Some.is, c.in-Some.ensures.text, c.as_bytes.ensures.value) in
    sym (number_kept c.args.lowest c.args.highest c.in-Some.number c.args.word.now (omega arith) found
    (omega (arith, c.if-number-lowest.false)) (omega (arith, c.if-number-highest.false)))
