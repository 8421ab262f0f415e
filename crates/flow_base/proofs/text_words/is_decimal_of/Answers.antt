use Rattle.std.proofs.Common.{◌==◌, ◌∙◌, ap, arith}
use Rattle.flow_base.proofs.SlotTexts.{decimal_same}
use Rattle.flow_base.proofs.text_words.is_decimal_of.Goals as goal

pub returns-in-Some : goal.returns-in-Some
returns-in-Some c =
    ap (λ number. c.in-Some.found == number) c.from.ensures
    ∙ decimal_same c.args.number c.args.digits.now c.in-Some.found (omega (arith, c.ranges.number.fits)) (omega arith) c.in-Some.ensures.text
