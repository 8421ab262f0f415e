use Rattle.std.proofs.Common.{◌≡◌, ◌++◌, ◌∙◌, ap, sym, arith}
use Rattle.std.proofs.lemmas.Grind.{common_steps}
use Rattle.std.specs.Fmt.{decimal}
use Rattle.std.specs.Str.{bytes_eq}
use Rattle.flow_base.specs.Points.{slot_text}
use Rattle.flow_base.proofs.SlotTexts.{after_different, after_same}
use Rattle.flow_base.proofs.text_words.is_text_of.Goals as goal

pub returns-in-Some-after : goal.returns-in-Some-after
returns-in-Some-after c =
    let text : slot_text c.args.slot ≡ c.as_bytes-in-Some.result.now ++ decimal c.in-Some.number =
    grind (arith, common_steps, c.parts-number.ensures.number, c.in-Some.is, c.as_bytes-in-Some.ensures.value) in
    c.is_decimal_of.ensures
    ∙ after_same c.as_bytes-in-Some.result.now c.args.word.now c.in-Some-after.digits.now (decimal c.in-Some.number) (sym c.in-Some-after.ensures)
    ∙ ap (bytes_eq c.args.word.now) (sym text)

pub returns-in-None-after : goal.returns-in-None-after
returns-in-None-after c =
    let text : slot_text c.args.slot ≡ c.as_bytes-in-Some.result.now ++ decimal c.in-Some.number =
    grind (arith, common_steps, c.parts-number.ensures.number, c.in-Some.is, c.as_bytes-in-Some.ensures.value) in
    after_different c.as_bytes-in-Some.result.now c.args.word.now (decimal c.in-Some.number) (sym c.in-None-after.ensures)
    ∙ ap (bytes_eq c.args.word.now) (sym text)
