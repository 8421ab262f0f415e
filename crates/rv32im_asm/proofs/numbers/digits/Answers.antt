use Rattle.std.proofs.Common.{◌≡◌, ◌∙◌, ◌+◌, ◌*◌, drop, min, option_map, arith}
use Rattle.std.proofs.lemmas.Grind.{common_steps}
use Rattle.rv32im_asm.specs.Operands.{digits_after}
use Rattle.rv32im_asm.proofs.Digits.{digits_bounded, bound}
use Rattle.rv32im_asm.proofs.numbers.digits.Goals as goal

pub loop-rest-preserved : goal.loop-rest-preserved
loop-rest-preserved c =
    let grown = c.loop-rest.number * c.args.base + c.from-digit.result in
    let same : option_map (min bound) (digits_after c.args.base c.min-number.result (drop 1 c.loop-rest.rest.now))
    ≡ option_map (min bound) (digits_after c.args.base grown (drop 1 c.loop-rest.rest.now)) =
    digits_bounded c.args.base c.requires.base_at_least (drop 1 c.loop-rest.rest.now) c.min-number.result grown
    (omega (arith, c.min-number.ensures)) in
    let all : option_map (min bound) (digits_after c.args.base grown (drop 1 c.loop-rest.rest.now))
    ≡ option_map (min bound) (digits_after c.args.base 0 c.args.text.now) = grind
    (arith, common_steps, c.loop-rest.invariant) in
    (omega (arith, c.min-number.ensures), grind (arith, common_steps, same ∙ all))
