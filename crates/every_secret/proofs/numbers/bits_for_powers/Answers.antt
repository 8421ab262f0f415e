use Rattle.std.proofs.Common.{◌≤◌, ◌+◌, ◌-◌, ◌^◌, get_or, length, refl, rules}
use Rattle.every_secret.proofs.Ceilings.{adds_end, adds_few, adds_next}
use Rattle.every_secret.proofs.numbers.bits_for_powers.Goals as goal

pub overflow_add-units : goal.overflow_add-units
overflow_add-units c =
    let few : c.rounded_up-units.result + 1 ≤ length c.args.exponents.now =
    adds_few (2 ^ 70) c.args.exponents.now c.loop-rest.rest.now c.loop-rest.places c.loop-rest.units
    (get_or c.loop-rest.rest.now 0 0 - c.loop-rest.places) c.rounded_up-units.result c.in-len1-up.len_at_least
    c.loop-rest.invariant c.rounded_up-units.ensures in
    search rules

pub loop-rest-preserved : goal.loop-rest-preserved
loop-rest-preserved c =
    adds_next (2 ^ 70) c.args.exponents.now c.loop-rest.rest.now c.loop-rest.places c.loop-rest.units
    c.rounded_up-units.result (length c.loop-rest.rest.now - 1) refl c.in-len1-up.len_at_least c.loop-rest.invariant
    c.rounded_up-units.ensures

pub returns : goal.returns
returns c =
    adds_end (2 ^ 70) c.args.exponents.now c.loop-rest.rest.now c.loop-rest.places c.loop-rest.units c.bits_for.result
    c.in_default.len_below c.loop-rest.invariant c.bits_for.ensures.power
