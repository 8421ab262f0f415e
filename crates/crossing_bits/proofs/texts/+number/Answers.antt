use Rattle.std.proofs.Common.{sym}
use Rattle.crossing_bits.proofs.Places.{number_read, number_empty}
use Rattle.crossing_bits.proofs.texts.+number.Goals as goal

pub returns-in-empty-clause-value : goal.returns-in-empty-clause-value
returns-in-empty-clause-value t c = sym (number_empty c.args.bits.now c.in-empty.len_below)

pub returns-in-len1-up-clause-value : goal.returns-in-len1-up-clause-value
returns-in-len1-up-clause-value t c = rw (c.from.ensures, c.number.ensures.value) (number_read c.args.bits.now c.in-len1-up.len_at_least)
