use Rattle.std.proofs.Common.{List, Bool, length, length-append, ap, arith}
use Rattle.every_secret.proofs.FourBits.{count_four}
use Rattle.every_secret.proofs.bit_strings.with_bits.Goals as goal

pub push_masked-requires : goal.push_masked-requires
push_masked-requires c =
    let long = ap (λ (s : List Bool). length s) c.loop-part.invariant.bits in
    let both = length-append c.loop-part.string.bits c.loop-part.part.now in
    omega (arith, count_four, long, both, c.in-len4-up.len_at_least, c.requires, c.ranges.room.fits)
