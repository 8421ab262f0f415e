use Rattle.std.proofs.Common.{arith, ◌≡◌, ◌∙◌, ◌+◌, length, ap, length-append}
use Rattle.flow_base.specs.Words.{bits_under}
use Rattle.crossing_bits.proofs.Places.{length_bits_under}
use Rattle.lockstep_replay.proofs.tallies.keep.Goals as goal

pub returns-then-so_far-budget-clause-kept : goal.returns-then-so_far-budget-clause-kept
returns-then-so_far-budget-clause-kept c =
    let longer : length c.push_fitting.new.bits.bits ≡ length c.args.bits.now.bits + length
    (bits_under c.args.value c.args.mask) =
    ap length c.push_fitting.ensures.pushed ∙ length-append c.args.bits.now.bits (bits_under c.args.value c.args.mask)
    in
    omega (arith, length_bits_under c.args.value c.args.mask)
