use Rattle.std.proofs.Common.{◌≡◌, ◌≤◌, length, min, option_map}
use Rattle.rv32im_asm.specs.Operands.{digits_after}
use Rattle.rv32im_asm.proofs.numbers.digits.Given as goal

abbrev pub decreases-loop-rest : goal.decreases-loop-rest
decreases-loop-rest l = length l.rest

abbrev pub invariant-loop-rest : goal.invariant-loop-rest
invariant-loop-rest l = (l.number ≤ 4294967296)
    × (option_map (min 4294967296) (digits_after l.base l.number l.rest)
    ≡ option_map (min 4294967296) (digits_after l.base 0 l.text))
