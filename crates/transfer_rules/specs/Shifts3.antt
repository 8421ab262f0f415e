-- The mask of a shift from the least and the greatest word that the first operand may be, over all amounts that the
-- second may be. Only the low five bits of an amount matter.
use Rattle.std.specs.Prelude.{ℕ, zero, suc, ◌%◌, ◌==◌, Bool, true, false, bit_and, bit_or, bit_xor, if◌then◌else◌}
use Rattle.rv32im_decode.specs.declared.instructions.OpKind.{OpKind}
use Rattle.rv32im_decode.specs.declared.instructions.OpKind.TheVariants.{Sll, Srl, Sra}
use Rattle.rv32im_decode.specs.Operations.{op_result}
use Rattle.transfer_rules.specs.declared.operands.Operands.{Operands}
use Rattle.transfer_rules.specs.Table1.{flipped}
use Rattle.transfer_rules.specs.Table2.{least, greatest}

-- the three operations that shift
abbrev pub is_shift : OpKind → Bool
is_shift Sll = true
is_shift Srl = true
is_shift Sra = true
is_shift other = false

-- the second operand may be a shift by the amount: the low five bits of both agree outside the mask
abbrev pub may_shift_by : Operands → ℕ → Bool
may_shift_by o amount = bit_and (bit_xor amount o.v2) (flipped o.m2) % 32 == 0

-- the bits that are 1 in a word of one of the amounts below a bound that the second operand may be
unfoldable pub in_some : Operands → (ℕ → ℕ) → ℕ → ℕ
in_some o word_of zero = 0
in_some o word_of (suc amount) =
    if may_shift_by o amount then bit_or (in_some o word_of amount) (word_of amount) else in_some o word_of amount

-- the bits that are 1 in some greatest word shifted, and 0 in some least word shifted
abbrev pub shift_range : Operands → OpKind → ℕ
shift_range o shift =
    bit_and (in_some o (λ amount. op_result shift (greatest o.v1 o.m1) amount) 32)
    (in_some o (λ amount. flipped (op_result shift (least o.v1 o.m1) amount)) 32)
