-- Table 1: for each class of operations the mask of the result, from the operands and their masks. A bit of an operand
-- is secret where its mask has a 1.
use Rattle.std.specs.Prelude.{ℕ, ◌-◌, ◌%◌, ◌^◌, ◌==◌, bit_and, bit_or, if◌then◌else◌}
use Rattle.rv32im_decode.specs.declared.instructions.OpKind.{OpKind}
use Rattle.rv32im_decode.specs.declared.instructions.OpKind.TheVariants as op
use Rattle.rv32im_decode.specs.Operations.{op_result}
use Rattle.transfer_rules.specs.declared.classes.Class.{Class}
use Rattle.transfer_rules.specs.declared.classes.Class.TheVariants.{Add, Sub, And, Or, Xor, Sll, Srl, Sra, Slt, Sltu}
use Rattle.transfer_rules.specs.declared.classes.Class.TheVariants.{Equal, Mul, Mulh, Mulhsu, Mulhu, Div, Divu, Rem, Remu}
use Rattle.transfer_rules.specs.declared.operands.Operands.{Operands}

-- the bits that are secret in one of the operands
abbrev pub either : Operands → ℕ
either operands = bit_or operands.m1 operands.m2

-- every bit from the lowest secret bit upwards: `secret | (0 - secret)`
abbrev pub sum_mask : ℕ → ℕ
sum_mask secret = bit_or secret ((2 ^ 32 - secret) % 2 ^ 32)

-- all bits where any bit is secret
abbrev pub all_mask : ℕ → ℕ
all_mask secret = if secret == 0 then 0 else 4294967295

-- the lowest bit where any bit is secret
abbrev pub one_mask : ℕ → ℕ
one_mask secret = if secret == 0 then 0 else 1

-- a word with each bit turned
abbrev pub flipped : ℕ → ℕ
flipped word = 4294967295 - word

-- the mask of a shift: the first mask shifted in the same way; all bits where one of the low 5 bits of the second
-- operand, which are the number of places, is secret
abbrev pub shift_mask : Operands → OpKind → ℕ
shift_mask operands shift =
    if operands.m2 % 32 == 0 then op_result shift operands.m1 operands.v2 else 4294967295

-- the mask of each class
abbrev pub mask_by_table_1 : Class → Operands → ℕ
mask_by_table_1 Add o = sum_mask (either o)
mask_by_table_1 Sub o = sum_mask (either o)
mask_by_table_1 And o = bit_and (bit_and (either o) (bit_or o.m1 o.v1)) (bit_or o.m2 o.v2)
mask_by_table_1 Or o = bit_and (bit_and (either o) (bit_or o.m1 (flipped o.v1))) (bit_or o.m2 (flipped o.v2))
mask_by_table_1 Xor o = either o
mask_by_table_1 Sll o = shift_mask o op.Sll
mask_by_table_1 Srl o = shift_mask o op.Srl
mask_by_table_1 Sra o = shift_mask o op.Sra
mask_by_table_1 Slt o = one_mask (either o)
mask_by_table_1 Sltu o = one_mask (either o)
mask_by_table_1 Equal o = one_mask (either o)
mask_by_table_1 Mul o = sum_mask (either o)
mask_by_table_1 Mulh o = all_mask (either o)
mask_by_table_1 Mulhsu o = all_mask (either o)
mask_by_table_1 Mulhu o = all_mask (either o)
mask_by_table_1 Div o = all_mask (either o)
mask_by_table_1 Divu o = all_mask (either o)
mask_by_table_1 Rem o = all_mask (either o)
mask_by_table_1 Remu o = all_mask (either o)
