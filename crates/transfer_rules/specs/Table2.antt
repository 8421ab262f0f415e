-- Table 2: narrower masks for six classes, from the least and the greatest word that an operand may be. The other
-- classes are as in table 1.
use Rattle.std.specs.Prelude.{ℕ, ◌+◌, ◌-◌, ◌*◌, ◌%◌, ◌^◌, ◌==◌, ◌||◌, nat_lt, nat_le, not, bit_and, bit_or, bit_xor}
use Rattle.std.specs.Prelude.{if◌then◌else◌}
use Rattle.transfer_rules.specs.declared.classes.Class.{Class}
use Rattle.transfer_rules.specs.declared.classes.Class.TheVariants.{Add, Sub, Slt, Sltu, Equal, Mul}
use Rattle.transfer_rules.specs.declared.operands.Operands.{Operands}
use Rattle.transfer_rules.specs.Table1.{either, flipped, mask_by_table_1, sum_mask}

-- the least word that an operand may be: its known ones, `value & !mask`
abbrev pub least : ℕ → ℕ → ℕ
least value mask = bit_and value (flipped mask)

-- the greatest word that an operand may be: its known ones and its secret bits
abbrev pub greatest : ℕ → ℕ → ℕ
greatest value mask = bit_or value mask

-- the lowest bit of a word: `word & (0 - word)`
abbrev pub lowest : ℕ → ℕ
lowest word = bit_and word ((2 ^ 32 - word) % 2 ^ 32)

-- the bits in which the least and the greatest sum differ, beside the secret bits
abbrev pub carry_mask : Operands → ℕ
carry_mask o =
    bit_or (either o) (bit_xor ((greatest o.v1 o.m1 + greatest o.v2 o.m2) % 2 ^ 32)
    ((least o.v1 o.m1 + least o.v2 o.m2) % 2 ^ 32))

-- the bits in which the least and the greatest difference differ, beside the secret bits
abbrev pub borrow_mask : Operands → ℕ
borrow_mask o =
    bit_or (either o) (bit_xor ((greatest o.v1 o.m1 + (2 ^ 32 - least o.v2 o.m2)) % 2 ^ 32)
    ((least o.v1 o.m1 + (2 ^ 32 - greatest o.v2 o.m2)) % 2 ^ 32))

-- no bit where every first word is less than every second, or none is less than any
abbrev pub order_mask : Operands → ℕ
order_mask o =
    if nat_lt (greatest o.v1 o.m1) (least o.v2 o.m2) || nat_le (greatest o.v2 o.m2) (least o.v1 o.m1) then 0 else 1

-- the operands with the top bit of both words turned, which orders signed words as unsigned ones
abbrev pub with_signs_turned : Operands → Operands
with_signs_turned o = record { v1 = bit_xor o.v1 2147483648; m1 = o.m1; v2 = bit_xor o.v2 2147483648; m2 = o.m2 }

-- no bit where no bit is secret, or a bit that is known of both words differs
abbrev pub equality_mask : Operands → ℕ
equality_mask o =
    if either o == 0 || not (bit_and (bit_xor o.v1 o.v2) (flipped (either o)) == 0) then 0 else 1

-- every bit from the lowest upwards in which two products may differ: a secret bit of one operand times a bit of the
-- other
abbrev pub product_mask : Operands → ℕ
product_mask o =
    sum_mask (bit_or (lowest o.m1 * lowest (greatest o.v2 o.m2) % 2 ^ 32)
    (lowest o.m2 * lowest (greatest o.v1 o.m1) % 2 ^ 32))

-- the mask of each class
abbrev pub mask_by_table_2 : Class → Operands → ℕ
mask_by_table_2 Add o = carry_mask o
mask_by_table_2 Sub o = borrow_mask o
mask_by_table_2 Slt o = order_mask (with_signs_turned o)
mask_by_table_2 Sltu o = order_mask o
mask_by_table_2 Equal o = equality_mask o
mask_by_table_2 Mul o = product_mask o
mask_by_table_2 other o = mask_by_table_1 other o
