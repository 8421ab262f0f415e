-- Table 3: narrower masks for products, quotients, remainders and shifts, from the least and the greatest word that
-- each operand, and so the result, may be. The other classes are as in table 2.
use Rattle.std.specs.Prelude.{ℕ, ◌-◌, ◌*◌, ◌/◌, ◌^◌, ◌≡◌, ◌==◌, nat_lt, min, bit_and, bit_xor, if◌then◌else◌}
use Rattle.std.specs.Int.{leading_zeros, w32}
use Rattle.rv32im_decode.specs.declared.instructions.OpKind.TheVariants as op
use Rattle.transfer_rules.specs.declared.classes.Class.{Class}
use Rattle.transfer_rules.specs.declared.classes.Class.TheVariants.{Sll, Srl, Sra, Mul, Mulh, Mulhsu, Mulhu, Div}
use Rattle.transfer_rules.specs.declared.classes.Class.TheVariants.{Divu, Rem, Remu}
use Rattle.transfer_rules.specs.declared.operands.Operands.{Operands}
use Rattle.transfer_rules.specs.declared.ranges.Bounds.{Bounds}
use Rattle.transfer_rules.specs.Shifts3.{shift_range}
use Rattle.transfer_rules.specs.Table1.{either, flipped}
use Rattle.transfer_rules.specs.Table2.{least, greatest, mask_by_table_2}

-- the least and the greatest word that an operand may be
abbrev pub bounds_of : ℕ → ℕ → Bounds
bounds_of value mask = record { low = least value mask; high = greatest value mask }

-- no bit where two words are equal, else every bit from the highest in which they differ downwards: two words between
-- them agree in all others
abbrev pub span : ℕ → ℕ → ℕ
span x y = if x == y then 0 else 4294967295 / 2 ^ leading_zeros w32 (bit_xor x y)

-- of a mask of products, where the greatest is a word, the bits in the span of the least and the greatest
abbrev pub product_range : ℕ → Bounds → Bounds → ℕ
product_range mask x y =
    if nat_lt (x.high * y.high) (2 ^ 32) then bit_and mask (span (x.low * y.low) (x.high * y.high)) else mask

-- the span of the upper words of the least and the greatest product
abbrev pub upper_range : Bounds → Bounds → ℕ
upper_range x y = span (x.low * y.low / 2 ^ 32) (x.high * y.high / 2 ^ 32)

-- the span of the least and the greatest quotient; all bits where the divisor may be 0
abbrev pub quotient_range : Bounds → Bounds → ℕ
quotient_range x y = if y.low == 0 then 4294967295 else span (x.low / y.high) (x.high / y.low)

-- the mask of the dividend where it is below every divisor, else the span of 0 and the greatest remainder; all bits
-- where the divisor may be 0
abbrev pub remainder_range : ℕ → Bounds → Bounds → ℕ
remainder_range mask x y =
    if y.low == 0 then 4294967295
    else (if nat_lt x.high y.low then mask else span 0 (min x.high (y.high - 1)))

-- a mask for words without a sign bit; all bits where the greatest has one
abbrev pub unless_signed : ℕ → ℕ → ℕ
unless_signed high mask = if nat_lt high 2147483648 then mask else 4294967295

-- no bit where no bit of the operands is secret
abbrev pub if_secret : Operands → (Bounds → Bounds → ℕ) → ℕ
if_secret o range = if either o == 0 then 0 else range (bounds_of o.v1 o.m1) (bounds_of o.v2 o.m2)

-- the mask of each class
abbrev pub mask_by_table_3 : Class → Operands → ℕ
mask_by_table_3 Mul o = if_secret o (product_range (mask_by_table_2 Mul o))
mask_by_table_3 Mulh o = if_secret o (λ x y. unless_signed x.high (unless_signed y.high (upper_range x y)))
mask_by_table_3 Mulhsu o = if_secret o (λ x y. unless_signed x.high (upper_range x y))
mask_by_table_3 Mulhu o = if_secret o upper_range
mask_by_table_3 Div o = if_secret o (λ x y. unless_signed x.high (unless_signed y.high (quotient_range x y)))
mask_by_table_3 Divu o = if_secret o quotient_range
mask_by_table_3 Rem o = if_secret o (λ x y. unless_signed x.high (unless_signed y.high (remainder_range o.m1 x y)))
mask_by_table_3 Remu o = if_secret o (remainder_range o.m1)
mask_by_table_3 Sll o = shift_range o op.Sll
mask_by_table_3 Srl o = shift_range o op.Srl
mask_by_table_3 Sra o = shift_range o op.Sra
mask_by_table_3 other o = mask_by_table_2 other o

-- table 3 has no bit that table 2 has not
abbrev pub IsNoWider : Class → Operands → Type 0
IsNoWider class o = bit_and (mask_by_table_3 class o) (flipped (mask_by_table_2 class o)) ≡ 0
