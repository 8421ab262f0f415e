-- The tables answer 0 for operands of which no bit may differ.
use Rattle.std.proofs.Common.{◌≡◌, ℕ, ◌+◌, ◌-◌, ◌*◌, ◌%◌, ◌^◌, ◌<◌, IsTrue, ◌||◌, refl, sym, ap, ap₂, ◌∙◌, subst, arith}
use Rattle.std.specs.Prelude.{bit_and, bit_or, bit_xor, nat_lt, nat_le, if◌then◌else◌}
use Rattle.std.specs.Int.Bits.{and_zero_l, or_zero_r, xor_self}
use Rattle.std.proofs.Math.Nat.{zero-div}
use Rattle.std.proofs.lemmas.Nat.{and_mask, xor_lt}
use Rattle.rv32im_decode.specs.declared.instructions.OpKind.TheVariants as op
use Rattle.rv32im_decode.specs.declared.instructions.OpKind.{OpKind}
use Rattle.transfer_rules.specs.declared.classes.Class.{Class}
use Rattle.transfer_rules.specs.declared.classes.Class.TheVariants.{Add, Sub, And, Or, Xor, Sll, Srl, Sra, Slt, Sltu}
use Rattle.transfer_rules.specs.declared.classes.Class.TheVariants.{Equal, Mul, Mulh, Mulhsu, Mulhu, Div, Divu, Rem, Remu}
use Rattle.transfer_rules.specs.declared.operands.Operands.{Operands}
use Rattle.transfer_rules.specs.Shifts3.{is_shift, shift_range}
use Rattle.transfer_rules.specs.Soundness.{AreWords}
use Rattle.transfer_rules.specs.Table1.{flipped, mask_by_table_1, sum_mask}
use Rattle.transfer_rules.specs.Table2.{greatest, least, lowest, mask_by_table_2, order_mask}
use Rattle.transfer_rules.specs.Table3.{mask_by_table_3}
use Rattle.transfer_rules.proofs.NoWider.{nowhere_wider}
use Rattle.transfer_rules.proofs.ShiftRanges.{range_fits}

-- the operands of an operation, of which no bit may differ
abbrev pub clean_operands : ℕ → ℕ → Operands
clean_operands first second = record { v1 = first; m1 = 0; v2 = second; m2 = 0 }

-- ---- table 1

no_times : (word : ℕ) → 0 * word % 2 ^ 32 ≡ 0
no_times word = let none : 0 * word ≡ 0 = omega arith in ap (λ n. n % 2 ^ 32) none

both_zero : (first second : ℕ) → bit_and (bit_and 0 first) second ≡ 0
both_zero first second = ap (λ n. bit_and n second) (and_zero_l first) ∙ and_zero_l second

pub clean_by_table_1 : (class : Class) (first second : ℕ) → mask_by_table_1 class (clean_operands first second) ≡ 0
clean_by_table_1 Add a b = refl
clean_by_table_1 Sub a b = refl
clean_by_table_1 And a b = both_zero (bit_or 0 a) (bit_or 0 b)
clean_by_table_1 Or a b = both_zero (bit_or 0 (flipped a)) (bit_or 0 (flipped b))
clean_by_table_1 Xor a b = refl
clean_by_table_1 Sll a b = no_times (2 ^ (b % 32))
clean_by_table_1 Srl a b = zero-div (2 ^ (b % 32))
clean_by_table_1 Sra a b = zero-div (2 ^ (b % 32))
clean_by_table_1 Slt a b = refl
clean_by_table_1 Sltu a b = refl
clean_by_table_1 Equal a b = refl
clean_by_table_1 Mul a b = refl
clean_by_table_1 Mulh a b = refl
clean_by_table_1 Mulhsu a b = refl
clean_by_table_1 Mulhu a b = refl
clean_by_table_1 Div a b = refl
clean_by_table_1 Divu a b = refl
clean_by_table_1 Rem a b = refl
clean_by_table_1 Remu a b = refl

-- ---- table 2

least_is : (value : ℕ) → value < 2 ^ 32 → least value 0 ≡ value
least_is value small = let low : least value 0 ≡ value % 2 ^ 32 = and_mask value 32 in omega (arith, low, small)

greatest_is : (value : ℕ) → greatest value 0 ≡ value
greatest_is value = or_zero_r value

abbrev order_of : ℕ → ℕ → ℕ
order_of a b = if nat_lt a b || nat_le b a then 0 else 1

no_order : (a b : ℕ) → order_of a b ≡ 0
no_order a b = grind arith

order_zero : (a b : ℕ) → a < 2 ^ 32 → b < 2 ^ 32 → order_mask (clean_operands a b) ≡ 0
order_zero a b p q = rw (greatest_is a, greatest_is b, least_is a p, least_is b q) (no_order a b)

sums_alike : (a b : ℕ) → a < 2 ^ 32 → b < 2 ^ 32 → mask_by_table_2 Add (clean_operands a b) ≡ 0
sums_alike a b p q =
    rw (greatest_is a, greatest_is b, least_is a p, least_is b q)
    (ap (λ n. bit_or 0 n) (xor_self ((a + b) % 2 ^ 32)))

differences_alike : (a b : ℕ) → a < 2 ^ 32 → b < 2 ^ 32 → mask_by_table_2 Sub (clean_operands a b) ≡ 0
differences_alike a b p q =
    rw (greatest_is a, greatest_is b, least_is a p, least_is b q)
    (ap (λ n. bit_or 0 n) (xor_self ((a + (2 ^ 32 - b)) % 2 ^ 32)))

no_product : (a b : ℕ) → mask_by_table_2 Mul (clean_operands a b) ≡ 0
no_product a b =
    ap₂ (λ m n. sum_mask (bit_or m n)) (no_times (lowest (greatest b 0))) (no_times (lowest (greatest a 0)))

pub clean_by_table_2 : (class : Class) (first second : ℕ) → first < 2 ^ 32 → second < 2 ^ 32 →
    mask_by_table_2 class (clean_operands first second) ≡ 0
clean_by_table_2 Add a b p q = sums_alike a b p q
clean_by_table_2 Sub a b p q = differences_alike a b p q
clean_by_table_2 Slt a b p q =
    order_zero (bit_xor a 2147483648) (bit_xor b 2147483648) (xor_lt 32 a 2147483648 p (omega arith))
    (xor_lt 32 b 2147483648 q (omega arith))
clean_by_table_2 Sltu a b p q = order_zero a b p q
clean_by_table_2 Equal a b p q = refl
clean_by_table_2 Mul a b p q = no_product a b
clean_by_table_2 And a b p q = clean_by_table_1 And a b
clean_by_table_2 Or a b p q = clean_by_table_1 Or a b
clean_by_table_2 Xor a b p q = refl
clean_by_table_2 Sll a b p q = clean_by_table_1 Sll a b
clean_by_table_2 Srl a b p q = clean_by_table_1 Srl a b
clean_by_table_2 Sra a b p q = clean_by_table_1 Sra a b
clean_by_table_2 Mulh a b p q = refl
clean_by_table_2 Mulhsu a b p q = refl
clean_by_table_2 Mulhu a b p q = refl
clean_by_table_2 Div a b p q = refl
clean_by_table_2 Divu a b p q = refl
clean_by_table_2 Rem a b p q = refl
clean_by_table_2 Remu a b p q = refl

-- ---- table 3

by_wider : (mask wider : ℕ) → mask < 2 ^ 32 → wider ≡ 0 → bit_and mask (flipped wider) ≡ 0 → mask ≡ 0
by_wider mask wider small none inside =
    let low : bit_and mask 4294967295 ≡ mask % 2 ^ 32 = and_mask mask 32 in
    let all : bit_and mask 4294967295 ≡ 0 = sym (ap (λ n. bit_and mask (flipped n)) none) ∙ inside in
    omega (arith, low, all, small)

shift_zero : (class : Class) (kind : OpKind) (a b : ℕ) → a < 2 ^ 32 → b < 2 ^ 32 → IsTrue (is_shift kind) →
    mask_by_table_3 class (clean_operands a b) ≡ shift_range (clean_operands a b) kind →
    mask_by_table_3 class (clean_operands a b) ≡ 0
shift_zero class kind a b p q is same =
    let o = clean_operands a b in
    let words : AreWords o = (p, omega arith, q, omega arith) in
    by_wider (mask_by_table_3 class o) (mask_by_table_2 class o)
    (subst (λ n. n < 2 ^ 32) (sym same) (range_fits o kind words is)) (clean_by_table_2 class a b p q)
    (nowhere_wider class o words)

pub clean_by_table_3 : (class : Class) (first second : ℕ) → first < 2 ^ 32 → second < 2 ^ 32 →
    mask_by_table_3 class (clean_operands first second) ≡ 0
clean_by_table_3 Sll a b p q = shift_zero Sll op.Sll a b p q refl refl
clean_by_table_3 Srl a b p q = shift_zero Srl op.Srl a b p q refl refl
clean_by_table_3 Sra a b p q = shift_zero Sra op.Sra a b p q refl refl
clean_by_table_3 Mul a b p q = refl
clean_by_table_3 Mulh a b p q = refl
clean_by_table_3 Mulhsu a b p q = refl
clean_by_table_3 Mulhu a b p q = refl
clean_by_table_3 Div a b p q = refl
clean_by_table_3 Divu a b p q = refl
clean_by_table_3 Rem a b p q = refl
clean_by_table_3 Remu a b p q = refl
clean_by_table_3 Add a b p q = clean_by_table_2 Add a b p q
clean_by_table_3 Sub a b p q = clean_by_table_2 Sub a b p q
clean_by_table_3 And a b p q = clean_by_table_1 And a b
clean_by_table_3 Or a b p q = clean_by_table_1 Or a b
clean_by_table_3 Xor a b p q = refl
clean_by_table_3 Slt a b p q = clean_by_table_2 Slt a b p q
clean_by_table_3 Sltu a b p q = clean_by_table_2 Sltu a b p q
clean_by_table_3 Equal a b p q = refl
