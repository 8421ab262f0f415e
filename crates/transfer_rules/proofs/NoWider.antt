-- The mask of table 3 has no bit that the mask of table 2 has not.
use Rattle.std.proofs.Common.{◌≡◌, ℕ, zero, suc, Bool, true, false, ◌==◌, refl, ap, ◌∙◌, arith}
use Rattle.std.specs.Prelude.{bit_and, if◌then◌else◌}
use Rattle.std.specs.Int.Bits.{and_zero_l, and_zero_r}
use Rattle.std.proofs.lemmas.Nat.{and_assoc, and_comm}
use Rattle.rv32im_decode.specs.declared.instructions.OpKind.TheVariants as op
use Rattle.transfer_rules.specs.declared.classes.Class.{Class}
use Rattle.transfer_rules.specs.declared.classes.Class.TheVariants.{Add, Sub, And, Or, Xor, Sll, Srl, Sra, Slt, Sltu}
use Rattle.transfer_rules.specs.declared.classes.Class.TheVariants.{Equal, Mul, Mulh, Mulhsu, Mulhu, Div, Divu, Rem, Remu}
use Rattle.transfer_rules.specs.declared.operands.Operands.{Operands}
use Rattle.transfer_rules.specs.Soundness.{AreWords}
use Rattle.transfer_rules.specs.Table1.{all_mask, either, flipped}
use Rattle.transfer_rules.specs.Table2.{mask_by_table_2}
use Rattle.transfer_rules.specs.Table3.{IsNoWider}
use Rattle.transfer_rules.proofs.BitRules.{none_outside}
use Rattle.transfer_rules.proofs.ShiftRanges.{range_is_narrower}

part_outside : (mask part : ℕ) → bit_and (bit_and mask part) (flipped mask) ≡ 0
part_outside mask part =
    ap (λ n. bit_and n (flipped mask)) (and_comm mask part) ∙ and_assoc (flipped mask) part mask
    ∙ ap (bit_and part) (none_outside mask) ∙ and_zero_r part

by_either : (secret mask : ℕ) → bit_and (if secret == 0 then 0 else mask) (flipped (all_mask secret)) ≡ 0
by_either zero mask = and_zero_l (flipped 0)
by_either (suc secret) mask =
    let all : all_mask (suc secret) ≡ 4294967295 = grind arith in
    ap (λ n. bit_and (if suc secret == 0 then 0 else mask) (flipped n)) all
    ∙ and_zero_r (if suc secret == 0 then 0 else mask)

product_outside :
    (none small : Bool) (mask part : ℕ) →
    bit_and (if none then 0 else (if small then bit_and mask part else mask)) (flipped mask) ≡ 0
product_outside true small mask part = and_zero_l (flipped mask)
product_outside false true mask part = part_outside mask part
product_outside false false mask part = none_outside mask

pub nowhere_wider : (class : Class) (o : Operands) → AreWords o → IsNoWider class o
nowhere_wider Mul o words = product_outside (either o == 0) _ (mask_by_table_2 Mul o) _
nowhere_wider Mulh o words = by_either (either o) _
nowhere_wider Mulhsu o words = by_either (either o) _
nowhere_wider Mulhu o words = by_either (either o) _
nowhere_wider Div o words = by_either (either o) _
nowhere_wider Divu o words = by_either (either o) _
nowhere_wider Rem o words = by_either (either o) _
nowhere_wider Remu o words = by_either (either o) _
nowhere_wider Sll o words = range_is_narrower o op.Sll words refl
nowhere_wider Srl o words = range_is_narrower o op.Srl words refl
nowhere_wider Sra o words = range_is_narrower o op.Sra words refl
nowhere_wider Add o words = none_outside (mask_by_table_2 Add o)
nowhere_wider Sub o words = none_outside (mask_by_table_2 Sub o)
nowhere_wider And o words = none_outside (mask_by_table_2 And o)
nowhere_wider Or o words = none_outside (mask_by_table_2 Or o)
nowhere_wider Xor o words = none_outside (mask_by_table_2 Xor o)
nowhere_wider Slt o words = none_outside (mask_by_table_2 Slt o)
nowhere_wider Sltu o words = none_outside (mask_by_table_2 Sltu o)
nowhere_wider Equal o words = none_outside (mask_by_table_2 Equal o)
