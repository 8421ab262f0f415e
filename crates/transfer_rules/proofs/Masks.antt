-- Each mask of table 1 is sound for its class, for instructions and for addresses.
use Rattle.std.proofs.Common.{◌≡◌, ℕ, ◌*◌, ◌/◌, ◌%◌, ◌^◌, ◌<◌, sym, subst, arith}
use Rattle.std.proofs.lemmas.Nat.{and_le_l, or_lt, xor_lt}
use Rattle.rv32im_decode.specs.declared.instructions.BranchKind.{BranchKind}
use Rattle.rv32im_decode.specs.declared.instructions.BranchKind.TheVariants as branch
use Rattle.rv32im_decode.specs.declared.instructions.OpKind.TheVariants as op
use Rattle.rv32im_decode.specs.Operations.{decision, is_taken, op_result, shifted_with_sign}
use Rattle.transfer_rules.specs.declared.classes.Class.{Class}
use Rattle.transfer_rules.specs.declared.classes.Class.TheVariants.{Add, Sub, And, Or, Xor, Sll, Srl, Sra, Slt, Sltu}
use Rattle.transfer_rules.specs.declared.classes.Class.TheVariants.{Equal, Mul, Mulh, Mulhsu, Mulhu, Div, Divu, Rem, Remu}
use Rattle.transfer_rules.specs.declared.operands.Operands.{Operands}
use Rattle.transfer_rules.specs.Soundness.{AreWords, IsSound, KeepsMask}
use Rattle.transfer_rules.specs.Table1.{all_mask, either, mask_by_table_1, one_mask, sum_mask}
use Rattle.transfer_rules.proofs.Agreement.{by_all, by_one}
use Rattle.transfer_rules.proofs.Operations.{Each, operations, by_each}
use Rattle.transfer_rules.proofs.BitRules.{agree_and, agree_or, agree_xor}
use Rattle.transfer_rules.proofs.Results.{div_fits, divu_fits, mulh_fits, mulhsu_fits, mulhu_fits, rem_fits, remu_fits}
use Rattle.transfer_rules.proofs.Results.{truth_fits}
use Rattle.transfer_rules.proofs.Shifts.{agree_left, agree_right, agree_sign, by_places, left_fits, right_fits}
use Rattle.transfer_rules.proofs.Shifts.{signed_fits}
use Rattle.transfer_rules.proofs.Sums.{by_low_parts, same_difference, same_product, same_sum}

sum_keeps : (o : Operands) → AreWords o → KeepsMask o (sum_mask (either o)) (op_result op.Add)
sum_keeps o words a b p q h k =
    by_low_parts (op_result op.Add) o.m1 o.m2 o.v1 o.v2 a b words.1 words.3 (omega arith) (omega arith)
    (λ places. same_sum o.v1 o.v2 a b places) h k

difference_keeps : (o : Operands) → AreWords o → KeepsMask o (sum_mask (either o)) (op_result op.Sub)
difference_keeps o words a b p q h k =
    by_low_parts (op_result op.Sub) o.m1 o.m2 o.v1 o.v2 a b words.1 words.3 (omega arith) (omega arith)
    (λ places. same_difference o.v1 o.v2 a b places words.2 q) h k

product_keeps : (o : Operands) → AreWords o → KeepsMask o (sum_mask (either o)) (op_result op.Mul)
product_keeps o words a b p q h k =
    by_low_parts (op_result op.Mul) o.m1 o.m2 o.v1 o.v2 a b words.1 words.3 (omega arith) (omega arith)
    (λ places. same_product o.v1 o.v2 a b places) h k

truth_keeps :
    (o : Operands) (f : ℕ → ℕ → ℕ) → ((x y : ℕ) → f x y < 2) → KeepsMask o (one_mask (either o)) f
truth_keeps o f fits a b p q h k = by_one f o.m1 o.m2 o.v1 o.v2 a b h k (fits o.v1 o.v2) (fits a b)

decision_keeps : (o : Operands) (kind : BranchKind) → KeepsMask o (one_mask (either o)) (decision kind)
decision_keeps o kind = truth_keeps o (decision kind) (λ x y. truth_fits (is_taken kind x y))

word_keeps :
    (o : Operands) → AreWords o → (f : ℕ → ℕ → ℕ) → ((x y : ℕ) → x < 2 ^ 32 → y < 2 ^ 32 → f x y < 2 ^ 32) →
    KeepsMask o (all_mask (either o)) f
word_keeps o words f fits a b p q h k =
    by_all f o.m1 o.m2 o.v1 o.v2 a b h k (fits o.v1 o.v2 words.0 words.2) (fits a b p q)

pub sound :
    (class : Class) (o : Operands) → AreWords o → Each (operations class) (KeepsMask o (mask_by_table_1 class o))
sound Add o words = (sum_keeps o words, (sum_keeps o words, tt))
sound Sub o words = (difference_keeps o words, tt)
sound And o words = ((λ a b p q h k. agree_and o.m1 o.m2 o.v1 o.v2 a b h k), tt)
sound Or o words = ((λ a b p q h k. agree_or o.m1 o.m2 o.v1 o.v2 a b words.0 words.2 p q h k), tt)
sound Xor o words = ((λ a b p q h k. agree_xor o.m1 o.m2 o.v1 o.v2 a b h k), tt)
sound Sll o words = (
  (λ a b p q h k. by_places (λ x places. x * 2 ^ places % 2 ^ 32) o.m1 o.m2 o.v1 o.v2 a b
      (λ places. agree_left places o.m1 o.v1 a h) left_fits words.0 p k),
  tt,
)
sound Srl o words = (
  (λ a b p q h k. by_places (λ x places. x / 2 ^ places) o.m1 o.m2 o.v1 o.v2 a b
      (λ places. agree_right places o.m1 o.v1 a h) right_fits words.0 p k),
  tt,
)
sound Sra o words = (
  (λ a b p q h k. by_places shifted_with_sign o.m1 o.m2 o.v1 o.v2 a b
      (λ places. agree_sign places o.m1 o.v1 a words.1 words.0 p h) signed_fits words.0 p k),
  tt,
)
sound Slt o words = (
  truth_keeps o (op_result op.Slt) (λ x y. truth_fits _),
  (decision_keeps o branch.Blt, (decision_keeps o branch.Bge, tt)),
)
sound Sltu o words = (
  truth_keeps o (op_result op.Sltu) (λ x y. truth_fits _),
  (decision_keeps o branch.Bltu, (decision_keeps o branch.Bgeu, tt)),
)
sound Equal o words = (decision_keeps o branch.Beq, (decision_keeps o branch.Bne, tt))
sound Mul o words = (product_keeps o words, tt)
sound Mulh o words = (word_keeps o words (op_result op.Mulh) mulh_fits, tt)
sound Mulhsu o words = (word_keeps o words (op_result op.Mulhsu) mulhsu_fits, tt)
sound Mulhu o words = (word_keeps o words (op_result op.Mulhu) mulhu_fits, tt)
sound Div o words = (word_keeps o words (op_result op.Div) (λ x y p q. div_fits x y p), tt)
sound Divu o words = (word_keeps o words (op_result op.Divu) (λ x y p q. divu_fits x y p), tt)
sound Rem o words = (word_keeps o words (op_result op.Rem) (λ x y p q. rem_fits x y p), tt)
sound Remu o words = (word_keeps o words (op_result op.Remu) (λ x y p q. remu_fits x y p), tt)

-- an answer of the table is sound
pub sound_by_table_1 :
    (class : Class) (o : Operands) (mask : ℕ) → AreWords o → mask ≡ mask_by_table_1 class o → IsSound class o mask
sound_by_table_1 class o mask words e = subst (IsSound class o) (sym e) (by_each class o _ (sound class o words))

-- ---- all bits, where any bit is secret

small_keeps :
    (o : Operands) → AreWords o → (f : ℕ → ℕ → ℕ) → ((x y : ℕ) → f x y < 2) → KeepsMask o (all_mask (either o)) f
small_keeps o words f fits = word_keeps o words f (λ x y p q. omega (arith, fits x y))

widest : (class : Class) (o : Operands) → AreWords o → Each (operations class) (KeepsMask o (all_mask (either o)))
widest Add o words = (
  word_keeps o words (op_result op.Add) (λ x y p q. omega arith),
  (word_keeps o words (op_result op.Add) (λ x y p q. omega arith), tt),
)
widest Sub o words = (word_keeps o words (op_result op.Sub) (λ x y p q. omega arith), tt)
widest And o words = (word_keeps o words (op_result op.And) (λ x y p q. omega (arith, p, and_le_l x y)), tt)
widest Or o words = (word_keeps o words (op_result op.Or) (λ x y p q. or_lt 32 x y p q), tt)
widest Xor o words = (word_keeps o words (op_result op.Xor) (λ x y p q. xor_lt 32 x y p q), tt)
widest Sll o words = (word_keeps o words (op_result op.Sll) (λ x y p q. left_fits x (y % 32) p), tt)
widest Srl o words = (word_keeps o words (op_result op.Srl) (λ x y p q. right_fits x (y % 32) p), tt)
widest Sra o words = (word_keeps o words (op_result op.Sra) (λ x y p q. signed_fits x (y % 32) p), tt)
widest Slt o words = (
  small_keeps o words (op_result op.Slt) (λ x y. truth_fits _),
  (
    small_keeps o words (decision branch.Blt) (λ x y. truth_fits _),
    (small_keeps o words (decision branch.Bge) (λ x y. truth_fits _), tt),
  ),
)
widest Sltu o words = (
  small_keeps o words (op_result op.Sltu) (λ x y. truth_fits _),
  (
    small_keeps o words (decision branch.Bltu) (λ x y. truth_fits _),
    (small_keeps o words (decision branch.Bgeu) (λ x y. truth_fits _), tt),
  ),
)
widest Equal o words = (
  small_keeps o words (decision branch.Beq) (λ x y. truth_fits _),
  (small_keeps o words (decision branch.Bne) (λ x y. truth_fits _), tt),
)
widest Mul o words = (word_keeps o words (op_result op.Mul) (λ x y p q. omega arith), tt)
widest Mulh o words = sound Mulh o words
widest Mulhsu o words = sound Mulhsu o words
widest Mulhu o words = sound Mulhu o words
widest Div o words = sound Div o words
widest Divu o words = sound Divu o words
widest Rem o words = sound Rem o words
widest Remu o words = sound Remu o words

-- all bits where any bit is secret are sound for every class
pub all_is_sound :
    (class : Class) (o : Operands) (mask : ℕ) → AreWords o → mask ≡ all_mask (either o) → IsSound class o mask
all_is_sound class o mask words e = subst (IsSound class o) (sym e) (by_each class o _ (widest class o words))
