-- Each mask of table 2 is sound for its class.
use Rattle.std.proofs.Common.{◌≡◌, ℕ, ◌+◌, ◌-◌, ◌*◌, ◌%◌, ◌^◌, ◌<◌, ◌≤◌, Bool, not, ◌==◌, max, refl, sym, mul_comm}
use Rattle.std.proofs.Common.{add-zero, ap, subst, ◌∙◌, ⊎_elim, arith}
use Rattle.std.specs.Prelude.{bit_or, bit_xor, int_lt, nat_lt}
use Rattle.std.specs.Int.{bit_at}
use Rattle.std.proofs.lemmas.Bool.{cases_lt}
use Rattle.std.proofs.lemmas.Nat.{le_or_l, le_or_r, or_lt, or_mod, xor_lt}
use Rattle.std.proofs.lemmas.Nat.Bits.{bit_at_or, bit_at_xor, bit_at_above, bit_at-lt}
use Rattle.flow_base.specs.Words.{Agree}
use Rattle.rv32im_decode.specs.declared.instructions.OpKind.TheVariants as op
use Rattle.rv32im_decode.specs.Operations.{op_result, signed, word_of_truth}
use Rattle.transfer_rules.specs.declared.classes.Class.{Class}
use Rattle.transfer_rules.specs.declared.classes.Class.TheVariants.{Add, Sub, And, Or, Xor, Sll, Srl, Sra, Slt, Sltu}
use Rattle.transfer_rules.specs.declared.classes.Class.TheVariants.{Equal, Mul, Mulh, Mulhsu, Mulhu, Div, Divu, Rem, Remu}
use Rattle.transfer_rules.specs.declared.operands.Operands.{Operands}
use Rattle.transfer_rules.specs.Soundness.{AreWords, IsSound, KeepsMask}
use Rattle.transfer_rules.specs.Table1.{either, flipped}
use Rattle.transfer_rules.specs.Table2.{least, greatest, lowest, carry_mask, borrow_mask, order_mask, with_signs_turned}
use Rattle.transfer_rules.specs.Table2.{equality_mask, product_mask, mask_by_table_2}
use Rattle.transfer_rules.proofs.Agreement.{bit_low}
use Rattle.transfer_rules.proofs.BitRules.{bit_flipped}
use Rattle.transfer_rules.proofs.Bounds.{between, between_turned, known_bit, least_fits}
use Rattle.transfer_rules.proofs.Carries.{sums_alike}
use Rattle.transfer_rules.proofs.Masks.{sound}
use Rattle.transfer_rules.proofs.Operations.{Each, operations, by_each}
use Rattle.transfer_rules.proofs.Orders.{agree_turned, agree_unless, equality_known, order_known, signed_order}
use Rattle.transfer_rules.proofs.Products.{half}
use Rattle.transfer_rules.proofs.Results.{truth_fits}
use Rattle.transfer_rules.proofs.Sums.{secret_low, word_part}

agrees_with_itself : (m v : ℕ) → Agree m v v
agrees_with_itself m v i none = refl

-- ---- sums and differences

-- a bit that is in no part of a mask
not_secret : (t d i : ℕ) → bit_at (bit_or t d) i ≡ 0 → bit_at t i ≡ 0
not_secret t d i none = omega (arith, sym (bit_at_or t d i) ∙ none)

not_differing : (t x y i : ℕ) → bit_at (bit_or t (bit_xor x y)) i ≡ 0 → bit_at x i ≡ bit_at y i
not_differing t x y i none =
    let gone : bit_at (bit_xor x y) i ≡ 0 = omega (arith, sym (bit_at_or t (bit_xor x y) i) ∙ none) in
    even (bit_at x i) (bit_at y i) (bit_at-lt x i) (bit_at-lt y i) (sym (bit_at_xor x y i) ∙ gone)
  where
    even : (a b : ℕ) → a < 2 → b < 2 → (a + b) % 2 ≡ 0 → a ≡ b
    even a b p q e = omega arith

sum_bits :
    (o : Operands) (a b i : ℕ) → AreWords o → a < 2 ^ 32 → b < 2 ^ 32 → Agree o.m1 o.v1 a → Agree o.m2 o.v2 b →
    i < 32 → bit_at (carry_mask o) i ≡ 0 →
    bit_at ((o.v1 + o.v2) % 2 ^ 32) i ≡ bit_at ((a + b) % 2 ^ 32) i
sum_bits o a b i words p q h k inside none =
    let most = greatest o.v1 o.m1 + greatest o.v2 o.m2 in
    let fewest = least o.v1 o.m1 + least o.v2 o.m2 in
    let t : bit_at (either o) i ≡ 0 = not_secret (either o) (bit_xor (most % 2 ^ 32) (fewest % 2 ^ 32)) i none in
    let m : max (bit_at o.m1 i) (bit_at o.m2 i) ≡ 0 = sym (bit_at_or o.m1 o.m2 i) ∙ t in
    let same : bit_at (most % 2 ^ 32) i ≡ bit_at (fewest % 2 ^ 32) i =
    not_differing (either o) (most % 2 ^ 32) (fewest % 2 ^ 32) i none in
    let ends : bit_at (fewest + 0) i ≡ bit_at (most + 0) i =
    ap (λ n. bit_at n i) (add-zero fewest) ∙ sym (bit_low 32 fewest i inside) ∙ sym same ∙ bit_low 32 most i inside
    ∙ ap (λ n. bit_at n i) (sym (add-zero most)) in
    let alike : bit_at (o.v1 + o.v2 + 0) i ≡ bit_at (a + b + 0) i =
    sums_alike (least o.v1 o.m1) o.v1 a (greatest o.v1 o.m1) (least o.v2 o.m2) o.v2 b (greatest o.v2 o.m2) 0 i (omega arith)
    (between o.m1 o.v1 o.v1 words.0 words.1 (agrees_with_itself o.m1 o.v1)) (between o.m1 o.v1 a words.0 words.1 h)
    (between o.m2 o.v2 o.v2 words.2 words.3 (agrees_with_itself o.m2 o.v2)) (between o.m2 o.v2 b words.2 words.3 k)
    (known_bit o.m1 o.v1 i words.0 words.1 (omega (arith, m))) (known_bit o.m2 o.v2 i words.2 words.3 (omega (arith, m)))
    ends in
    bit_low 32 (o.v1 + o.v2) i inside ∙ ap (λ n. bit_at n i) (sym (add-zero (o.v1 + o.v2))) ∙ alike
    ∙ ap (λ n. bit_at n i) (add-zero (a + b)) ∙ sym (bit_low 32 (a + b) i inside)

-- a difference is a sum with each bit of the second word turned, and one more
difference_bit :
    (x y i : ℕ) → y < 2 ^ 32 → i < 32 → bit_at ((x + (2 ^ 32 - y)) % 2 ^ 32) i ≡ bit_at (x + flipped y + 1) i
difference_bit x y i fits inside = bit_low 32 (x + (2 ^ 32 - y)) i inside ∙ ap (λ n. bit_at n i) (omega arith)

difference_bits :
    (o : Operands) (a b i : ℕ) → AreWords o → a < 2 ^ 32 → b < 2 ^ 32 → Agree o.m1 o.v1 a → Agree o.m2 o.v2 b →
    i < 32 → bit_at (borrow_mask o) i ≡ 0 →
    bit_at ((o.v1 + (2 ^ 32 - o.v2)) % 2 ^ 32) i ≡ bit_at ((a + (2 ^ 32 - b)) % 2 ^ 32) i
difference_bits o a b i words p q h k inside none =
    let g1 = greatest o.v1 o.m1 in
    let k1 = least o.v1 o.m1 in
    let g2 = greatest o.v2 o.m2 in
    let k2 = least o.v2 o.m2 in
    let g2_fits : g2 < 2 ^ 32 = or_lt 32 o.v2 o.m2 words.2 words.3 in
    let k2_fits : k2 < 2 ^ 32 = least_fits o.v2 o.m2 words.2 in
    let most = (g1 + (2 ^ 32 - k2)) % 2 ^ 32 in
    let fewest = (k1 + (2 ^ 32 - g2)) % 2 ^ 32 in
    let t : bit_at (either o) i ≡ 0 = not_secret (either o) (bit_xor most fewest) i none in
    let m : max (bit_at o.m1 i) (bit_at o.m2 i) ≡ 0 = sym (bit_at_or o.m1 o.m2 i) ∙ t in
    let ends : bit_at (k1 + flipped g2 + 1) i ≡ bit_at (g1 + flipped k2 + 1) i =
    sym (difference_bit k1 g2 i g2_fits inside) ∙ sym (not_differing (either o) most fewest i none)
    ∙ difference_bit g1 k2 i k2_fits inside in
    let known : bit_at k2 i ≡ bit_at g2 i = known_bit o.m2 o.v2 i words.2 words.3 (omega (arith, m)) in
    let alike : bit_at (o.v1 + flipped o.v2 + 1) i ≡ bit_at (a + flipped b + 1) i =
    sums_alike k1 o.v1 a g1 (flipped g2) (flipped o.v2) (flipped b) (flipped k2) 1 i (omega arith)
    (between o.m1 o.v1 o.v1 words.0 words.1 (agrees_with_itself o.m1 o.v1)) (between o.m1 o.v1 a words.0 words.1 h)
    (between_turned k2 o.v2 g2 k2_fits words.2 g2_fits
    (between o.m2 o.v2 o.v2 words.2 words.3 (agrees_with_itself o.m2 o.v2)))
    (between_turned k2 b g2 k2_fits q g2_fits (between o.m2 o.v2 b words.2 words.3 k))
    (known_bit o.m1 o.v1 i words.0 words.1 (omega (arith, m)))
    (bit_flipped g2 i g2_fits inside ∙ ap (λ x. 1 - x) (sym known) ∙ sym (bit_flipped k2 i k2_fits inside))
    ends in
    difference_bit o.v1 o.v2 i words.2 inside ∙ alike ∙ sym (difference_bit a b i q inside)

-- words that have the same low bits agree
by_bits :
    (mask x y : ℕ) → x < 2 ^ 32 → y < 2 ^ 32 → ((i : ℕ) → i < 32 → bit_at mask i ≡ 0 → bit_at x i ≡ bit_at y i) →
    Agree mask x y
by_bits mask x y p q same i none = ⊎_elim
    (λ inside. same i inside none)
    (λ above. bit_at_above x 32 i p above ∙ sym (bit_at_above y 32 i q above))
    (cases_lt i 32)

sum_keeps : (o : Operands) → AreWords o → KeepsMask o (carry_mask o) (op_result op.Add)
sum_keeps o words a b p q h k =
    by_bits (carry_mask o) (op_result op.Add o.v1 o.v2) (op_result op.Add a b) (omega arith) (omega arith)
    (λ i inside none. sum_bits o a b i words p q h k inside none)

difference_keeps : (o : Operands) → AreWords o → KeepsMask o (borrow_mask o) (op_result op.Sub)
difference_keeps o words a b p q h k =
    by_bits (borrow_mask o) (op_result op.Sub o.v1 o.v2) (op_result op.Sub a b) (omega arith) (omega arith)
    (λ i inside none. difference_bits o a b i words p q h k inside none)

-- ---- comparisons

order_keeps :
    (o : Operands) → AreWords o → (truth : Bool → ℕ) → ((t : Bool) → truth t < 2) →
    KeepsMask o (order_mask o) (λ x y. truth (nat_lt x y))
order_keeps o words truth fits a b p q h k =
    agree_unless _ (truth (nat_lt o.v1 o.v2)) (truth (nat_lt a b))
    (λ known. ap truth (order_known o.m1 o.m2 o.v1 o.v2 a b words.0 words.2 words.1 words.3 h k known))
    (fits (nat_lt o.v1 o.v2)) (fits (nat_lt a b))

signed_order_keeps :
    (o : Operands) → AreWords o → (truth : Bool → ℕ) → ((t : Bool) → truth t < 2) →
    KeepsMask o (order_mask (with_signs_turned o)) (λ x y. truth (int_lt (signed x) (signed y)))
signed_order_keeps o words truth fits a b p q h k =
    let turned : AreWords (with_signs_turned o) =
    (xor_lt 32 o.v1 2147483648 words.0 (omega arith), words.1, xor_lt 32 o.v2 2147483648 words.2 (omega arith), words.3) in
    let keeps : Agree (order_mask (with_signs_turned o)) (truth (nat_lt (bit_xor o.v1 2147483648) (bit_xor o.v2 2147483648)))
    (truth (nat_lt (bit_xor a 2147483648) (bit_xor b 2147483648))) =
    order_keeps (with_signs_turned o) turned truth fits (bit_xor a 2147483648) (bit_xor b 2147483648)
    (xor_lt 32 a 2147483648 p (omega arith)) (xor_lt 32 b 2147483648 q (omega arith))
    (agree_turned o.m1 o.v1 a 2147483648 h) (agree_turned o.m2 o.v2 b 2147483648 k) in
    rw (signed_order o.v1 o.v2 words.0 words.2, signed_order a b p q) keeps

equality_keeps :
    (o : Operands) → AreWords o → (truth : Bool → ℕ) → ((t : Bool) → truth t < 2) →
    KeepsMask o (equality_mask o) (λ x y. truth (x == y))
equality_keeps o words truth fits a b p q h k =
    agree_unless _ (truth (o.v1 == o.v2)) (truth (a == b))
    (λ known. ap truth (equality_known o.m1 o.m2 o.v1 o.v2 a b words.1 words.3 words.0 words.2 h k known))
    (fits (o.v1 == o.v2)) (fits (a == b))

-- ---- products

product_bits :
    (o : Operands) (a b i : ℕ) → AreWords o → Agree o.m1 o.v1 a → Agree o.m2 o.v2 b → i < 32 →
    bit_at (product_mask o) i ≡ 0 → bit_at (o.v1 * o.v2 % 2 ^ 32) i ≡ bit_at (a * b % 2 ^ 32) i
product_bits o a b i words h k inside none =
    let g1 = greatest o.v1 o.m1 in
    let g2 = greatest o.v2 o.m2 in
    let n = 1 + i in
    let first = lowest o.m1 * lowest g2 in
    let second = lowest o.m2 * lowest g1 in
    let low : bit_or (first % 2 ^ 32) (second % 2 ^ 32) % 2 ^ n ≡ 0 =
    secret_low (bit_or (first % 2 ^ 32) (second % 2 ^ 32)) i
    (or_lt 32 (first % 2 ^ 32) (second % 2 ^ 32) (omega arith) (omega arith)) inside none in
    let apart : bit_or (first % 2 ^ 32 % 2 ^ n) (second % 2 ^ 32 % 2 ^ n) ≡ 0 =
    sym (or_mod (first % 2 ^ 32) (second % 2 ^ 32) n) ∙ low in
    let within : n ≤ 32 = omega arith in
    let none1 : first % 2 ^ n ≡ 0 =
    sym (word_part first n within) ∙ omega (arith, apart, le_or_l (first % 2 ^ 32 % 2 ^ n) (second % 2 ^ 32 % 2 ^ n)) in
    let none2 : second % 2 ^ n ≡ 0 =
    sym (word_part second n within) ∙ omega (arith, apart, le_or_r (first % 2 ^ 32 % 2 ^ n) (second % 2 ^ 32 % 2 ^ n)) in
    let b_within = between o.m2 o.v2 b words.2 words.3 k in
    let v_within = between o.m1 o.v1 o.v1 words.0 words.1 (agrees_with_itself o.m1 o.v1) in
    let one : (o.v1 * b) % 2 ^ n ≡ (a * b) % 2 ^ n =
    half o.m1 g2 o.v1 a b n words.1 (or_lt 32 o.v2 o.m2 words.2 words.3) h b_within.to none1 in
    let two : (o.v2 * o.v1) % 2 ^ n ≡ (b * o.v1) % 2 ^ n =
    half o.m2 g1 o.v2 b o.v1 n words.3 (or_lt 32 o.v1 o.m1 words.0 words.1) k v_within.to none2 in
    let whole : (o.v1 * o.v2) % 2 ^ 32 % 2 ^ n ≡ (a * b) % 2 ^ 32 % 2 ^ n =
    word_part (o.v1 * o.v2) n within ∙ ap (λ x. x % 2 ^ n) (mul_comm o.v1 o.v2) ∙ two
    ∙ ap (λ x. x % 2 ^ n) (mul_comm b o.v1) ∙ one ∙ sym (word_part (a * b) n within) in
    sym (bit_low n (o.v1 * o.v2 % 2 ^ 32) i (omega arith)) ∙ ap (λ x. bit_at x i) whole
    ∙ bit_low n (a * b % 2 ^ 32) i (omega arith)

product_keeps : (o : Operands) → AreWords o → KeepsMask o (product_mask o) (op_result op.Mul)
product_keeps o words a b p q h k =
    by_bits (product_mask o) (op_result op.Mul o.v1 o.v2) (op_result op.Mul a b) (omega arith) (omega arith)
    (λ i inside none. product_bits o a b i words h k inside none)

-- ---- the classes

unless_fits : (t : Bool) → word_of_truth (not t) < 2
unless_fits t = truth_fits (not t)

pub narrow :
    (class : Class) (o : Operands) → AreWords o → Each (operations class) (KeepsMask o (mask_by_table_2 class o))
narrow Add o words = (sum_keeps o words, (sum_keeps o words, tt))
narrow Sub o words = (difference_keeps o words, tt)
narrow Slt o words = (
  signed_order_keeps o words word_of_truth truth_fits,
  (
    signed_order_keeps o words word_of_truth truth_fits,
    (signed_order_keeps o words (λ t. word_of_truth (not t)) unless_fits, tt),
  ),
)
narrow Sltu o words = (
  order_keeps o words word_of_truth truth_fits,
  (order_keeps o words word_of_truth truth_fits, (order_keeps o words (λ t. word_of_truth (not t)) unless_fits, tt)),
)
narrow Equal o words = (
  equality_keeps o words word_of_truth truth_fits,
  (equality_keeps o words (λ t. word_of_truth (not t)) unless_fits, tt),
)
narrow Mul o words = (product_keeps o words, tt)
narrow And o words = sound And o words
narrow Or o words = sound Or o words
narrow Xor o words = sound Xor o words
narrow Sll o words = sound Sll o words
narrow Srl o words = sound Srl o words
narrow Sra o words = sound Sra o words
narrow Mulh o words = sound Mulh o words
narrow Mulhsu o words = sound Mulhsu o words
narrow Mulhu o words = sound Mulhu o words
narrow Div o words = sound Div o words
narrow Divu o words = sound Divu o words
narrow Rem o words = sound Rem o words
narrow Remu o words = sound Remu o words

-- an answer of the table is sound
pub sound_by_table_2 :
    (class : Class) (o : Operands) (mask : ℕ) → AreWords o → mask ≡ mask_by_table_2 class o → IsSound class o mask
sound_by_table_2 class o mask words e = subst (IsSound class o) (sym e) (by_each class o _ (narrow class o words))
