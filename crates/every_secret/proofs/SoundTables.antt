-- The masks of each table are words, and sound.
use Rattle.std.proofs.Common.{ℕ, ◌+◌, ◌-◌, ◌*◌, ◌/◌, ◌%◌, ◌^◌, ◌≤◌, ◌<◌, Bool, true, false, refl, arith, w32, div-le_self}
use Rattle.std.specs.Prelude.{◌==◌, nat_lt, min, bit_and, bit_or, bit_xor, if◌then◌else◌}
use Rattle.std.specs.Int.{leading_zeros}
use Rattle.std.proofs.lemmas.Nat.{and_le_l, or_lt, xor_lt}
use Rattle.rv32im_decode.specs.declared.instructions.OpKind.TheVariants as op
use Rattle.rv32im_decode.specs.Operations.{op_result}
use Rattle.rv32im_machine.specs.declared.language.Operation.TheVariants.{Result, Decision, Target}
use Rattle.transfer_rules.specs.declared.classes.Class.{Class}
use Rattle.transfer_rules.specs.declared.classes.Class.TheVariants.{Add, Sub, And, Or, Xor, Sll, Srl, Sra, Slt, Sltu}
use Rattle.transfer_rules.specs.declared.classes.Class.TheVariants.{Equal, Mul, Mulh, Mulhsu, Mulhu, Div, Divu, Rem, Remu}
use Rattle.transfer_rules.specs.declared.operands.Operands.{Operands}
use Rattle.transfer_rules.specs.Classes.{branch_class, operation_class}
use Rattle.transfer_rules.specs.Soundness.{AreWords, IsSound, IsSoundTarget}
use Rattle.transfer_rules.specs.Table1.{all_mask, either, flipped, mask_by_table_1, one_mask, sum_mask}
use Rattle.transfer_rules.specs.Table2.{greatest, least, lowest, mask_by_table_2}
use Rattle.transfer_rules.specs.Table3.{bounds_of, mask_by_table_3, product_range, quotient_range, remainder_range, span}
use Rattle.transfer_rules.specs.Table3.{unless_signed, upper_range}
use Rattle.transfer_rules.specs.Tables.{Table}
use Rattle.transfer_rules.proofs.Instructions.{target_by_sum}
use Rattle.transfer_rules.proofs.Masks.{sound_by_table_1}
use Rattle.transfer_rules.proofs.NarrowMasks.{sound_by_table_2}
use Rattle.transfer_rules.proofs.RangeMasks.{sound_by_table_3}
use Rattle.transfer_rules.proofs.ShiftRanges.{range_fits}
use Rattle.transfer_rules.proofs.Shifts.{left_fits, right_fits, signed_fits}
use Rattle.every_secret.specs.declared.public_inputs.PublicInput.{PublicInput}
use Rattle.every_secret.specs.Rules.{AreSoundRules, TablesAreSound, rules_of}

-- ---- the masks are words

choice_word : (test : Bool) (x y : ℕ) → x < 2 ^ 32 → y < 2 ^ 32 → (if test then x else y) < 2 ^ 32
choice_word true x y first second = first
choice_word false x y first second = second

sum_word : (secret : ℕ) → secret < 2 ^ 32 → sum_mask secret < 2 ^ 32
sum_word secret small = or_lt 32 secret ((2 ^ 32 - secret) % 2 ^ 32) small (omega arith)

either_word : (o : Operands) → AreWords o → either o < 2 ^ 32
either_word o words = or_lt 32 o.m1 o.m2 words.1 words.3

one_word : (secret : ℕ) → one_mask secret < 2 ^ 32
one_word secret = choice_word (secret == 0) 0 1 (omega arith) (omega arith)

all_word : (secret : ℕ) → all_mask secret < 2 ^ 32
all_word secret = choice_word (secret == 0) 0 4294967295 (omega arith) (omega arith)

both_word : (a b c : ℕ) → a < 2 ^ 32 → bit_and (bit_and a b) c < 2 ^ 32
both_word a b c small =
    let first : bit_and a b ≤ a = and_le_l a b in
    let second : bit_and (bit_and a b) c ≤ bit_and a b = and_le_l (bit_and a b) c in
    omega (arith, first, second, small)

table_1_word : (class : Class) (o : Operands) → AreWords o → mask_by_table_1 class o < 2 ^ 32
table_1_word Add o words = sum_word (either o) (either_word o words)
table_1_word Sub o words = sum_word (either o) (either_word o words)
table_1_word And o words = both_word (either o) (bit_or o.m1 o.v1) (bit_or o.m2 o.v2) (either_word o words)
table_1_word Or o words =
    both_word (either o) (bit_or o.m1 (flipped o.v1)) (bit_or o.m2 (flipped o.v2)) (either_word o words)
table_1_word Xor o words = either_word o words
table_1_word Sll o words =
    choice_word (o.m2 % 32 == 0) (op_result op.Sll o.m1 o.v2) 4294967295 (left_fits o.m1 (o.v2 % 32) words.1)
    (omega arith)
table_1_word Srl o words =
    choice_word (o.m2 % 32 == 0) (op_result op.Srl o.m1 o.v2) 4294967295 (right_fits o.m1 (o.v2 % 32) words.1)
    (omega arith)
table_1_word Sra o words =
    choice_word (o.m2 % 32 == 0) (op_result op.Sra o.m1 o.v2) 4294967295 (signed_fits o.m1 (o.v2 % 32) words.1)
    (omega arith)
table_1_word Slt o words = one_word (either o)
table_1_word Sltu o words = one_word (either o)
table_1_word Equal o words = one_word (either o)
table_1_word Mul o words = sum_word (either o) (either_word o words)
table_1_word Mulh o words = all_word (either o)
table_1_word Mulhsu o words = all_word (either o)
table_1_word Mulhu o words = all_word (either o)
table_1_word Div o words = all_word (either o)
table_1_word Divu o words = all_word (either o)
table_1_word Rem o words = all_word (either o)
table_1_word Remu o words = all_word (either o)

table_2_word : (class : Class) (o : Operands) → AreWords o → mask_by_table_2 class o < 2 ^ 32
table_2_word Add o words =
    or_lt 32 (either o) _ (either_word o words)
    (xor_lt 32 ((greatest o.v1 o.m1 + greatest o.v2 o.m2) % 2 ^ 32) ((least o.v1 o.m1 + least o.v2 o.m2) % 2 ^ 32)
    (omega arith) (omega arith))
table_2_word Sub o words =
    or_lt 32 (either o) _ (either_word o words)
    (xor_lt 32 ((greatest o.v1 o.m1 + (2 ^ 32 - least o.v2 o.m2)) % 2 ^ 32)
    ((least o.v1 o.m1 + (2 ^ 32 - greatest o.v2 o.m2)) % 2 ^ 32) (omega arith) (omega arith))
table_2_word Slt o words = choice_word _ 0 1 (omega arith) (omega arith)
table_2_word Sltu o words = choice_word _ 0 1 (omega arith) (omega arith)
table_2_word Equal o words = choice_word _ 0 1 (omega arith) (omega arith)
table_2_word Mul o words =
    sum_word _ (or_lt 32 (lowest o.m1 * lowest (greatest o.v2 o.m2) % 2 ^ 32)
    (lowest o.m2 * lowest (greatest o.v1 o.m1) % 2 ^ 32) (omega arith) (omega arith))
table_2_word And o words = table_1_word And o words
table_2_word Or o words = table_1_word Or o words
table_2_word Xor o words = table_1_word Xor o words
table_2_word Sll o words = table_1_word Sll o words
table_2_word Srl o words = table_1_word Srl o words
table_2_word Sra o words = table_1_word Sra o words
table_2_word Mulh o words = table_1_word Mulh o words
table_2_word Mulhsu o words = table_1_word Mulhsu o words
table_2_word Mulhu o words = table_1_word Mulhu o words
table_2_word Div o words = table_1_word Div o words
table_2_word Divu o words = table_1_word Divu o words
table_2_word Rem o words = table_1_word Rem o words
table_2_word Remu o words = table_1_word Remu o words

-- ---- the masks of ranges

secret_word : (o : Operands) (x : ℕ) → x < 2 ^ 32 → (if either o == 0 then 0 else x) < 2 ^ 32
secret_word o x small = choice_word (either o == 0) 0 x (omega arith) small

span_word : (x y : ℕ) → span x y < 2 ^ 32
span_word x y =
    let places = leading_zeros w32 (bit_xor x y) in
    choice_word (x == y) 0 (4294967295 / 2 ^ places) (omega arith) (omega (arith, div-le_self 4294967295 (2 ^ places)))

unsigned_word : (high mask : ℕ) → mask < 2 ^ 32 → unless_signed high mask < 2 ^ 32
unsigned_word high mask small = choice_word (nat_lt high 2147483648) mask 4294967295 small (omega arith)

upper_word_of : (o : Operands) → upper_range (bounds_of o.v1 o.m1) (bounds_of o.v2 o.m2) < 2 ^ 32
upper_word_of o =
    span_word (least o.v1 o.m1 * least o.v2 o.m2 / 2 ^ 32) (greatest o.v1 o.m1 * greatest o.v2 o.m2 / 2 ^ 32)

quotient_word : (o : Operands) → quotient_range (bounds_of o.v1 o.m1) (bounds_of o.v2 o.m2) < 2 ^ 32
quotient_word o =
    let quotients = span (least o.v1 o.m1 / greatest o.v2 o.m2) (greatest o.v1 o.m1 / least o.v2 o.m2) in
    choice_word (least o.v2 o.m2 == 0) 4294967295 quotients (omega arith)
    (span_word (least o.v1 o.m1 / greatest o.v2 o.m2) (greatest o.v1 o.m1 / least o.v2 o.m2))

remainder_word : (o : Operands) → o.m1 < 2 ^ 32 →
    remainder_range o.m1 (bounds_of o.v1 o.m1) (bounds_of o.v2 o.m2) < 2 ^ 32
remainder_word o small =
    let most = min (greatest o.v1 o.m1) (greatest o.v2 o.m2 - 1) in
    let below = nat_lt (greatest o.v1 o.m1) (least o.v2 o.m2) in
    choice_word (least o.v2 o.m2 == 0) 4294967295 (if below then o.m1 else span 0 most) (omega arith)
    (choice_word below o.m1 (span 0 most) small (span_word 0 most))

product_word : (o : Operands) → AreWords o →
    product_range (mask_by_table_2 Mul o) (bounds_of o.v1 o.m1) (bounds_of o.v2 o.m2) < 2 ^ 32
product_word o words =
    let most = greatest o.v1 o.m1 * greatest o.v2 o.m2 in
    let products = span (least o.v1 o.m1 * least o.v2 o.m2) most in
    let small : mask_by_table_2 Mul o < 2 ^ 32 = table_2_word Mul o words in
    let both : bit_and (mask_by_table_2 Mul o) products ≤ mask_by_table_2 Mul o =
    and_le_l (mask_by_table_2 Mul o) products in
    choice_word (nat_lt most (2 ^ 32)) (bit_and (mask_by_table_2 Mul o) products) (mask_by_table_2 Mul o)
    (omega (arith, both, small)) small

table_3_word : (class : Class) (o : Operands) → AreWords o → mask_by_table_3 class o < 2 ^ 32
table_3_word Mul o words = secret_word o _ (product_word o words)
table_3_word Mulh o words =
    secret_word o _
    (unsigned_word (greatest o.v1 o.m1) _ (unsigned_word (greatest o.v2 o.m2) _ (upper_word_of o)))
table_3_word Mulhsu o words = secret_word o _ (unsigned_word (greatest o.v1 o.m1) _ (upper_word_of o))
table_3_word Mulhu o words = secret_word o _ (upper_word_of o)
table_3_word Div o words =
    secret_word o _ (unsigned_word (greatest o.v1 o.m1) _ (unsigned_word (greatest o.v2 o.m2) _ (quotient_word o)))
table_3_word Divu o words = secret_word o _ (quotient_word o)
table_3_word Rem o words =
    secret_word o _
    (unsigned_word (greatest o.v1 o.m1) _ (unsigned_word (greatest o.v2 o.m2) _ (remainder_word o words.1)))
table_3_word Remu o words = secret_word o _ (remainder_word o words.1)
table_3_word Sll o words = range_fits o op.Sll words refl
table_3_word Srl o words = range_fits o op.Srl words refl
table_3_word Sra o words = range_fits o op.Sra words refl
table_3_word Add o words = table_2_word Add o words
table_3_word Sub o words = table_2_word Sub o words
table_3_word And o words = table_2_word And o words
table_3_word Or o words = table_2_word Or o words
table_3_word Xor o words = table_2_word Xor o words
table_3_word Slt o words = table_2_word Slt o words
table_3_word Sltu o words = table_2_word Sltu o words
table_3_word Equal o words = table_2_word Equal o words

-- ---- they are sound

target_sound : (o : Operands) (answer : ℕ) → AreWords o → IsSound Add o answer →
    IsSoundTarget o.v2 o.v1 o.m1 (answer - answer % 2)
target_sound o answer words sound other fits agree =
    target_by_sum o answer sound other o.v2 fits words.2 agree (λ i none. refl)

rules_sound : (table : Table) (public : PublicInput) → ((class : Class) (o : Operands) → AreWords o → table class o < 2 ^ 32) →
    ((class : Class) (o : Operands) → AreWords o → IsSound class o (table class o)) →
    AreSoundRules (rules_of table public)
rules_sound table public word sound (Result kind) o words =
    (word (operation_class kind) o words, sound (operation_class kind) o words)
rules_sound table public word sound (Decision kind) o words =
    (word (branch_class kind) o words, sound (branch_class kind) o words)
rules_sound table public word sound Target o words =
    (let small = word Add o words in omega (arith, small), target_sound o (table Add o) words (sound Add o words))

pub tables_sound : TablesAreSound
tables_sound public = (
  rules_sound mask_by_table_1 public table_1_word (λ class o words. sound_by_table_1 class o _ words refl),
  rules_sound mask_by_table_2 public table_2_word (λ class o words. sound_by_table_2 class o _ words refl),
  rules_sound mask_by_table_3 public table_3_word (λ class o words. sound_by_table_3 class o _ words refl),
)
