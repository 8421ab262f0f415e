-- Each mask of table 3 is sound for its class.
use Rattle.std.proofs.Common.{◌≡◌, ℕ, ◌-◌, ◌*◌, ◌/◌, ◌%◌, ◌^◌, ◌<◌, ◌≤◌, Bool, true, false, ◌==◌, min, refl, sym, ap}
use Rattle.std.proofs.Common.{subst, ◌∙◌, ⊎_elim, arith, w32, div-le_self, mod-eq_of_lt, pos}
use Rattle.std.specs.Prelude.{bit_and, nat_lt, if◌then◌else◌}
use Rattle.std.specs.Int.{bit_at}
use Rattle.std.proofs.Math.Nat.{mod-le}
use Rattle.std.proofs.Math.Pow.{shr_mono}
use Rattle.std.proofs.lemmas.Bool.{cases_lt, eqb-true, ltb-true, ne_eqb}
use Rattle.std.proofs.lemmas.Int.{to_z_pos}
use Rattle.std.proofs.lemmas.Nat.{mod_below, mul-le, mul-lt, or_lt}
use Rattle.std.proofs.lemmas.Nat.Bits.{bit_at_and}
use Rattle.flow_base.specs.Words.{Agree}
use Rattle.rv32im_decode.specs.declared.instructions.OpKind.TheVariants as op
use Rattle.rv32im_decode.specs.Operations.{op_result, signed}
use Rattle.transfer_rules.specs.declared.classes.Class.{Class}
use Rattle.transfer_rules.specs.declared.classes.Class.TheVariants.{Add, Sub, And, Or, Xor, Sll, Srl, Sra, Slt, Sltu}
use Rattle.transfer_rules.specs.declared.classes.Class.TheVariants.{Equal, Mul, Mulh, Mulhsu, Mulhu, Div, Divu, Rem, Remu}
use Rattle.transfer_rules.specs.declared.operands.Operands.{Operands}
use Rattle.transfer_rules.specs.declared.ranges.Bounds.{Bounds}
use Rattle.transfer_rules.specs.Soundness.{AreWords, IsSound, KeepsMask}
use Rattle.transfer_rules.specs.Table1.{either}
use Rattle.transfer_rules.specs.Table2.{mask_by_table_2}
use Rattle.transfer_rules.specs.Table3.{bounds_of, mask_by_table_3, product_range, quotient_range}
use Rattle.transfer_rules.specs.Table3.{remainder_range, span, unless_signed, upper_range}
use Rattle.transfer_rules.proofs.Agreement.{agree_all, agree_same, same_result}
use Rattle.transfer_rules.proofs.Bounds.{in_order}
use Rattle.transfer_rules.proofs.NarrowMasks.{narrow}
use Rattle.transfer_rules.proofs.Operations.{Each, operations, by_each}
use Rattle.transfer_rules.proofs.Results.{div_fits, divu_fits, mulh_fits, mulhsu_fits, mulhu_fits, rem_fits, remu_fits}
use Rattle.transfer_rules.proofs.ShiftRanges.{range_keeps}
use Rattle.transfer_rules.proofs.Spans.{agree_span, quotient_le}

-- ---- words without a sign

signed_plain : (a : ℕ) → a < 2 ^ 31 → signed a ≡ pos a
signed_plain a low = to_z_pos w32 a low

mulh_plain : (a b : ℕ) → a < 2 ^ 31 → b < 2 ^ 31 → op_result op.Mulh a b ≡ op_result op.Mulhu a b
mulh_plain a b p q = rw (signed_plain a p, signed_plain b q) (omega (arith, mul-lt a b (2 ^ 31) (2 ^ 31) p q))

mulhsu_plain : (a b : ℕ) → a < 2 ^ 31 → b < 2 ^ 32 → op_result op.Mulhsu a b ≡ op_result op.Mulhu a b
mulhsu_plain a b p q = rw (signed_plain a p) (omega (arith, mul-lt a b (2 ^ 31) (2 ^ 32) p q))

div_plain : (a b : ℕ) → a < 2 ^ 31 → b < 2 ^ 31 → op_result op.Div a b ≡ op_result op.Divu a b
div_plain a b p q =
    rw (signed_plain a p, signed_plain b q)
    (ap (λ n. if b == 0 then 4294967295 else n) (omega (arith, p, div-le_self a b)))

rem_plain : (a b : ℕ) → a < 2 ^ 31 → b < 2 ^ 31 → op_result op.Rem a b ≡ op_result op.Remu a b
rem_plain a b p q =
    rw (signed_plain a p, signed_plain b q)
    (ap (λ n. if b == 0 then a else n) (omega (arith, p, mod-le a b)))

-- ---- divisors that are not 0

positive : (n : ℕ) → (n == 0) ≡ false → 0 < n
positive n some = grind (arith, some)

plain_quotient : (a b : ℕ) → 0 < b → op_result op.Divu a b ≡ a / b
plain_quotient a b divisor = rw (ne_eqb b 0 (λ e. omega (arith, e, divisor))) refl

plain_rest : (a b : ℕ) → 0 < b → op_result op.Remu a b ≡ a % b
plain_rest a b divisor = rw (ne_eqb b 0 (λ e. omega (arith, e, divisor))) refl

-- ---- the bounds of the operands

-- a word from the least to the greatest
record IsIn (x : Bounds) (a : ℕ) : Type 0 where
  pub from : x.low ≤ a
  pub to : a ≤ x.high

agree_both : (m n x y : ℕ) → Agree m x y → Agree n x y → Agree (bit_and m n) x y
agree_both m n x y h k i none = ⊎_elim
    (λ clear. h i (omega (arith, clear)))
    (λ set. k i (omega (arith, set, sym (bit_at_and m n i) ∙ none)))
    (cases_lt (bit_at m i) 1)

by_choice :
    (choice : Bool) (o : Operands) (m n : ℕ) (f : ℕ → ℕ → ℕ) → (choice ≡ true → KeepsMask o m f) →
    (choice ≡ false → KeepsMask o n f) → KeepsMask o (if choice then m else n) f
by_choice true o m n f p q = p refl
by_choice false o m n f p q = q refl

module _ (o : Operands) (words : AreWords o) where
  abbrev first : Bounds
  first = bounds_of o.v1 o.m1

  abbrev second : Bounds
  second = bounds_of o.v2 o.m2

  in_first : (a : ℕ) → Agree o.m1 o.v1 a → IsIn first a
  in_first a h = let b = in_order o.m1 o.v1 a words.0 words.1 h in record { from = b.0; to = b.1 }

  in_second : (a : ℕ) → Agree o.m2 o.v2 a → IsIn second a
  in_second a h = let b = in_order o.m2 o.v2 a words.2 words.3 h in record { from = b.0; to = b.1 }

  first_fits : first.high < 2 ^ 32
  first_fits = or_lt 32 o.v1 o.m1 words.0 words.1

  second_fits : second.high < 2 ^ 32
  second_fits = or_lt 32 o.v2 o.m2 words.2 words.3

  all_keep :
      (f : ℕ → ℕ → ℕ) → ((x y : ℕ) → x < 2 ^ 32 → y < 2 ^ 32 → f x y < 2 ^ 32) → KeepsMask o 4294967295 f
  all_keep f fits a b p q h k =
      agree_all (f o.v1 o.v2) (f a b) (fits o.v1 o.v2 words.0 words.2) (fits a b p q)

  -- results from a least to a greatest
  span_keeps :
      (f : ℕ → ℕ → ℕ) (low high : ℕ) → high < 2 ^ 32 →
      ((a b : ℕ) → IsIn first a → IsIn second b → (low ≤ f a b) × (f a b ≤ high)) → KeepsMask o (span low high) f
  span_keeps f low high fits bounded a b p q h k =
      let here = bounded o.v1 o.v2 (in_first o.v1 (λ i none. refl)) (in_second o.v2 (λ i none. refl)) in
      let there = bounded a b (in_first a h) (in_second b k) in
      agree_span low high (f o.v1 o.v2) (f a b) (omega (arith, here.0, here.1, fits)) fits here.0 here.1 there.0 there.1

  -- an operation that is the same as another on the words that may stand in place of the operands
  same_keeps :
      (f g : ℕ → ℕ → ℕ) (mask : ℕ) → ((a b : ℕ) → IsIn first a → IsIn second b → f a b ≡ g a b) →
      KeepsMask o mask g → KeepsMask o mask f
  same_keeps f g mask same keeps a b p q h k i none =
      ap (λ n. bit_at n i) (same o.v1 o.v2 (in_first o.v1 (λ i none. refl)) (in_second o.v2 (λ i none. refl)))
      ∙ keeps a b p q h k i none
      ∙ ap (λ n. bit_at n i) (sym (same a b (in_first a h) (in_second b k)))

  secret_keeps :
      (f : ℕ → ℕ → ℕ) (mask : ℕ) → KeepsMask o mask f → KeepsMask o (if either o == 0 then 0 else mask) f
  secret_keeps f mask keeps =
      by_choice (either o == 0) o 0 mask f
      (λ none a b p q h k.
      agree_same 0 (f o.v1 o.v2) (f a b) (same_result f o.m1 o.m2 o.v1 o.v2 a b h k (eqb-true (either o) 0 none)))
      (λ some. keeps)

  -- ---- products

  upper_keeps : KeepsMask o (upper_range first second) (op_result op.Mulhu)
  upper_keeps =
      span_keeps (op_result op.Mulhu) (first.low * second.low / 2 ^ 32) (first.high * second.high / 2 ^ 32)
      (mulhu_fits first.high second.high first_fits second_fits)
      (λ a b x y. (
        shr_mono 32 (mul-le first.low second.low a b x.from y.from),
        shr_mono 32 (mul-le a b first.high second.high x.to y.to),
      ))

  product_keeps : KeepsMask o (product_range (mask_by_table_2 Mul o) first second) (op_result op.Mul)
  product_keeps =
      let wider : KeepsMask o (mask_by_table_2 Mul o) (op_result op.Mul) = (narrow Mul o words).0 in
      by_choice (nat_lt (first.high * second.high) (2 ^ 32)) o _ _ (op_result op.Mul)
      (λ small.
      let fits : first.high * second.high < 2 ^ 32 = ltb-true (first.high * second.high) (2 ^ 32) small in
      let narrower : KeepsMask o (span (first.low * second.low) (first.high * second.high)) (op_result op.Mul) =
      span_keeps (op_result op.Mul) (first.low * second.low) (first.high * second.high) fits (λ a b x y.
      let least = mul-le first.low second.low a b x.from y.from in
      let most = mul-le a b first.high second.high x.to y.to in
      let whole : a * b % 2 ^ 32 ≡ a * b = mod-eq_of_lt (omega (arith, most, fits)) in
      (omega (arith, least, whole), omega (arith, most, whole))) in
      λ a b p q h k. agree_both _ _ _ _ (wider a b p q h k) (narrower a b p q h k))
      (λ large. wider)

  -- ---- quotients and remainders

  quotient_keeps : KeepsMask o (quotient_range first second) (op_result op.Divu)
  quotient_keeps =
      by_choice (second.low == 0) o _ _ (op_result op.Divu)
      (λ none. all_keep (op_result op.Divu) (λ x y p q. divu_fits x y p))
      (λ some.
      let least : 0 < second.low = positive second.low some in
      span_keeps (op_result op.Divu) (first.low / second.high) (first.high / second.low)
      (omega (arith, div-le_self first.high second.low, first_fits))
      (λ a b x y.
      let divisor : 0 < b = omega (arith, least, y.from) in
      let whole : op_result op.Divu a b ≡ a / b = rw (ne_eqb b 0 (λ e. omega (arith, e, divisor))) refl in (
        omega (arith, whole, quotient_le first.low second.high a b x.from y.to divisor),
        omega (arith, whole, quotient_le a b first.high second.low x.to y.from least),
      )))

  remainder_keeps : KeepsMask o (remainder_range o.m1 first second) (op_result op.Remu)
  remainder_keeps =
      by_choice (second.low == 0) o _ _ (op_result op.Remu)
      (λ none. all_keep (op_result op.Remu) (λ x y p q. remu_fits x y p))
      (λ some.
      let least : 0 < second.low = positive second.low some in
      by_choice (nat_lt first.high second.low) o _ _ (op_result op.Remu)
      (λ below.
      let apart : first.high < second.low = ltb-true first.high second.low below in
      same_keeps (op_result op.Remu) (λ a b. a) o.m1
      (λ a b x y.
      plain_rest a b (omega (arith, least, y.from)) ∙ mod-eq_of_lt (omega (arith, apart, x.to, y.from)))
      (λ a b p q h k. h))
      (λ reached.
      span_keeps (op_result op.Remu) 0 (min first.high (second.high - 1))
      (omega (arith, first_fits))
      (λ a b x y.
      let divisor : 0 < b = omega (arith, least, y.from) in
      (omega arith, omega (arith, plain_rest a b divisor, mod-le a b, mod_below a b divisor, x.to, y.to)))))

  -- ---- signed words

  one_signed :
      (f g : ℕ → ℕ → ℕ) (mask : ℕ) → ((x y : ℕ) → x < 2 ^ 32 → y < 2 ^ 32 → f x y < 2 ^ 32) →
      ((a b : ℕ) → a < 2 ^ 31 → b < 2 ^ 32 → f a b ≡ g a b) → KeepsMask o mask g →
      KeepsMask o (unless_signed first.high mask) f
  one_signed f g mask fits same keeps =
      by_choice (nat_lt first.high 2147483648) o mask 4294967295 f
      (λ low.
      let plain : first.high < 2147483648 = ltb-true first.high 2147483648 low in
      same_keeps f g mask
      (λ a b x y. same a b (omega (arith, x.to, plain)) (omega (arith, y.to, second_fits))) keeps)
      (λ high. all_keep f fits)

  both_signed :
      (f g : ℕ → ℕ → ℕ) (mask : ℕ) → ((x y : ℕ) → x < 2 ^ 32 → y < 2 ^ 32 → f x y < 2 ^ 32) →
      ((a b : ℕ) → a < 2 ^ 31 → b < 2 ^ 31 → f a b ≡ g a b) → KeepsMask o mask g →
      KeepsMask o (unless_signed first.high (unless_signed second.high mask)) f
  both_signed f g mask fits same keeps =
      by_choice (nat_lt first.high 2147483648) o (unless_signed second.high mask) 4294967295 f
      (λ low.
      let plain : first.high < 2147483648 = ltb-true first.high 2147483648 low in
      by_choice (nat_lt second.high 2147483648) o mask 4294967295 f
      (λ low'.
      let plain' : second.high < 2147483648 = ltb-true second.high 2147483648 low' in
      same_keeps f g mask
      (λ a b x y. same a b (omega (arith, x.to, plain)) (omega (arith, y.to, plain'))) keeps)
      (λ high. all_keep f fits))
      (λ high. all_keep f fits)

-- ---- the classes

ranged :
    (class : Class) (o : Operands) → AreWords o → Each (operations class) (KeepsMask o (mask_by_table_3 class o))
ranged Mul o words = (secret_keeps o words (op_result op.Mul) _ (product_keeps o words), tt)
ranged Mulh o words = (
  secret_keeps o words (op_result op.Mulh) _
      (both_signed o words (op_result op.Mulh) (op_result op.Mulhu) _ mulh_fits mulh_plain (upper_keeps o words)),
  tt,
)
ranged Mulhsu o words = (
  secret_keeps o words (op_result op.Mulhsu) _
      (one_signed o words (op_result op.Mulhsu) (op_result op.Mulhu) _ mulhsu_fits mulhsu_plain (upper_keeps o words)),
  tt,
)
ranged Mulhu o words = (secret_keeps o words (op_result op.Mulhu) _ (upper_keeps o words), tt)
ranged Div o words = (
  secret_keeps o words (op_result op.Div) _
      (both_signed o words (op_result op.Div) (op_result op.Divu) _ (λ x y p q. div_fits x y p) div_plain
      (quotient_keeps o words)),
  tt,
)
ranged Divu o words = (secret_keeps o words (op_result op.Divu) _ (quotient_keeps o words), tt)
ranged Rem o words = (
  secret_keeps o words (op_result op.Rem) _
      (both_signed o words (op_result op.Rem) (op_result op.Remu) _ (λ x y p q. rem_fits x y p) rem_plain
      (remainder_keeps o words)),
  tt,
)
ranged Remu o words = (secret_keeps o words (op_result op.Remu) _ (remainder_keeps o words), tt)
ranged Add o words = narrow Add o words
ranged Sub o words = narrow Sub o words
ranged And o words = narrow And o words
ranged Or o words = narrow Or o words
ranged Xor o words = narrow Xor o words
ranged Sll o words = (range_keeps o op.Sll words refl, tt)
ranged Srl o words = (range_keeps o op.Srl words refl, tt)
ranged Sra o words = (range_keeps o op.Sra words refl, tt)
ranged Slt o words = narrow Slt o words
ranged Sltu o words = narrow Sltu o words
ranged Equal o words = narrow Equal o words

-- an answer of the table is sound
pub sound_by_table_3 :
    (class : Class) (o : Operands) (mask : ℕ) → AreWords o → mask ≡ mask_by_table_3 class o → IsSound class o mask
sound_by_table_3 class o mask words e = subst (IsSound class o) (sym e) (by_each class o _ (ranged class o words))
