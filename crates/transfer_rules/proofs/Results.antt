-- Every operation gives a word.
use Rattle.std.proofs.Common.{◌≡◌, ℕ, zero, suc, ◌+◌, ◌-◌, ◌*◌, ◌/◌, ◌%◌, ◌^◌, ◌<◌, Bool, true, false, ℤ, pos, negsuc}
use Rattle.std.proofs.Common.{◌*ℤ◌, neg_ℤ, nat_abs, int_div, int_rem, sym, subst, ⊎_elim, arith, w32, div-le_self}
use Rattle.std.specs.Prelude.{if◌then◌else◌, ◌==◌}
use Rattle.std.specs.Int.{cast_unsigned}
use Rattle.std.proofs.Math.Nat.{mod-le}
use Rattle.std.proofs.lemmas.Bool.{cases_lt}
use Rattle.std.proofs.lemmas.Int.{to_z_pos, ints}
use Rattle.std.proofs.lemmas.Nat.{mul-lt}
use Rattle.rv32im_decode.specs.Operations.{signed, upper_word, signed_quotient, signed_remainder, word_of_truth}

abbrev IsSmall : ℤ → Type 0
IsSmall (pos n) = n < 2 ^ 31
IsSmall (negsuc n) = n < 2 ^ 31

signed_is_small : (n : ℕ) → n < 2 ^ 32 → IsSmall (signed n)
signed_is_small n fits = ⊎_elim
    (λ low. subst IsSmall (sym (to_z_pos w32 n low)) low)
    (λ high.
    let below : signed n ≡ negsuc (2 ^ 32 - suc n) = grind (arith, ints) in
    subst IsSmall (sym below) (omega (arith, high, fits)))
    (cases_lt n (2 ^ 31))

pub truth_fits : (truth : Bool) → word_of_truth truth < 2
truth_fits true = omega arith
truth_fits false = omega arith

either_fits : (choice : Bool) (x y : ℕ) → x < 2 ^ 32 → y < 2 ^ 32 → (if choice then x else y) < 2 ^ 32
either_fits true x y p q = p
either_fits false x y p q = q

-- ---- upper words of products

upper_of_negative : (n : ℕ) → upper_word (neg_ℤ (pos n)) < 2 ^ 32
upper_of_negative zero = omega arith
upper_of_negative (suc n) = omega arith

upper_of_product : (x y : ℤ) → IsSmall x → IsSmall y → upper_word (x *ℤ y) < 2 ^ 32
upper_of_product (pos a) (pos b) p q = omega (arith, mul-lt a b (2 ^ 31) (2 ^ 31) p q)
upper_of_product (pos a) (negsuc b) p q = upper_of_negative (a * suc b)
upper_of_product (negsuc a) (pos b) p q = upper_of_negative (suc a * b)
upper_of_product (negsuc a) (negsuc b) p q =
    omega (arith, mul-lt (suc a) (suc b) (2 ^ 31 + 1) (2 ^ 31 + 1) (omega (arith, p)) (omega (arith, q)))

upper_of_mixed : (x : ℤ) (b : ℕ) → IsSmall x → b < 2 ^ 32 → upper_word (x *ℤ pos b) < 2 ^ 32
upper_of_mixed (pos a) b p q = omega (arith, mul-lt a b (2 ^ 31) (2 ^ 32) p q)
upper_of_mixed (negsuc a) b p q = upper_of_negative (suc a * b)

pub mulh_fits : (v w : ℕ) → v < 2 ^ 32 → w < 2 ^ 32 → upper_word (signed v *ℤ signed w) < 2 ^ 32
mulh_fits v w p q = upper_of_product (signed v) (signed w) (signed_is_small v p) (signed_is_small w q)

pub mulhsu_fits : (v w : ℕ) → v < 2 ^ 32 → w < 2 ^ 32 → upper_word (signed v *ℤ pos w) < 2 ^ 32
mulhsu_fits v w p q = upper_of_mixed (signed v) w (signed_is_small v p) q

pub mulhu_fits : (v w : ℕ) → v < 2 ^ 32 → w < 2 ^ 32 → v * w / 2 ^ 32 < 2 ^ 32
mulhu_fits v w p q = omega (arith, mul-lt v w (2 ^ 32) (2 ^ 32) p q)

-- ---- quotients and remainders

negative_fits : (n : ℕ) → cast_unsigned w32 (neg_ℤ (pos n)) < 2 ^ 32
negative_fits zero = omega arith
negative_fits (suc n) = omega arith

quotient_fits : (x d : ℤ) → IsSmall x → cast_unsigned w32 (int_div x d) < 2 ^ 32
quotient_fits (pos a) (pos b) p = omega (arith, p, div-le_self a b)
quotient_fits (pos a) (negsuc b) p = negative_fits (a / suc b)
quotient_fits (negsuc a) (pos b) p = negative_fits (suc a / b)
quotient_fits (negsuc a) (negsuc b) p = omega (arith, p, div-le_self (suc a) (suc b))

remainder_fits : (x d : ℤ) → IsSmall x → cast_unsigned w32 (int_rem x d) < 2 ^ 32
remainder_fits (pos a) d p = omega (arith, p, mod-le a (nat_abs d))
remainder_fits (negsuc a) d p = negative_fits (suc a % nat_abs d)

pub div_fits : (v w : ℕ) → v < 2 ^ 32 → signed_quotient v w < 2 ^ 32
div_fits v w p =
    either_fits (w == 0) 4294967295 (cast_unsigned w32 (int_div (signed v) (signed w))) (omega arith)
    (quotient_fits (signed v) (signed w) (signed_is_small v p))

pub rem_fits : (v w : ℕ) → v < 2 ^ 32 → signed_remainder v w < 2 ^ 32
rem_fits v w p =
    either_fits (w == 0) v (cast_unsigned w32 (int_rem (signed v) (signed w))) p
    (remainder_fits (signed v) (signed w) (signed_is_small v p))

pub divu_fits : (v w : ℕ) → v < 2 ^ 32 → (if w == 0 then 4294967295 else v / w) < 2 ^ 32
divu_fits v w p = either_fits (w == 0) 4294967295 (v / w) (omega arith) (omega (arith, p, div-le_self v w))

pub remu_fits : (v w : ℕ) → v < 2 ^ 32 → (if w == 0 then v else v % w) < 2 ^ 32
remu_fits v w p = either_fits (w == 0) v (v % w) p (omega (arith, p, mod-le v w))
