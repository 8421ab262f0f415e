-- The bits of sums by the carries into their places, which lie between those of the least and the greatest sum.
use Rattle.std.proofs.Common.{◌≡◌, ℕ, ◌+◌, ◌*◌, ◌/◌, ◌%◌, ◌^◌, ◌<◌, ◌≤◌, sym, ap, ap₂, ◌∙◌, arith, pow_pos}
use Rattle.std.proofs.Common.{div-add-mod'}
use Rattle.std.specs.Int.{bit_at}
use Rattle.std.proofs.Math.Nat.{add-mul-div_right, div-lt_iff_lt-mul, div-mul-le_self}
use Rattle.std.proofs.lemmas.Nat.{le-div, mod_below}
use Rattle.transfer_rules.proofs.Bounds.{Between, low_le_by_bits}

-- the carry into a place, of two numbers and what is carried in at the lowest place
abbrev pub carry : ℕ → ℕ → ℕ → ℕ → ℕ
carry x y into i = (x % 2 ^ i + y % 2 ^ i + into) / 2 ^ i

parts : (x y into k a b r s : ℕ) → a * k + r ≡ x → b * k + s ≡ y → x + y + into ≡ r + s + into + (a + b) * k
parts x y into k a b r s e e' = omega (arith, e, e', distributes a b k)
  where
    distributes : (a b k : ℕ) → (a + b) * k ≡ a * k + b * k
    distributes a b k = grind arith

odd_sum : (a b c : ℕ) → (c + (a + b)) % 2 ≡ (a % 2 + b % 2 + c) % 2
odd_sum a b c = omega arith

pub bit_sum :
    (x y into i : ℕ) → bit_at (x + y + into) i ≡ (bit_at x i + bit_at y i + carry x y into i) % 2
bit_sum x y into i =
    let k = 2 ^ i in
    let whole : x + y + into ≡ x % k + y % k + into + (x / k + y / k) * k =
    parts x y into k (x / k) (y / k) (x % k) (y % k) (div-add-mod' x k) (div-add-mod' y k) in
    ap (λ n. n / k % 2) whole
    ∙ ap (λ n. n % 2) (add-mul-div_right (x % k + y % k + into) (x / k + y / k) (pow_pos i))
    ∙ odd_sum (x / k) (y / k) (carry x y into i)

div_below : (n k : ℕ) → 0 < k → n < 2 * k → n / k < 2
div_below n k some below = (div-lt_iff_lt-mul some).1 below

pub carry_below : (x y into i : ℕ) → into ≤ 1 → carry x y into i < 2
carry_below x y into i le =
    div_below (x % 2 ^ i + y % 2 ^ i + into) (2 ^ i) (pow_pos i)
    (omega (arith, le, mod_below x (2 ^ i) (pow_pos i), mod_below y (2 ^ i) (pow_pos i)))

div_le_div : (a b k : ℕ) → 0 < k → a ≤ b → a / k ≤ b / k
div_le_div a b k some le = le-div (a / k) b k some (omega (arith, le, div-mul-le_self a k))

pub carry_le :
    (x y x' y' into i : ℕ) → ((j : ℕ) → bit_at x j ≤ bit_at x' j) → ((j : ℕ) → bit_at y j ≤ bit_at y' j) →
    carry x y into i ≤ carry x' y' into i
carry_le x y x' y' into i le le' =
    div_le_div (x % 2 ^ i + y % 2 ^ i + into) (x' % 2 ^ i + y' % 2 ^ i + into) (2 ^ i) (pow_pos i)
    (omega (arith, low_le_by_bits i x x' le, low_le_by_bits i y y' le'))

same_carry : (n c d : ℕ) → c ≤ d → d < 2 → (n + c) % 2 ≡ (n + d) % 2 → c ≡ d
same_carry n c d le below e = omega arith

squeezed : (a b c : ℕ) → a ≤ b → b ≤ c → a ≡ c → b ≡ a
squeezed a b c le le' e = omega arith

-- where the least and the greatest sum have the same bit, every sum between has it
sum_bit_between :
    (low x high low' y high' into i : ℕ) → into ≤ 1 → Between low x high → Between low' y high' →
    bit_at low i ≡ bit_at high i → bit_at low' i ≡ bit_at high' i →
    bit_at (low + low' + into) i ≡ bit_at (high + high' + into) i →
    bit_at (x + y + into) i ≡ bit_at (low + low' + into) i
sum_bit_between low x high low' y high' into i le b b' e e' same =
    let first : bit_at x i ≡ bit_at low i = squeezed (bit_at low i) (bit_at x i) (bit_at high i) (b.from i) (b.to i) e in
    let second : bit_at y i ≡ bit_at low' i =
    squeezed (bit_at low' i) (bit_at y i) (bit_at high' i) (b'.from i) (b'.to i) e' in
    let below : carry low low' into i ≤ carry x y into i = carry_le low low' x y into i b.from b'.from in
    let above : carry x y into i ≤ carry high high' into i = carry_le x y high high' into i b.to b'.to in
    let ends : (bit_at low i + bit_at low' i + carry low low' into i) % 2
    ≡ (bit_at low i + bit_at low' i + carry high high' into i) % 2 =
    sym (bit_sum low low' into i) ∙ same ∙ bit_sum high high' into i
    ∙ ap₂ (λ p q. (p + q + carry high high' into i) % 2) (sym e) (sym e') in
    let equal : carry low low' into i ≡ carry high high' into i =
    same_carry (bit_at low i + bit_at low' i) (carry low low' into i) (carry high high' into i)
    (omega (arith, below, above)) (carry_below high high' into i le) ends in
    let third : carry x y into i ≡ carry low low' into i =
    squeezed (carry low low' into i) (carry x y into i) (carry high high' into i) below above equal in
    bit_sum x y into i
    ∙ ap₂ (λ p q. (p + q + carry x y into i) % 2) first second
    ∙ ap (λ c. (bit_at low i + bit_at low' i + c) % 2) third
    ∙ sym (bit_sum low low' into i)

pub sums_alike :
    (low x a high low' y b high' into i : ℕ) → into ≤ 1 → Between low x high → Between low a high →
    Between low' y high' → Between low' b high' → bit_at low i ≡ bit_at high i → bit_at low' i ≡ bit_at high' i →
    bit_at (low + low' + into) i ≡ bit_at (high + high' + into) i →
    bit_at (x + y + into) i ≡ bit_at (a + b + into) i
sums_alike low x a high low' y b high' into i le bx ba by bb e e' same =
    sum_bit_between low x high low' y high' into i le bx by e e' same
    ∙ sym (sum_bit_between low a high low' b high' into i le ba bb e e' same)
