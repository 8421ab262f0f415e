-- Words between the least and the greatest that an operand may be, bit by bit.
use Rattle.std.proofs.Common.{◌≡◌, ℕ, zero, suc, ◌-◌, ◌%◌, ◌^◌, ◌<◌, ◌≤◌, min, max, refl, sym, ap, ◌∙◌, ⊎_elim, arith}
use Rattle.std.proofs.Common.{pow_pos}
use Rattle.std.specs.Prelude.{bit_and}
use Rattle.std.specs.Int.{bit_at}
use Rattle.std.proofs.lemmas.Bool.{cases_lt}
use Rattle.std.proofs.lemmas.Nat.{and_le_l, and_le_r, le_or_l, mod_below}
use Rattle.std.proofs.lemmas.Nat.Bits.{bit_at_and, bit_at_or, bit_at_above, bit_at-lt, same_from_bits}
use Rattle.flow_base.specs.Words.{Agree}
use Rattle.transfer_rules.specs.Table1.{flipped}
use Rattle.transfer_rules.specs.Table2.{least, greatest}
use Rattle.transfer_rules.proofs.Agreement.{bit_low}
use Rattle.transfer_rules.proofs.BitRules.{bit_flipped}

-- every bit of low is one of x, and every bit of x one of high
pub record Between (low x high : ℕ) : Type 0 where
  pub from : (j : ℕ) → bit_at low j ≤ bit_at x j
  pub to : (j : ℕ) → bit_at x j ≤ bit_at high j

smaller : (a b : ℕ) → a ≤ b → min a b ≡ a
smaller a b le = omega arith

-- a number whose bits are all bits of another is no greater
pub le_by_bits : (x y : ℕ) → ((j : ℕ) → bit_at x j ≤ bit_at y j) → x ≤ y
le_by_bits x y le =
    let same : bit_and x y ≡ x =
    same_from_bits (bit_and x y) x (λ j. bit_at_and x y j ∙ smaller (bit_at x j) (bit_at y j) (le j)) in
    omega (arith, same, and_le_r x y)

low_bit_le :
    (k x y j : ℕ) → bit_at x j ≤ bit_at y j → bit_at (x % 2 ^ k) j ≤ bit_at (y % 2 ^ k) j
low_bit_le k x y j le = ⊎_elim
    (λ inside. omega (arith, bit_low k x j inside, bit_low k y j inside, le))
    (λ above. omega (arith, bit_at_above (x % 2 ^ k) k j (mod_below x (2 ^ k) (pow_pos k)) above))
    (cases_lt j k)

-- and the same of the low parts
pub low_le_by_bits : (k x y : ℕ) → ((j : ℕ) → bit_at x j ≤ bit_at y j) → x % 2 ^ k ≤ y % 2 ^ k
low_le_by_bits k x y le = le_by_bits (x % 2 ^ k) (y % 2 ^ k) (λ j. low_bit_le k x y j (le j))

-- ---- the least and the greatest word of an operand

pub bit_least : (v m j : ℕ) → v < 2 ^ 32 → m < 2 ^ 32 → bit_at (least v m) j ≡ min (bit_at v j) (1 - bit_at m j)
bit_least v m j fv fm = ⊎_elim
    (λ inside. bit_at_and v (flipped m) j ∙ ap (min (bit_at v j)) (bit_flipped m j fm inside))
    (λ above.
    let none : bit_at v j ≡ 0 = bit_at_above v 32 j fv above in
    bit_at_and v (flipped m) j ∙ first_none (bit_at v j) (bit_at (flipped m) j) (1 - bit_at m j) none)
    (cases_lt j 32)
  where
    first_none : (a b c : ℕ) → a ≡ 0 → min a b ≡ min a c
    first_none a b c e = omega arith

pub bit_greatest : (v m j : ℕ) → bit_at (greatest v m) j ≡ max (bit_at v j) (bit_at m j)
bit_greatest v m j = bit_at_or v m j

one_least : (v m a : ℕ) → (m ≡ 0 → v ≡ a) → min v (1 - m) ≤ a
one_least v zero a h = let e : v ≡ a = h refl in omega arith
one_least v (suc m) a h = omega arith

one_greatest : (v m a : ℕ) → a < 2 → (m ≡ 0 → v ≡ a) → a ≤ max v m
one_greatest v zero a below h = let e : v ≡ a = h refl in omega arith
one_greatest v (suc m) a below h = omega arith

-- what agrees with an operand outside its mask stands between the least and the greatest
pub between : (m v a : ℕ) → v < 2 ^ 32 → m < 2 ^ 32 → Agree m v a → Between (least v m) a (greatest v m)
between m v a fv fm h = record {
  from = λ j. omega (arith, bit_least v m j fv fm, one_least (bit_at v j) (bit_at m j) (bit_at a j) (h j));
  to = λ j.
      omega (arith, bit_greatest v m j, one_greatest (bit_at v j) (bit_at m j) (bit_at a j) (bit_at-lt a j) (h j));
}

-- a bit that is not secret is the same of the least and of the greatest
pub known_bit : (m v i : ℕ) → v < 2 ^ 32 → m < 2 ^ 32 → bit_at m i ≡ 0 → bit_at (least v m) i ≡ bit_at (greatest v m) i
known_bit m v i fv fm none =
    bit_least v m i fv fm ∙ one_known (bit_at v i) (bit_at m i) (bit_at-lt v i) none ∙ sym (bit_greatest v m i)
  where
    one_known : (a b : ℕ) → a < 2 → b ≡ 0 → min a (1 - b) ≡ max a b
    one_known a b below e = omega arith

pub least_le_greatest : (v m : ℕ) → least v m ≤ greatest v m
least_le_greatest v m = omega (arith, and_le_l v (flipped m), le_or_l v m)

-- what agrees with an operand outside its mask is a word from the least to the greatest
pub in_order :
    (m v a : ℕ) → v < 2 ^ 32 → m < 2 ^ 32 → Agree m v a → (least v m ≤ a) × (a ≤ greatest v m)
in_order m v a fv fm h =
    let b = between m v a fv fm h in
    (le_by_bits (least v m) a b.from, le_by_bits a (greatest v m) b.to)

pub least_fits : (v m : ℕ) → v < 2 ^ 32 → least v m < 2 ^ 32
least_fits v m fits = omega (arith, fits, and_le_l v (flipped m))

-- turned, the order is the other way round
turned_bit :
    (x y j : ℕ) → x < 2 ^ 32 → y < 2 ^ 32 → bit_at x j ≤ bit_at y j → bit_at (flipped y) j ≤ bit_at (flipped x) j
turned_bit x y j fx fy le = ⊎_elim
    (λ inside. omega (arith, bit_flipped x j fx inside, bit_flipped y j fy inside, le))
    (λ above. omega (arith, bit_at_above (flipped y) 32 j (omega arith) above))
    (cases_lt j 32)

pub between_turned :
    (low x high : ℕ) → low < 2 ^ 32 → x < 2 ^ 32 → high < 2 ^ 32 → Between low x high →
    Between (flipped high) (flipped x) (flipped low)
between_turned low x high fl fx fh b = record {
  from = λ j. turned_bit x high j fx fh (b.to j);
  to = λ j. turned_bit low x j fl fx (b.from j);
}
