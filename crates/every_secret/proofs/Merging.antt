-- The bits that are chosen are those that cross and may differ: where two values agree outside a mask, it is the same
-- whether all crossing bits of the one are put into the other, or only those of the mask.
use Rattle.std.proofs.Common.{◌≡◌, ℕ, zero, suc, ◌-◌, ◌^◌, ◌<◌, ◌≤◌, ⊎_elim, min, Bool, List, refl, sym, ap₂, ◌∙◌, arith}
use Rattle.std.specs.Prelude.{bit_and}
use Rattle.std.specs.Int.{bit_at}
use Rattle.std.proofs.lemmas.Bool.{cases_lt}
use Rattle.std.proofs.lemmas.Nat.{and_le_r}
use Rattle.std.proofs.lemmas.Nat.Bits.{bit_at-lt, bit_at_and, bit_at_above, bit_at_ones, same_from_bits}
use Rattle.flow_base.specs.Words.{Agree, bits_under, patched}
use Rattle.crossing_bits.proofs.Places.{agree_law, patched_bound}
use Rattle.transfer_rules.specs.Table1.{flipped}
use Rattle.transfer_rules.proofs.BitRules.{bit_flipped}
use Rattle.acceptance_law.proofs.AgreeOutsideMask.{agree_width, patched_uncrossed}

-- at a bit that crosses it is that of the value whose bits cross
taken_bit : (c r y i : ℕ) → r < 2 ^ 32 → y < 2 ^ 32 → c < 2 ^ 32 → i < 32 → bit_at c i ≡ 1 →
    bit_at r i ≡ bit_at (patched y c (bits_under r c)) i
taken_bit c r y i fits other small below one =
    let turned : bit_at (flipped c) i ≡ 1 - bit_at c i = bit_flipped c i small below in
    let none : bit_at (flipped c) i ≡ 0 = omega (arith, turned, one) in
    let all : bit_at (2 ^ 32 - 1) i ≡ 1 = bit_at_ones 32 i below in
    patched_uncrossed (2 ^ 32 - 1) c r y fits small (agree_width 32 (2 ^ 32 - 1) r y refl fits other) i
    (bit_at_and (2 ^ 32 - 1) (flipped c) i ∙ ap₂ min all none)

pub merged : (m c r y : ℕ) → r < 2 ^ 32 → y < 2 ^ 32 → c < 2 ^ 32 → Agree m r y →
    patched y (bit_and m c) (bits_under r (bit_and m c)) ≡ patched y c (bits_under r c)
merged m c r y fits other small agree = same_from_bits _ _ (λ i. ⊎_elim (λ below. low i below) (λ above. high i above)
    (cases_lt i 32))
  where
    both_small : bit_and m c < 2 ^ 32
    both_small = let less : bit_and m c ≤ c = and_le_r m c in omega (arith, less, small)

    high : (i : ℕ) → 32 ≤ i →
        bit_at (patched y (bit_and m c) (bits_under r (bit_and m c))) i ≡ bit_at (patched y c (bits_under r c)) i
    high i above =
        bit_at_above _ 32 i (patched_bound y (bit_and m c) (bits_under r (bit_and m c))) above
        ∙ sym (bit_at_above _ 32 i (patched_bound y c (bits_under r c)) above)

    pick : (i : ℕ) → i < 32 → (a b : ℕ) → a < 2 → b < 2 → bit_at m i ≡ a → bit_at c i ≡ b →
        bit_at (patched y (bit_and m c) (bits_under r (bit_and m c))) i ≡ bit_at (patched y c (bits_under r c)) i
    pick i below a zero p q is crossing =
        let none : bit_at (bit_and m c) i ≡ 0 = bit_at_and m c i ∙ omega (arith, crossing) in
        agree_law y (bit_and m c) _ other i none ∙ sym (agree_law y c _ other i crossing)
    pick i below zero (suc zero) p q is crossing =
        let none : bit_at (bit_and m c) i ≡ 0 = bit_at_and m c i ∙ omega (arith, is) in
        agree_law y (bit_and m c) _ other i none ∙ sym (agree i is) ∙ taken_bit c r y i fits other small below crossing
    pick i below (suc zero) (suc zero) p q is crossing =
        sym (taken_bit (bit_and m c) r y i fits other both_small below (bit_at_and m c i ∙ ap₂ min is crossing))
        ∙ taken_bit c r y i fits other small below crossing
    pick i below (suc (suc a)) (suc zero) p q is crossing = absurd (omega (arith, p))
    pick i below a (suc (suc b)) p q is crossing = absurd (omega (arith, q))

    low : (i : ℕ) → i < 32 →
        bit_at (patched y (bit_and m c) (bits_under r (bit_and m c))) i ≡ bit_at (patched y c (bits_under r c)) i
    low i below = pick i below _ _ (bit_at-lt m i) (bit_at-lt c i) refl refl

-- two patches under one mask agree outside it
pub patches_agree : (d y : ℕ) (first second : List Bool) → y < 2 ^ 32 →
    Agree d (patched y d first) (patched y d second)
patches_agree d y first second fits i clear = agree_law y d first fits i clear ∙ sym (agree_law y d second fits i clear)
