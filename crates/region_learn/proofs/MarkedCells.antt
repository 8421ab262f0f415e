-- One mark more: in a word, and in a list of words or of pages.
use Rattle.std.proofs.Common.{◌≡◌, ◌≢◌, ◌∙◌, ◌+◌, ◌*◌, ◌/◌, ◌%◌, ◌^◌, ◌<◌, ◌==◌, ◌||◌, ℕ, Bool, true, false, List, length}
use Rattle.std.proofs.Common.{refl, sym, ap, ap₂, subst, arith, inl, inr, bit_or, get_or, replicate, div-add-mod'}
use Rattle.std.proofs.Common.{get_or-set_same, get_or-set_other, []}
use Rattle.std.specs.Int.{bit_at}
use Rattle.std.proofs.Math.ListN.{set}
use Rattle.std.proofs.lemmas.Bool.{cases_Bool, eqb-true, eqb-false, eq-eqb, cases_lt}
use Rattle.std.proofs.lemmas.Nat.Bits.{bit_at_or, bit_at-zero, bit_at-pow_same, bit_at-pow_other}
use Rattle.std.proofs.lemmas.List.{get_or-replicate, get_or_past, length-replicate}
use Rattle.region_learn.specs.Private.Marks.{has_bit, page_has}

or_true : (b : Bool) → (b || true) ≡ true
or_true true = refl
or_true false = refl

or_none : (b : Bool) → (b || false) ≡ b
or_none true = refl
or_none false = refl

pub with_bit : (word index other : ℕ) →
    has_bit (bit_or word (2 ^ index)) other ≡ (has_bit word other || (other == index))
with_bit word index other = elim (cases_Bool (other == index)) [
  | inl same ↦
      let at : other ≡ index = eqb-true other index same in
      let set : bit_at (2 ^ index) other ≡ 1 =
      subst (λ (k : ℕ). bit_at (2 ^ index) k ≡ 1) (sym at) (bit_at-pow_same index) in
      let one : bit_at (bit_or word (2 ^ index)) other ≡ 1 =
      omega (arith, bit_at_or word (2 ^ index) other, set) in
      ap (λ (n : ℕ). n == 1) one ∙ sym (ap (λ (b : Bool). has_bit word other || b) same ∙ or_true (has_bit word other))
  | inr differs ↦
      let none : bit_at (2 ^ index) other ≡ 0 = bit_at-pow_other index other (eqb-false other index differs) in
      let stays : bit_at (bit_or word (2 ^ index)) other ≡ bit_at word other =
      omega (arith, bit_at_or word (2 ^ index) other, none) in
      ap (λ (n : ℕ). n == 1) stays
      ∙ sym (ap (λ (b : Bool). has_bit word other || b) differs ∙ or_none (has_bit word other))
]

differ : (other index w : ℕ) → (other / w ≢ index / w) → (other == index) ≡ false
differ other index w ne = elim (cases_Bool (other == index)) [
  | inl same ↦ absurd (ne (ap (λ (n : ℕ). n / w) (eqb-true other index same)))
  | inr other-one ↦ other-one
]

rest_same : (other index w : ℕ) → other / w ≡ index / w → (other % w == index % w) ≡ (other == index)
rest_same other index w at = elim (cases_Bool (other % w == index % w)) [
  | inl same ↦
      let one : other ≡ index =
      sym (div-add-mod' other w)
      ∙ (ap₂ (λ (q r : ℕ). q * w + r) at (eqb-true (other % w) (index % w) same) ∙ div-add-mod' index w) in
      same ∙ sym (eq-eqb other index one)
  | inr apart ↦ elim (cases_Bool (other == index)) [
    | inl same ↦ absurd (eqb-false (other % w) (index % w) apart (ap (λ (n : ℕ). n % w) (eqb-true other index same)))
    | inr other-one ↦ apart ∙ sym other-one
  ]
]

-- the cell of an index is at its quotient, the place in the cell is its remainder
pub one_mark : {X : Type 0} (has : X → ℕ → Bool) (w : ℕ) (cells : List X) (new none : X) (index other : ℕ) →
    index / w < length cells →
    ((place : ℕ) → has new place ≡ (has (get_or cells (index / w) none) place || (place == index % w))) →
    has (get_or (set cells (index / w) new) (other / w) none) (other % w)
    ≡ (has (get_or cells (other / w) none) (other % w) || (other == index))
one_mark {X = X} has w cells new none index other within each = elim (cases_Bool (other / w == index / w)) [
  | inl same ↦
      let at : other / w ≡ index / w = eqb-true (other / w) (index / w) same in
      let here : get_or (set cells (index / w) new) (other / w) none ≡ new =
      ap (λ (i : ℕ). get_or (set cells (index / w) new) i none) at
      ∙ get_or-set_same cells (index / w) new none within in
      ap (λ (x : X). has x (other % w)) here
      ∙ (each (other % w)
      ∙ (ap (λ (i : ℕ). has (get_or cells i none) (other % w) || (other % w == index % w)) (sym at)
      ∙ ap (λ (b : Bool). has (get_or cells (other / w) none) (other % w) || b) (rest_same other index w at)))
  | inr differs ↦
      let ne : other / w ≢ index / w = eqb-false (other / w) (index / w) differs in
      ap (λ (x : X). has x (other % w)) (get_or-set_other cells (index / w) (other / w) new none ne)
      ∙ sym (ap (λ (b : Bool). has (get_or cells (other / w) none) (other % w) || b) (differ other index w ne)
      ∙ or_none (has (get_or cells (other / w) none) (other % w)))
]

-- zeros have no bit, as no words have none
zero_at : (count i : ℕ) → ◌≡◌ {A = ℕ} (get_or (replicate count 0) i 0) 0
zero_at count i = elim (cases_lt i count) [
  | inl below ↦ get_or-replicate count i 0 0 below
  | inr past ↦ get_or_past (replicate count 0) i 0 (omega (arith, length-replicate {A = ℕ} count 0, past))
]

pub zeros_have_none : (count index : ℕ) → page_has (replicate count 0) index ≡ false
zeros_have_none count index =
    ap (λ (word : ℕ). has_bit word (index % 32)) (zero_at count (index / 32))
    ∙ ap (λ (n : ℕ). n == 1) (bit_at-zero (index % 32))

pub none_have_none : (index : ℕ) → page_has [] index ≡ false
none_have_none index = ap (λ (n : ℕ). n == 1) (bit_at-zero (index % 32))
