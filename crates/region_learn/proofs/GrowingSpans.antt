-- A byte after ranges.
use Rattle.std.proofs.Common.{◌≡◌, ◌∙◌, ◌+◌, ◌≤◌, ◌==◌, ◌||◌, ◌++◌, ℕ, Bool, true, false, List, [], ◌∷◌}
use Rattle.std.proofs.Common.{refl, sym, ap, arith, inl, inr}
use Rattle.std.proofs.Math.Bool.{or_assoc}
use Rattle.std.proofs.lemmas.Bool.{cases_Bool, cond-false, cond-true, eqb-true, eqb-false}
use Rattle.std.proofs.lemmas.Grind.{common_steps}
use Rattle.enclosure_regions.specs.declared.region_parts.Range.{Range}
use Rattle.enclosure_regions.specs.Breaks.{has_byte}
use Rattle.region_learn.specs.Learnt.{AreSpread, have_byte}
use Rattle.region_learn.specs.Private.Spans.{End, SpansBelow, behind, extended, one_byte, one_longer}

pub extended_front : (front : List Range) (last : Range) (address : ℕ) →
    extended (front ++ last ∷ []) address ≡ front ++ behind last address
extended_front [] last address = refl
extended_front (range ∷ []) last address = refl
extended_front (range ∷ next ∷ front) last address =
    ap (λ (l : List Range). range ∷ l) (extended_front (next ∷ front) last address)

-- ---- one last range

behind_spread : (lowest : ℕ) (last : Range) (address : ℕ) → AreSpread lowest (last ∷ []) →
    last.offset + last.length ≤ address → AreSpread lowest (behind last address)
behind_spread lowest last address h end = elim (cases_Bool ((last.offset + last.length) == address)) [
  | inl at ↦
      rw (cond-true ((last.offset + last.length) == address) (one_longer last ∷ []) (last ∷ one_byte address ∷ []) at)
      (h.0, h.1, omega arith, tt)
  | inr off ↦
      let apart = eqb-false (last.offset + last.length) address off in
      rw (cond-false ((last.offset + last.length) == address) (one_longer last ∷ []) (last ∷ one_byte address ∷ []) off)
      (h.0, h.1, h.2, (refl, omega (arith, apart, end), omega arith, tt))
]

behind_end : (last : Range) (address : ℕ) → last.offset + last.length ≤ address →
    End (address + 1) (behind last address)
behind_end last address end = elim (cases_Bool ((last.offset + last.length) == address)) [
  | inl at ↦
      rw (cond-true ((last.offset + last.length) == address) (one_longer last ∷ []) (last ∷ one_byte address ∷ []) at)
      (omega (arith, end), tt)
  | inr off ↦
      rw (cond-false ((last.offset + last.length) == address) (one_longer last ∷ []) (last ∷ one_byte address ∷ []) off)
      (omega (arith, end), (omega arith, tt))
]

one_has : (address other : ℕ) → has_byte address 1 other ≡ (other == address)
one_has address other = grind (arith, common_steps)

longer_has : (offset count address other : ℕ) → offset + count ≡ address →
    has_byte offset (count + 1) other ≡ (has_byte offset count other || (other == address))
longer_has offset count address other e = grind (arith, common_steps, e)

or_none : (b : Bool) → (b || false) ≡ b
or_none true = refl
or_none false = refl

behind_has : (last : Range) (address other : ℕ) →
    have_byte (behind last address) other ≡ (have_byte (last ∷ []) other || (other == address))
behind_has last address other = elim (cases_Bool ((last.offset + last.length) == address)) [
  | inl at ↦
      rw (cond-true ((last.offset + last.length) == address) (one_longer last ∷ []) (last ∷ one_byte address ∷ []) at)
      (or_none (has_byte last.offset (last.length + 1) other)
      ∙ (longer_has last.offset last.length address other (eqb-true (last.offset + last.length) address at)
      ∙ ap (λ (b : Bool). b || (other == address)) (sym (or_none (has_byte last.offset last.length other)))))
  | inr off ↦
      rw (cond-false ((last.offset + last.length) == address) (one_longer last ∷ []) (last ∷ one_byte address ∷ []) off)
      (ap (λ (b : Bool). has_byte last.offset last.length other || b)
      (or_none (has_byte address 1 other) ∙ one_has address other)
      ∙ ap (λ (b : Bool). b || (other == address)) (sym (or_none (has_byte last.offset last.length other))))
]

-- ---- ranges

extended_spread : (lowest : ℕ) (ranges : List Range) (address : ℕ) → AreSpread lowest ranges → End address ranges →
    lowest ≤ address → AreSpread lowest (extended ranges address)
extended_spread lowest [] address h end le = (refl, le, omega arith, tt)
extended_spread lowest (last ∷ []) address h end le = behind_spread lowest last address h end.0
extended_spread lowest (range ∷ next ∷ ranges) address h end le =
    let gap : range.offset + range.length + 1 ≤ next.offset = h.3.1 in
    let low : next.offset + next.length ≤ address = end.1.0 in
    (h.0, h.1, h.2, extended_spread (range.offset + range.length + 1) (next ∷ ranges) address h.3 end.1 (omega arith))

end_more : (limit : ℕ) (ranges : List Range) → End limit ranges → End (limit + 1) ranges
end_more limit [] h = tt
end_more limit (range ∷ ranges) h = let here = h.0 in (omega (arith, here), end_more limit ranges h.1)

extended_end : (ranges : List Range) (address : ℕ) → End address ranges → End (address + 1) (extended ranges address)
extended_end [] address end = (omega arith, tt)
extended_end (last ∷ []) address end = behind_end last address end.0
extended_end (range ∷ next ∷ ranges) address end =
    let here = end.0 in (omega (arith, here), extended_end (next ∷ ranges) address end.1)

pub extended_has : (ranges : List Range) (address other : ℕ) →
    have_byte (extended ranges address) other ≡ (have_byte ranges other || (other == address))
extended_has [] address other = or_none (has_byte address 1 other) ∙ one_has address other
extended_has (last ∷ []) address other = behind_has last address other
extended_has (range ∷ next ∷ ranges) address other =
    ap (λ (b : Bool). has_byte range.offset range.length other || b) (extended_has (next ∷ ranges) address other)
    ∙ sym (or_assoc (has_byte range.offset range.length other) (have_byte (next ∷ ranges) other) (other == address))

pub extended_below : (ranges : List Range) (address : ℕ) → SpansBelow address ranges →
    SpansBelow (address + 1) (extended ranges address)
extended_below ranges address h = record {
  spread = extended_spread 0 ranges address h.spread h.end (omega arith);
  end = extended_end ranges address h.end;
}

pub below_more : (limit : ℕ) (ranges : List Range) → SpansBelow limit ranges → SpansBelow (limit + 1) ranges
below_more limit ranges h = record { spread = h.spread; end = end_more limit ranges h.end }

pub last_end : (limit : ℕ) (front : List Range) (last : Range) → End limit (front ++ last ∷ []) →
    last.offset + last.length ≤ limit
last_end limit [] last h = h.0
last_end limit (range ∷ front) last h = last_end limit front last h.1
