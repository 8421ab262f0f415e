-- One byte more of a page, and one page more of guest memory.
use Rattle.std.proofs.Common.{◌≡◌, ◌∙◌, ◌+◌, ◌-◌, ◌*◌, ◌/◌, ◌%◌, ◌≤◌, ◌<◌, ◌==◌, ◌&&◌, ◌||◌, ℕ, Bool, true, false, List, []}
use Rattle.std.proofs.Common.{refl, sym, ap, ap₂, arith, inl, inr, nat_lt, get_or, length}
use Rattle.std.specs.Prelude.{nat_le}
use Rattle.std.proofs.Math.Bool.{or_assoc}
use Rattle.std.proofs.lemmas.Bool.{cases_Bool, cases_lt, eqb-true, eqb-false}
use Rattle.std.proofs.lemmas.Nat.{div-mul-add, mod-mul-add}
use Rattle.std.proofs.lemmas.Grind.{common_steps}
use Rattle.std.proofs.lemmas.List.{get_or_past}
use Rattle.region_learn.proofs.MarkedCells.{none_have_none}
use Rattle.region_learn.specs.Private.Marks.{marks_have, page_has}
use Rattle.region_learn.specs.Private.Spans.{in_memory, in_page}

le_true : (a b : ℕ) → a ≤ b → nat_le a b ≡ true
le_true a b h = grind (arith, common_steps)

le_false : (a b : ℕ) → b < a → nat_le a b ≡ false
le_false a b h = grind (arith, common_steps)

lt_true : (a b : ℕ) → a < b → nat_lt a b ≡ true
lt_true a b h = grind (arith, common_steps)

lt_false : (a b : ℕ) → b ≤ a → nat_lt a b ≡ false
lt_false a b h = grind (arith, common_steps)

eq_false : (a b : ℕ) → a < b → (a == b) ≡ false
eq_false a b h = grind (arith, common_steps)

and_none : (b : Bool) → (b && false) ≡ false
and_none true = refl
and_none false = refl

and_true : (b : Bool) → (b && true) ≡ b
and_true true = refl
and_true false = refl

or_none : (b : Bool) → (b || false) ≡ b
or_none true = refl
or_none false = refl

place_more : (test : ℕ → Bool) (first place other : ℕ) →
    (nat_le first other && (nat_lt (other - first) (place + 1) && test (other - first)))
    ≡ ((nat_le first other && (nat_lt (other - first) place && test (other - first)))
    || (test place && (other == (first + place))))
place_more test first place other = elim (cases_lt other first) [
  | inl less ↦
      rw (le_false first other less, eq_false other (first + place) (omega (arith, less)), and_none (test place)) refl
  | inr more ↦ elim (cases_Bool (other == (first + place))) [
    | inl same ↦
        let at : other ≡ first + place = eqb-true other (first + place) same in
        let e : other - first ≡ place = omega (arith, at) in
        rw (
          e,
          same,
          le_true first other more,
          lt_true place (place + 1) (omega arith),
          lt_false place place (omega arith),
          and_true (test place),
        ) refl
    | inr differs ↦
        let apart = eqb-false other (first + place) differs in
        rw (differs, and_none (test place))
        (elim (cases_lt (other - first) place) [
          | inl below ↦
              rw (lt_true (other - first) place below, lt_true (other - first) (place + 1) (omega (arith, below)))
              (sym (or_none (nat_le first other && test (other - first))))
          | inr past ↦
              rw (
                lt_false (other - first) place past,
                lt_false (other - first) (place + 1) (omega (arith, past, apart, more)),
                and_none (nat_le first other),
              ) refl
        ])
  ]
]

pub page_more : (page : List ℕ) (first place other : ℕ) (before old now : Bool) →
    old ≡ (before || in_page page first place other) →
    now ≡ (old || (page_has page place && (other == (first + place)))) →
    now ≡ (before || in_page page first (place + 1) other)
page_more page first place other before old now e h =
    h
    ∙ (ap (λ (b : Bool). b || (page_has page place && (other == (first + place)))) e
    ∙ (or_assoc before (in_page page first place other) (page_has page place && (other == (first + place)))
    ∙ ap (λ (b : Bool). before || b) (sym (place_more (page_has page) first place other))))

-- a page is a piece of guest memory
piece : (marks : List (List ℕ)) (base index other : ℕ) → base + index * 4096 ≤ other →
    other < base + index * 4096 + 4096 →
    marks_have marks (other - base) ≡ page_has (get_or marks index []) (other - (base + index * 4096))
piece marks base index other low high =
    let rest = other - (base + index * 4096) in
    let at : other - base ≡ index * 4096 + rest = omega (arith, low) in
    let small : rest < 4096 = omega (arith, low, high) in
    let row : (other - base) / 4096 ≡ index = ap (λ (n : ℕ). n / 4096) at ∙ div-mul-add index 4096 rest small in
    let column : (other - base) % 4096 ≡ rest = ap (λ (n : ℕ). n % 4096) at ∙ mod-mul-add index 4096 rest small in
    ap₂ (λ (r k : ℕ). page_has (get_or marks r []) k) row column

more_memory : (marks : List (List ℕ)) (base index other : ℕ) →
    in_memory marks base ((index + 1) * 4096) other
    ≡ (in_memory marks base (index * 4096) other
    || in_page (get_or marks index []) (base + index * 4096) 4096 other)
more_memory marks base index other = elim (cases_lt other base) [
  | inl less ↦
      rw (le_false base other less, le_false (base + index * 4096) other (omega (arith, less))) refl
  | inr more ↦ elim (cases_lt other (base + index * 4096)) [
    | inl before ↦
        rw (
          le_true base other more,
          le_false (base + index * 4096) other before,
          lt_true (other - base) (index * 4096) (omega (arith, before, more)),
          lt_true (other - base) ((index + 1) * 4096) (omega (arith, before, more)),
        )
        (sym (or_none (marks_have marks (other - base))))
    | inr from ↦ elim (cases_lt other (base + index * 4096 + 4096)) [
      | inl within ↦
          rw (
            le_true base other more,
            le_true (base + index * 4096) other from,
            lt_false (other - base) (index * 4096) (omega (arith, from, more)),
            lt_true (other - base) ((index + 1) * 4096) (omega (arith, within, more)),
            lt_true (other - (base + index * 4096)) 4096 (omega (arith, within, from)),
          )
          (piece marks base index other from within)
      | inr past ↦
          rw (
            le_true base other more,
            le_true (base + index * 4096) other from,
            lt_false (other - base) (index * 4096) (omega (arith, from, more)),
            lt_false (other - base) ((index + 1) * 4096) (omega (arith, past, more)),
            lt_false (other - (base + index * 4096)) 4096 (omega (arith, past, from)),
          ) refl
    ]
  ]
]

pub memory_more : (marks : List (List ℕ)) (base index other : ℕ) (old now : Bool) →
    old ≡ in_memory marks base (index * 4096) other →
    now ≡ (old || in_page (get_or marks index []) (base + index * 4096) 4096 other) →
    now ≡ in_memory marks base ((index + 1) * 4096) other
memory_more marks base index other old now e h =
    h
    ∙ (ap (λ (b : Bool). b || in_page (get_or marks index []) (base + index * 4096) 4096 other) e
    ∙ sym (more_memory marks base index other))

pub page_none : (page : List ℕ) (first count other : ℕ) → ((index : ℕ) → page_has page index ≡ false) →
    in_page page first count other ≡ false
page_none page first count other h =
    rw (h (other - first), and_none (nat_lt (other - first) count), and_none (nat_le first other)) refl

-- beyond guest memory no byte is marked
pub all_memory : (marks : List (List ℕ)) (base other : ℕ) → length marks ≡ 4096 →
    in_memory marks base 16777216 other ≡ (nat_le base other && marks_have marks (other - base))
all_memory marks base other count = elim (cases_lt (other - base) 16777216) [
  | inl within ↦ rw (lt_true (other - base) 16777216 within) refl
  | inr past ↦
      let row : length marks ≤ (other - base) / 4096 = omega (arith, past, count) in
      let none : marks_have marks (other - base) ≡ false =
      ap (λ (page : List ℕ). page_has page ((other - base) % 4096)) (get_or_past marks ((other - base) / 4096) [] row)
      ∙ none_have_none ((other - base) % 4096) in
      rw (lt_false (other - base) 16777216 past, none) refl
]
