-- A run has one least declaration.
use Rattle.std.proofs.Common.{◌≡◌, ◌∙◌, ◌+◌, ◌≤◌, ◌<◌, ℕ, Bool, true, false, List, [], ◌∷◌, Option, drop, length, map}
use Rattle.std.proofs.Common.{refl, sym, ap, ap₂, arith, inl, inr}
use Rattle.std.specs.Prelude.{nat_le, nat_lt}
use Rattle.std.specs.List.{AllByRecursion, filter}
use Rattle.std.proofs.lemmas.Bool.{and_from, and_parts, cases_lt, or_cases, or_left, or_right}
use Rattle.std.proofs.lemmas.Grind.{common_steps}
use Rattle.enclosure_regions.specs.declared.region_parts.Range.{Range}
use Rattle.enclosure_regions.specs.declared.region_parts.Region.{Region}
use Rattle.enclosure_regions.specs.declared.break_kinds.Place.TheVariants.{Byte}
use Rattle.enclosure_regions.specs.Breaks.{has_byte}
use Rattle.enclosure_regions.specs.Orders.{all_registers}
use Rattle.region_learn.specs.Learnt.{AreSpread, IsLearnt, Learnt, have_byte, is_kept, is_out}
use Rattle.region_learn.specs.Written.{Run, Written, bare}

le_true : (a b : ℕ) → a ≤ b → nat_le a b ≡ true
le_true a b h = grind (arith, common_steps)

lt_true : (a b : ℕ) → a < b → nat_lt a b ≡ true
lt_true a b h = grind (arith, common_steps)

le_of : (a b : ℕ) → nat_le a b ≡ true → a ≤ b
le_of a b h = grind (arith, common_steps)

lt_of : (a b : ℕ) → nat_lt a b ≡ true → a < b
lt_of a b h = grind (arith, common_steps)

true_false : ◌≡◌ {A = Bool} true false → ⊥
true_false e = cc

-- a byte of a range
has : (range : Range) (address : ℕ) → range.offset ≤ address → address < range.offset + range.length →
    has_byte range.offset range.length address ≡ true
has range address low high = and_from _ _ (le_true range.offset address low) (lt_true address (range.offset + range.length) high)

within : (range : Range) (address : ℕ) → has_byte range.offset range.length address ≡ true →
    (range.offset ≤ address) × (address < range.offset + range.length)
within range address h =
    let parts = and_parts (nat_le range.offset address) (nat_lt address (range.offset + range.length)) h in
    (le_of range.offset address parts.0, lt_of address (range.offset + range.length) parts.1)

-- no byte is below the first range
low_byte : (lowest address : ℕ) (ranges : List Range) → AreSpread lowest ranges → have_byte ranges address ≡ true →
    lowest ≤ address
low_byte lowest address [] spread h = absurd (cc)
low_byte lowest address (range ∷ ranges) spread h =
    elim (or_cases (has_byte range.offset range.length address) (have_byte ranges address) h) [
      | inl here ↦
          let in_range = within range address here in
          let first = spread.1 in
          let low = in_range.0 in omega (arith, first, low)
      | inr later ↦
          let first = spread.1 in
          let low = low_byte (range.offset + range.length + 1) address ranges spread.3 later in omega (arith, first, low)
    ]

-- the bytes of the one are bytes of the other
abbrev Has : List Range → List Range → Type 0
Has first second = (address : ℕ) → have_byte first address ≡ true → have_byte second address ≡ true

first_low : (x y : Range) (xs ys : List Range) (lowest other : ℕ) → AreSpread lowest (x ∷ xs) →
    AreSpread other (y ∷ ys) → Has (x ∷ xs) (y ∷ ys) → y.offset ≤ x.offset
first_low x y xs ys lowest other sx sy h =
    let one = sx.2 in
    low_byte y.offset x.offset (y ∷ ys) (sy.0, omega arith, sy.2, sy.3)
    (h x.offset (or_left (has_byte x.offset x.length x.offset) (have_byte xs x.offset)
    (has x x.offset (omega arith) (omega (arith, one)))))

first_long : (x y : Range) (xs ys : List Range) (lowest other : ℕ) → AreSpread lowest (x ∷ xs) →
    AreSpread other (y ∷ ys) → x.offset ≡ y.offset → Has (x ∷ xs) (y ∷ ys) → x.length ≤ y.length
first_long x y xs ys lowest other sx sy same h = elim (cases_lt y.length x.length) [
  | inl longer ↦
      let end = y.offset + y.length in
      let inside : have_byte (x ∷ xs) end ≡ true =
      or_left (has_byte x.offset x.length end) (have_byte xs end)
      (has x end (omega (arith, same)) (omega (arith, same, longer))) in
      elim (or_cases (has_byte y.offset y.length end) (have_byte ys end) (h end inside)) [
        | inl here ↦ let in_range = within y end here in let high = in_range.1 in absurd (omega (arith, high))
        | inr later ↦
            let low = low_byte (y.offset + y.length + 1) end ys sy.3 later in absurd (omega (arith, low))
      ]
  | inr fits ↦ fits
]

-- of the ranges after a first one that is the same
tail_has : (x y : Range) (xs ys : List Range) (lowest other : ℕ) → AreSpread lowest (x ∷ xs) →
    AreSpread other (y ∷ ys) → x.offset ≡ y.offset → x.length ≡ y.length → Has (x ∷ xs) (y ∷ ys) → Has xs ys
tail_has x y xs ys lowest other sx sy offsets lengths h address has-it =
    let low = low_byte (x.offset + x.length + 1) address xs sx.3 has-it in
    elim (or_cases (has_byte y.offset y.length address) (have_byte ys address)
    (h address (or_right (has_byte x.offset x.length address) (have_byte xs address) has-it))) [
      | inl here ↦
          let in_range = within y address here in
          let high = in_range.1 in absurd (omega (arith, low, high, offsets, lengths))
      | inr later ↦ later
    ]

range_one : (x y : Range) → x.base ≡ y.base → x.offset ≡ y.offset → x.length ≡ y.length → x ≡ y
range_one x y b o l =
    ap (λ (n : Option ℕ). record x { base = n }) b
    ∙ (ap (λ (n : ℕ). record { base = y.base; offset = n; length = x.length }) o
    ∙ ap (λ (n : ℕ). record { base = y.base; offset = y.offset; length = n }) l)

ranges_one : (lowest other : ℕ) (xs ys : List Range) → AreSpread lowest xs → AreSpread other ys → Has xs ys → Has ys xs →
    xs ≡ ys
ranges_one lowest other [] [] sx sy h k = refl
ranges_one lowest other [] (y ∷ ys) sx sy h k =
    let one = sy.2 in
    absurd (true_false (sym (k y.offset (or_left (has_byte y.offset y.length y.offset) (have_byte ys y.offset)
    (has y y.offset (omega arith) (omega (arith, one)))))))
ranges_one lowest other (x ∷ xs) [] sx sy h k =
    let one = sx.2 in
    absurd (true_false (sym (h x.offset (or_left (has_byte x.offset x.length x.offset) (have_byte xs x.offset)
    (has x x.offset (omega arith) (omega (arith, one)))))))
ranges_one lowest other (x ∷ xs) (y ∷ ys) sx sy h k =
    let below = first_low x y xs ys lowest other sx sy h in
    let above = first_low y x ys xs other lowest sy sx k in
    let offsets : x.offset ≡ y.offset = omega (arith, below, above) in
    let shorter = first_long x y xs ys lowest other sx sy offsets h in
    let longer = first_long y x ys xs other lowest sy sx (sym offsets) k in
    let lengths : x.length ≡ y.length = omega (arith, shorter, longer) in
    ap₂ (λ (r : Range) (l : List Range). r ∷ l) (range_one x y (sx.0 ∙ sym sy.0) offsets lengths)
    (ranges_one (x.offset + x.length + 1) (y.offset + y.length + 1) xs ys sx.3 sy.3
    (tail_has x y xs ys lowest other sx sy offsets lengths h)
    (tail_has y x ys xs other lowest sy sx (sym offsets) (sym lengths) k))

-- ---- regions

abbrev made_of : ℕ → ℕ → ℕ → List ℕ → List ℕ → List Range → Region
made_of id enter leave outs keep ranges =
    record { id = id; enter = enter; leave = leave; outs = outs; keep = keep; ranges = ranges }

region_one : (run : Run) (x y : Region) → bare x ≡ bare y → IsLearnt run x → IsLearnt run y → x ≡ y
region_one run x y same lx ly =
    let id : x.id ≡ y.id = ap (λ (r : Region). r.id) same in
    let enter : x.enter ≡ y.enter = ap (λ (r : Region). r.enter) same in
    let leave : x.leave ≡ y.leave = ap (λ (r : Region). r.leave) same in
    let keep : x.keep ≡ y.keep =
    lx.keep ∙ (ap (λ (n : ℕ). filter (is_kept run n) all_registers) id ∙ sym ly.keep) in
    let outs : x.outs ≡ y.outs =
    lx.outs ∙ (ap (λ (n : ℕ). filter (is_out run n) all_registers) id ∙ sym ly.outs) in
    let bytes : (address : ℕ) → have_byte x.ranges address ≡ have_byte y.ranges address =
    λ address. lx.bytes address ∙ (ap (λ (n : ℕ). Written run n (Byte address)) id ∙ sym (ly.bytes address)) in
    let ranges : x.ranges ≡ y.ranges =
    ranges_one 0 0 x.ranges y.ranges lx.spread ly.spread (λ address h. sym (bytes address) ∙ h)
    (λ address h. bytes address ∙ h) in
    ap (λ (n : ℕ). made_of n x.enter x.leave x.outs x.keep x.ranges) id
    ∙ (ap (λ (n : ℕ). made_of y.id n x.leave x.outs x.keep x.ranges) enter
    ∙ (ap (λ (n : ℕ). made_of y.id y.enter n x.outs x.keep x.ranges) leave
    ∙ (ap (λ (n : List ℕ). made_of y.id y.enter y.leave n x.keep x.ranges) outs
    ∙ (ap (λ (n : List ℕ). made_of y.id y.enter y.leave y.outs n x.ranges) keep
    ∙ (ap (λ (n : List Range). made_of y.id y.enter y.leave y.outs y.keep n) ranges)))))

regions_one : (run : Run) (xs ys : List Region) → map bare xs ≡ map bare ys → AllByRecursion (IsLearnt run) xs →
    AllByRecursion (IsLearnt run) ys → xs ≡ ys
regions_one run [] [] same lx ly = refl
regions_one run [] (y ∷ ys) same lx ly = let e = ap length same in absurd (omega (arith, e))
regions_one run (x ∷ xs) [] same lx ly = let e = ap length same in absurd (omega (arith, e))
regions_one run (x ∷ xs) (y ∷ ys) same lx ly =
    let first : bare x ≡ bare y = cc in
    let rest : map bare xs ≡ map bare ys = ap (λ (l : List Region). drop 1 l) same in
    ap₂ (λ (r : Region) (l : List Region). r ∷ l) (region_one run x y first lx.0 ly.0)
    (regions_one run xs ys rest lx.1 ly.1)

pub learnt_is_one : (run : Run) (first second : List Region) → Learnt run first → Learnt run second → first ≡ second
learnt_is_one run first second h k = regions_one run first second (h.same ∙ sym k.same) h.each k.each
