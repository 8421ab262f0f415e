-- What notes declare lies in guest memory.
use Rattle.std.proofs.Common.{◌≡◌, ◌∙◌, ◌+◌, ◌-◌, ◌≤◌, ◌<◌, ◌%◌, ◌^◌, ◌==◌, ◌||◌, ℕ, Bool, true, false, List, [], ◌∷◌, Option, None, get_or, length}
use Rattle.std.proofs.Common.{refl, sym, ap, ap₂, subst, arith, zero-add, mod-eq_of_lt}
use Rattle.std.specs.Prelude.{nat_le, nat_lt}
use Rattle.std.specs.List.{AllByRecursion, list_any}
use Rattle.std.proofs.lemmas.Bool.{and_from, and_parts, or_left, or_right}
use Rattle.std.proofs.lemmas.Grind.{common_steps}
use Rattle.std.proofs.lemmas.Nat.Bits.{bit_at_above}
use Rattle.flow_base.specs.Guests.{is_inside}
use Rattle.enclosure_regions.specs.declared.region_parts.Range.{Range}
use Rattle.enclosure_regions.specs.declared.region_parts.Region.{Region}
use Rattle.enclosure_regions.specs.declared.break_kinds.Place.TheVariants.{Reg}
use Rattle.enclosure_regions.specs.Breaks.{has_byte}
use Rattle.enclosure_regions.specs.Turns.{base_value, start_of}
use Rattle.region_machine.specs.Within.{are_inside}
use Rattle.region_learn.specs.declared.notes.Notes.{Notes}
use Rattle.region_learn.specs.Private.Books.{BookOf, NotesOf}
use Rattle.region_learn.specs.Private.Declarations.{DeclareAll, Declares}
use Rattle.region_learn.specs.Learnt.{AreSpread, have_byte}
use Rattle.region_learn.specs.Private.Marks.{has_bit, marks_have}
use Rattle.region_learn.specs.Private.Spans.{End}
use Rattle.region_learn.specs.Unbroken.{IsTight}
use Rattle.region_learn.specs.Written.{Run, Written}
use Rattle.region_learn.proofs.LearntRegions.{all_from, no_notes, number_at}

le_true : (a b : ℕ) → a ≤ b → nat_le a b ≡ true
le_true a b h = grind (arith, common_steps)

lt_true : (a b : ℕ) → a < b → nat_lt a b ≡ true
lt_true a b h = grind (arith, common_steps)

le_of : (a b : ℕ) → nat_le a b ≡ true → a ≤ b
le_of a b h = grind (arith, common_steps)

-- a range without a base starts at its offset
pub start_plain : (kept : List ℕ) (range : Range) → range.base ≡ None → range.offset < 2 ^ 32 →
    start_of kept range ≡ range.offset
start_plain kept range none small =
    ap (λ (b : Option ℕ). (base_value kept b + range.offset) % 2 ^ 32) none
    ∙ (ap (λ (n : ℕ). n % 2 ^ 32) (zero-add range.offset) ∙ mod-eq_of_lt small)

small_offset : (range : Range) (limit : ℕ) → limit ≤ 4294967295 → range.offset + range.length ≤ limit →
    range.offset < 2 ^ 32
small_offset range limit room end = omega (arith, room, end)

bytes_plain : (kept : List ℕ) (address lowest limit : ℕ) (ranges : List Range) → limit ≤ 4294967295 →
    AreSpread lowest ranges → End limit ranges →
    list_any (λ range. has_byte (start_of kept range) range.length address) ranges ≡ have_byte ranges address
bytes_plain kept address lowest limit [] room spread end = refl
bytes_plain kept address lowest limit (range ∷ ranges) room spread end =
    ap₂ (λ (b c : Bool). b || c)
    (ap (λ (n : ℕ). has_byte n range.length address)
    (start_plain kept range spread.0 (small_offset range limit room end.0)))
    (bytes_plain kept address (range.offset + range.length + 1) limit ranges room spread.3 end.1)

first_byte : (range : Range) → 1 ≤ range.length → has_byte range.offset range.length range.offset ≡ true
first_byte range one =
    and_from _ _ (le_true range.offset range.offset (omega arith))
    (lt_true range.offset (range.offset + range.length) (omega (arith, one)))

range_inside : (base offset count : ℕ) → base + 16777216 ≤ 4294967295 → base ≤ offset →
    offset + count ≤ base + 16777216 → is_inside base offset count ≡ true
range_inside base offset count room low high =
    or_right (count == 0) _ (and_from _ _ (le_true base offset low)
    (and_from _ _ (le_true (offset + count) (base + 16777216) high)
    (le_true (offset + count) (2 ^ 32) (omega (arith, room, high)))))

ranges_inside : (base lowest : ℕ) (kept : List ℕ) (ranges : List Range) → base + 16777216 ≤ 4294967295 →
    AreSpread lowest ranges → End (base + 16777216) ranges →
    ((address : ℕ) → have_byte ranges address ≡ true → base ≤ address) →
    are_inside ranges kept base ≡ true
ranges_inside base lowest kept [] room spread end low = refl
ranges_inside base lowest kept (range ∷ ranges) room spread end low =
    let first : base ≤ range.offset =
    low range.offset (or_left (has_byte range.offset range.length range.offset) (have_byte ranges range.offset)
    (first_byte range spread.2)) in
    let start : start_of kept range ≡ range.offset =
    start_plain kept range spread.0 (small_offset range (base + 16777216) room end.0) in
    and_from _ _
    (ap (λ (n : ℕ). is_inside base n range.length) start ∙ range_inside base range.offset range.length room first end.0)
    (ranges_inside base (range.offset + range.length + 1) kept ranges room spread.3 end.1
    (λ address h. low address (or_right (has_byte range.offset range.length address) (have_byte ranges address) h)))

high_bit : (word register : ℕ) → word < 2 ^ 32 → 32 ≤ register → has_bit word register ≡ false
high_bit word register small high = ap (λ (n : ℕ). n == 1) (bit_at_above word 32 register small high)

pub tight_of : (run : Run) (region declared : Region) (notes : Notes) → notes.region ≡ declared.id →
    run.start.setting.base + 16777216 ≤ 4294967295 → NotesOf run.regions run.turns run.start notes →
    Declares region notes declared → IsTight run declared
tight_of run region declared notes number room of made =
    let low : notes.base ≡ run.start.setting.base = of.base in
    let noted : notes.base + 16777216 ≤ 4294967295 = omega (arith, low, room) in
    record {
      registers = λ register high.
          sym (of.places (Reg register) ∙ ap (λ (n : ℕ). Written run n (Reg register)) number)
          ∙ high_bit notes.written register made.word high;
      inside = λ kept. subst (λ (n : ℕ). are_inside declared.ranges kept n ≡ true) low
          (ranges_inside notes.base 0 kept declared.ranges noted made.spans.spread made.spans.end
          (λ address h. le_of notes.base address
          (and_parts (nat_le notes.base address) (marks_have notes.bytes (address - notes.base))
          (sym (made.bytes address) ∙ h)).0));
      bytes = λ kept address.
          bytes_plain kept address 0 (notes.base + 16777216) declared.ranges noted made.spans.spread made.spans.end;
    }

pub tight_all : (run : Run) (book : List Notes) (declared : List Region) → length book ≡ length run.regions →
    run.start.setting.base + 16777216 ≤ 4294967295 →
    BookOf run.regions run.turns run.start book → DeclareAll run.regions book declared →
    AllByRecursion (IsTight run) declared
tight_all run book declared count room of made = all_from (IsTight run) declared (λ place none below.
    let within : place < length run.regions = omega (arith, made.count, below) in
    let one = made.each place none none no_notes within in
    tight_of run (get_or run.regions place none) (get_or declared place none) (get_or book place no_notes)
    (number_at book run.regions place no_notes none of.numbers within ∙ sym one.id) room
    (of.each place no_notes (omega (arith, count, within))) one)
