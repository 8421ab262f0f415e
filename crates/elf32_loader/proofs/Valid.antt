-- The picture of a program file's image is that of an image.
use Rattle.std.proofs.Common.{◌≡◌, ◌⊎◌, inl, inr, ℕ, zero, suc, ◌+◌, ◌%◌, ◌<◌, ◌≤◌, true, List, [], ◌∷◌, length, refl, subst, sym, ap, ◌∙◌, arith, IsTrue}
use Rattle.std.specs.Prelude.{All, Contains, slice_index_or}
use Rattle.std.proofs.lemmas.Bool.{cases_lt, false≢true}
use Rattle.std.proofs.lemmas.Bool.Decides.{nat_tests}
use Rattle.std.proofs.lemmas.Grind.{common_steps}
use Rattle.std.proofs.lemmas.List.Elements.{All-head, All-tail}
use Rattle.elf32_loader.specs.declared.segments.Segment.{Segment}
use Rattle.elf32_loader.specs.FaultTable.{HasNoFault, IsFileBase}
use Rattle.elf32_loader.specs.Headers.{HoldsAddress, entry_of, header_at, header_count}
use Rattle.elf32_loader.specs.Pictures.{Picture}
use Rattle.elf32_loader.specs.Programs.{IsImage}
use Rattle.elf32_loader.specs.Private.Searches.{AreLoads, is_climbing}
use Rattle.elf32_loader.specs.Segments.{are_inside, end_of, highest_base, highest_end, holds, is_ascending, is_base_of, is_entry, holds_segment, rounded_down, some_holds}
use Rattle.flow_base.specs.Guests.{memory_size}
use Rattle.elf32_loader.proofs.Loads.{in_range}
use Rattle.elf32_loader.proofs.Memory.{either, holds_true, later_begins}

-- climbing segments of which there is one ascend
ascends_from : (segments : List Segment) (x : Segment) → Contains segments x → IsTrue (is_climbing segments)
    → IsTrue (is_ascending segments)
ascends_from [] x contained climbs = absurd (omega (arith, contained.1))
ascends_from (first ∷ rest) x contained climbs = climbs

-- all loads of a file without faults make its image
pub image_from : (file : List ℕ) (base entry : ℕ) (segments loaded : List Segment) → HasNoFault file
    → IsFileBase file base
    → entry ≡ entry_of file → segments ≡ loaded → AreLoads file (header_count file) loaded
    → IsImage file (record { base = base; entry = entry; segments = segments })
image_from file base entry segments loaded clean is_base_of at_entry same loads =
    let moved : AreLoads file (header_count file) segments =
    subst (λ (xs : List Segment). AreLoads file (header_count file) xs) (sym same) loads in
    let lowest = moved.stand is_base_of.0 is_base_of.1.0.0 is_base_of.1.0 in
    record {
      no_fault = clean;
      base = is_base_of;
      entry = at_entry;
      ascends = ascends_from segments lowest.0 lowest.1 moved.climbs;
      each_is_load = λ place other below. let found = moved.each place other below in (found.0, found.2, found.3);
      each_load_stands = λ index is_load. moved.stand index is_load.0 is_load;
    }

-- no segment begins below the first one
first_lowest : (first : Segment) (rest : List Segment) (place : ℕ) (other : Segment)
    → IsTrue (is_ascending (first ∷ rest))
    → place < length (first ∷ rest) → first.address ≤ (slice_index_or (first ∷ rest) place other).address
first_lowest first rest zero other ascends below = omega arith
first_lowest first rest (suc place) other ascends below =
    let later : end_of first ≤ (slice_index_or rest place other).address =
    later_begins first rest ascends place other (omega arith) in
    omega arith

-- the base is that of the first segment
based_on : (file : List ℕ) (base entry : ℕ) (segments : List Segment)
    → IsImage file (record { base = base; entry = entry; segments = segments }) → IsTrue (is_base_of segments base)
based_on file base entry [] image = absurd (false≢true image.ascends)
based_on file base entry (first ∷ rest) image =
    let lowest = image.base.0 in
    let is_lowest = image.base.1 in
    let stands = image.each_load_stands lowest is_lowest.0 in
    let own = image.each_is_load zero first (omega arith) in
    let P : Segment → Type 0 = λ s. first.address ≤ s.address in
    let below : first.address ≤ (stands.0).address =
    subst P stands.1.2 (first_lowest first rest stands.1.0 stands.0 image.ascends stands.1.1) in
    let above : (header_at file lowest).address ≤ (header_at file own.0).address = is_lowest.1 own.0 own.1 in
    let same : (header_at file lowest).address ≡ first.address =
    omega (arith, below, above, own.2.address, (stands.2).address) in
    let rounded : base ≡ rounded_down first.address = image.base.2 ∙ ap rounded_down same in
    let low : base ≤ highest_base = elim (cases_lt highest_base base) [
      | inl high ↦ absurd (image.no_fault.loads.has_low_base (base, image.base, high))
      | inr low ↦ low
    ] in
    grind (arith, nat_tests)

-- each segment is inside where each one is
each_inside : (base : ℕ) (segments : List Segment) → All (λ s. IsTrue (holds_segment base s)) segments
    → IsTrue (are_inside base segments)
each_inside base [] all = refl
each_inside base (first ∷ rest) all =
    let here : IsTrue (holds_segment base first) = All-head (λ (s : Segment). IsTrue (holds_segment base s)) first rest all in
    let there : IsTrue (are_inside base rest) =
    each_inside base rest (All-tail (λ (s : Segment). IsTrue (holds_segment base s)) first rest all) in
    grind (arith, nat_tests, common_steps)

is_inside : (base : ℕ) (segment : Segment) → base ≤ segment.address → end_of segment ≤ base + memory_size
    → end_of segment ≤ highest_end → IsTrue (holds_segment base segment)
is_inside base segment based guest bounds = grind (arith, nat_tests)

inside : (file : List ℕ) (picture : Picture) → IsImage file picture → IsTrue (are_inside picture.base picture.segments)
inside file picture image =
    each_inside picture.base picture.segments (λ place other below.
    let segment : Segment = slice_index_or picture.segments place other in
    let found = image.each_is_load place other below in
    let range = in_range file picture.base found.0 image.no_fault image.base found.1 in
    let lowest = image.base.1.1 found.0 found.1 in
    let based : picture.base ≤ segment.address = omega (arith, image.base.2, lowest, found.2.address) in
    let guest : end_of segment ≤ picture.base + memory_size =
    omega (arith, range.in_guest, found.2.address, found.2.size) in
    let bounds : end_of segment ≤ highest_end = omega (arith, range.in_bounds, found.2.address, found.2.size) in
    is_inside picture.base segment based guest bounds)

-- a segment that holds an address is one that some holds
one_holds : (segments : List Segment) (place : ℕ) (other : Segment) (address : ℕ) → place < length segments
    → holds (slice_index_or segments place other) address ≡ true → some_holds segments address ≡ true
one_holds [] place other address below held = absurd (omega arith)
one_holds (first ∷ rest) zero other address below held = grind (arith, common_steps)
one_holds (first ∷ rest) (suc place) other address below held =
    let later : some_holds rest address ≡ true = one_holds rest place other address (omega arith) held in
    grind (arith, common_steps)

either_zero : (n : ℕ) → (n ≡ 0) ⊎ (n ≡ 0 → ⊥)
either_zero zero = inl refl
either_zero (suc n) = inr (λ same. absurd (omega arith))

-- an instruction may stand at the entry
entered : (file : List ℕ) (picture : Picture) → IsImage file picture → IsTrue (is_entry picture.segments picture.entry)
entered file picture image =
    let aligned : picture.entry % 4 ≡ 0 = elim (either_zero (picture.entry % 4)) [
      | inl even ↦ even
      | inr odd ↦ absurd (image.no_fault.loads.has_entry (inl (λ zero. odd (ap (λ (n : ℕ). n % 4) image.entry ∙ zero))))
    ] in
    let held : some_holds picture.segments picture.entry ≡ true =
    elim (either (some_holds picture.segments picture.entry)) [
      | inl some ↦ some
      | inr none ↦ absurd (image.no_fault.loads.has_entry (inr (λ index held.
          let is_load = held.0 in
          let here : HoldsAddress (header_at file index) (entry_of file) = held.1 in
          let stands = image.each_load_stands index is_load in
          let above : (stands.0).address ≤ picture.entry = omega (arith, here.0, (stands.2).address, image.entry) in
          let below : picture.entry < end_of stands.0 =
          omega (arith, here.1, (stands.2).address, (stands.2).size, image.entry) in
          let P : Segment → Type 0 = λ s. holds s picture.entry ≡ true in
          let holding : P (slice_index_or picture.segments stands.1.0 stands.0) =
          subst P (sym stands.1.2) (holds_true stands.0 picture.entry above below) in
          let some = one_holds picture.segments stands.1.0 stands.0 picture.entry stands.1.1 holding in
          false≢true (sym none ∙ some))))
    ] in
    grind (arith, nat_tests)

-- what the type of an image keeps
pub record Keeps (picture : Picture) : Type 0 where
  pub ascends : IsTrue (is_ascending picture.segments)
  pub based : IsTrue (is_base_of picture.segments picture.base)
  pub inside : IsTrue (are_inside picture.base picture.segments)
  pub entered : IsTrue (is_entry picture.segments picture.entry)

pub keeps : (file : List ℕ) (picture : Picture) → IsImage file picture → Keeps picture
keeps file picture image = record {
  ascends = image.ascends;
  based = based_on file picture.base picture.entry picture.segments image;
  inside = inside file picture image;
  entered = entered file picture image;
}
