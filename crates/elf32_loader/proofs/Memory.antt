-- Guest memory of an image: at each address the byte of the segment that holds it.
use Rattle.std.proofs.Common.{◌≡◌, ◌⊎◌, inl, inr, ℕ, zero, suc, ◌-◌, ◌<◌, ◌≤◌, Bool, true, false, List, [], ◌∷◌, length, slice_index, refl, subst, ap, ◌∙◌, arith, IsTrue}
use Rattle.std.specs.Prelude.{slice_index_or}
use Rattle.std.proofs.lemmas.Grind.{common_steps}
use Rattle.std.proofs.lemmas.Bool.Decides.{nat_tests}
use Rattle.elf32_loader.specs.declared.segments.Segment.{Segment}
use Rattle.elf32_loader.specs.Headers.{HoldsAddress, IsLoad, header_at}
use Rattle.elf32_loader.specs.Pictures.{Picture, byte_in, mem}
use Rattle.elf32_loader.specs.Programs.{IsImage, IsLoaded, loaded_byte}
use Rattle.elf32_loader.specs.Segments.{end_of, holds, is_ascending}

-- segments after the first ascend
pub rest_ascends : (first second : Segment) (rest : List Segment) → IsTrue (is_ascending (first ∷ second ∷ rest))
    → IsTrue (is_ascending (second ∷ rest))
rest_ascends first second rest ascends = grind (arith, nat_tests, common_steps)

pub ends_before : (first second : Segment) (rest : List Segment) → IsTrue (is_ascending (first ∷ second ∷ rest))
    → end_of first ≤ second.address
ends_before first second rest ascends = grind (arith, nat_tests, common_steps)

-- the first segment ends at or below each later one
pub later_begins : (first : Segment) (rest : List Segment) → IsTrue (is_ascending (first ∷ rest))
    → (place : ℕ) (other : Segment)
    → place < length rest → end_of first ≤ (slice_index_or rest place other).address
later_begins first [] ascends place other below = absurd (omega arith)
later_begins first (second ∷ rest) ascends zero other below = ends_before first second rest ascends
later_begins first (second ∷ rest) ascends (suc place) other below =
    let later : end_of second ≤ (slice_index_or rest place other).address =
    later_begins second rest (rest_ascends first second rest ascends) place other (omega arith) in
    let here : end_of first ≤ second.address = ends_before first second rest ascends in
    omega arith

pub holds_true : (segment : Segment) (address : ℕ) → segment.address ≤ address → address < end_of segment
    → holds segment address ≡ true
holds_true segment address above below = grind (arith, nat_tests)

holds_false : (segment : Segment) (address : ℕ) → end_of segment ≤ address → holds segment address ≡ false
holds_false segment address above = grind (arith, nat_tests)

-- memory has the byte of the segment that holds an address
byte_of : (segments : List Segment) → IsTrue (is_ascending segments) → (place : ℕ) (other : Segment)
    → place < length segments
    → (address : ℕ) → (slice_index_or segments place other).address ≤ address
    → address < end_of (slice_index_or segments place other)
    → byte_in segments address ≡ slice_index (slice_index_or segments place other).bytes
    (address - (slice_index_or segments place other).address)
byte_of [] ascends place other within address above below = absurd (omega arith)
byte_of (first ∷ rest) ascends zero other within address above below = rw (holds_true first address above below) refl
byte_of (first ∷ []) ascends (suc place) other within address above below = absurd (omega arith)
byte_of (first ∷ (second ∷ rest)) ascends (suc place) other within address above below =
    let later = later_begins first (second ∷ rest) ascends place other (omega arith) in
    let passed : holds first address ≡ false = holds_false first address (omega arith) in
    rw passed (byte_of (second ∷ rest) (rest_ascends first second rest ascends) place other (omega arith) address above below)

pub memory_is_loaded : (file : List ℕ) (picture : Picture) → IsImage file picture → (index : ℕ) → IsLoad file index
    → (place : ℕ) → HoldsAddress (header_at file index) place
    → mem picture place ≡ loaded_byte file (header_at file index) place
memory_is_loaded file picture image index is_load place here =
    let stands = image.each_load_stands index is_load in
    let segment : Segment = stands.0 in
    let found = stands.1 in
    let loaded : IsLoaded file (header_at file index) segment = stands.2 in
    let above : segment.address ≤ place = omega (arith, loaded.address, here.0) in
    let below : place < end_of segment = omega (arith, loaded.address, loaded.size, here.1) in
    let P : Segment → Type 0 =
    λ s. s.address ≤ place → place < end_of s → byte_in picture.segments place ≡ slice_index s.bytes
    (place - s.address) in
    let byte : P segment = subst P found.2 (byte_of picture.segments image.ascends found.0 segment found.1 place) in
    byte above below
    ∙ ap (λ (n : ℕ). slice_index segment.bytes (place - n)) loaded.address
    ∙ loaded.bytes place here

pub either : (test : Bool) → (test ≡ true) ⊎ (test ≡ false)
either true = inl refl
either false = inr refl

pub begins_below : (segment : Segment) (address : ℕ) → holds segment address ≡ true → segment.address ≤ address
begins_below segment address inside = grind (arith, nat_tests, common_steps)

pub ends_above : (segment : Segment) (address : ℕ) → holds segment address ≡ true → address < end_of segment
ends_above segment address inside = grind (arith, nat_tests, common_steps)

-- memory is 0 where no segment holds the address
none_holds : (segments : List Segment) (address : ℕ)
    → ((place : ℕ) (other : Segment) → place < length segments → ¬ (holds (slice_index_or segments place other) address ≡ true))
    → byte_in segments address ≡ 0
none_holds [] address none = refl
none_holds (first ∷ rest) address none = elim (either (holds first address)) [
  | inl inside ↦ absurd (none zero first (omega arith) inside)
  | inr outside ↦ rw outside (none_holds rest address (λ place other below. none (suc place) other (omega arith)))
]

pub rest_is_zero : (file : List ℕ) (picture : Picture) → IsImage file picture
    → (place : ℕ) → ((index : ℕ) → IsLoad file index → ¬ HoldsAddress (header_at file index) place)
    → mem picture place ≡ 0
rest_is_zero file picture image place nowhere =
    none_holds picture.segments place (λ at other below inside.
    let load = image.each_is_load at other below in
    let loaded : IsLoaded file (header_at file load.0) (slice_index_or picture.segments at other) = load.2 in
    let above : (slice_index_or picture.segments at other).address ≤ place =
    begins_below (slice_index_or picture.segments at other) place inside in
    let under : place < end_of (slice_index_or picture.segments at other) =
    ends_above (slice_index_or picture.segments at other) place inside in
    nowhere load.0 load.1 (omega (arith, loaded.address), omega (arith, loaded.address, loaded.size)))
