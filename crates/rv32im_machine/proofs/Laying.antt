-- Guest memory at the start has at each address the byte of the segment that holds it, and 0 where none does.
use Rattle.std.proofs.Common.{◌≡◌, ◌⊎◌, inl, inr, ℕ, ◌+◌, ◌-◌, ◌<◌, ◌≤◌, Bool, true, false, List, [], ◌∷◌, ◌++◌, length, take, drop, replicate, slice_index, slice_index_or, refl, sym, ap, ◌∙◌, arith, IsTrue, length-append, length-drop, if◌then◌else◌}
use Rattle.std.proofs.lemmas.List.{get_or_append_left, get_or-append_right, get_or-take, get_or-drop, get_or-replicate, get_or_past, length-replicate, length-take-le}
use Rattle.std.proofs.lemmas.Grind.{common_steps}
use Rattle.std.proofs.lemmas.Bool.{cases_lt}
use Rattle.std.proofs.lemmas.Bool.Decides.{nat_tests}
use Rattle.flow_base.specs.Guests.{memory_size}
use Rattle.elf32_loader.specs.declared.segments.Segment.{Segment}
use Rattle.elf32_loader.specs.Pictures.{Picture, byte_in}
use Rattle.elf32_loader.specs.Segments.{are_inside, end_of, holds, is_ascending}
use Rattle.rv32im_machine.specs.Start.{HoldsImage, first_memory, laid, laid_at, zeros}
use Rattle.rv32im_machine.specs.State.{State}

either : (test : Bool) → (test ≡ true) ⊎ (test ≡ false)
either true = inl refl
either false = inr refl

-- ---- zeros

pub zeros_byte : (count index : ℕ) → slice_index (zeros count) index ≡ 0
unfolding zeros
zeros_byte count index =
    let size : length (replicate {A = ℕ} count 0) ≡ count = length-replicate {A = ℕ} count 0 in
    elim (cases_lt index count) [
      | inl below ↦ get_or-replicate count index 0 0 below
      | inr past ↦ get_or_past (replicate {A = ℕ} count 0) index 0 (omega arith)
    ]

pub zeros_length : (count : ℕ) → length (zeros count) ≡ count
unfolding zeros
zeros_length count = length-replicate {A = ℕ} count 0

-- ---- bytes laid over memory, or any list over another

pub laid_at_length : {X : Type 0} (at : ℕ) (bytes memory : List X) → at + length bytes ≤ length memory
    → length (laid_at at bytes memory) ≡ length memory
laid_at_length at bytes memory fits =
    let front : length (take at memory) ≡ at = length-take-le at memory (omega arith) in
    simp (length-append, length-drop, front) (omega arith)

pub laid_at_below : {X : Type 0} (at : ℕ) (bytes memory : List X) (index : ℕ) (d : X)
    → at + length bytes ≤ length memory → index < at
    → slice_index_or (laid_at at bytes memory) index d ≡ slice_index_or memory index d
laid_at_below at bytes memory index d fits below =
    let front : length (take at memory) ≡ at = length-take-le at memory (omega arith) in
    get_or_append_left (take at memory) (bytes ++ drop (at + length bytes) memory) d index (omega arith)
    ∙ get_or-take at memory index d below

pub laid_at_within : {X : Type 0} (at : ℕ) (bytes memory : List X) (index : ℕ) (d : X)
    → at + length bytes ≤ length memory → at ≤ index → index < at + length bytes
    → slice_index_or (laid_at at bytes memory) index d ≡ slice_index_or bytes (index - at) d
laid_at_within at bytes memory index d fits above below =
    let front : length (take at memory) ≡ at = length-take-le at memory (omega arith) in
    get_or-append_right (take at memory) (bytes ++ drop (at + length bytes) memory) at index d front above
    ∙ get_or_append_left bytes (drop (at + length bytes) memory) d (index - at) (omega arith)

pub laid_at_above : {X : Type 0} (at : ℕ) (bytes memory : List X) (index : ℕ) (d : X)
    → at + length bytes ≤ length memory → at + length bytes ≤ index
    → slice_index_or (laid_at at bytes memory) index d ≡ slice_index_or memory index d
laid_at_above at bytes memory index d fits above =
    let front : length (take at memory) ≡ at = length-take-le at memory (omega arith) in
    let same : at + length bytes + (index - at - length bytes) ≡ index = omega arith in
    get_or-append_right (take at memory) (bytes ++ drop (at + length bytes) memory) at index d front (omega arith)
    ∙ get_or-append_right bytes (drop (at + length bytes) memory) (length bytes) (index - at) d refl (omega arith)
    ∙ get_or-drop (at + length bytes) memory (index - at - length bytes) d
    ∙ ap (λ (n : ℕ). slice_index_or memory n d) same

-- ---- segments laid over memory

-- the byte that segments have at an address, and another where none holds it
over : List Segment → ℕ → ℕ → ℕ
over [] address under = under
over (segment ∷ segments) address under =
    if holds segment address then slice_index segment.bytes (address - segment.address) else over segments address under

over_zero : (segments : List Segment) (address : ℕ) → over segments address 0 ≡ byte_in segments address
unfolding over
over_zero [] address = refl
over_zero (segment ∷ segments) address = rw (over_zero segments address) refl

rest_ascends : (first second : Segment) (rest : List Segment) → IsTrue (is_ascending (first ∷ second ∷ rest))
    → IsTrue (is_ascending (second ∷ rest))
rest_ascends first second rest ascends = grind (arith, nat_tests, common_steps)

ends_before : (first second : Segment) (rest : List Segment) → IsTrue (is_ascending (first ∷ second ∷ rest))
    → end_of first ≤ second.address
ends_before first second rest ascends = grind (arith, nat_tests, common_steps)

begins_below : (segment : Segment) (address : ℕ) → holds segment address ≡ true → segment.address ≤ address
begins_below segment address inside = grind (arith, nat_tests, common_steps)

ends_above : (segment : Segment) (address : ℕ) → holds segment address ≡ true → address < end_of segment
ends_above segment address inside = grind (arith, nat_tests, common_steps)

holds_true : (segment : Segment) (address : ℕ) → segment.address ≤ address → address < end_of segment → holds segment address ≡ true
holds_true segment address above below = grind (arith, nat_tests)

holds_false : (segment : Segment) (address : ℕ) → address < segment.address → holds segment address ≡ false
holds_false segment address below = grind (arith, nat_tests)

outside : (segment : Segment) (address : ℕ) → holds segment address ≡ false
    → (address < segment.address) ⊎ (end_of segment ≤ address)
outside segment address none = elim (cases_lt address segment.address) [
  | inl below ↦ inl below
  | inr above ↦ elim (cases_lt address (end_of segment)) [
    | inl within ↦ cc (holds_true segment address above within)
    | inr past ↦ inr past
  ]
]

first_inside : (base : ℕ) (segment : Segment) (segments : List Segment) → IsTrue (are_inside base (segment ∷ segments))
    → (base ≤ segment.address) × (end_of segment ≤ base + memory_size)
first_inside base segment segments inside = grind (arith, nat_tests, common_steps)

rest_inside : (base : ℕ) (segment : Segment) (segments : List Segment) → IsTrue (are_inside base (segment ∷ segments))
    → IsTrue (are_inside base segments)
rest_inside base segment segments inside = grind (arith, nat_tests, common_steps)

-- no later segment holds an address below the end of the first
none_later : (first : Segment) (rest : List Segment) (address under : ℕ) → IsTrue (is_ascending (first ∷ rest))
    → address < end_of first → over rest address under ≡ under
unfolding over
none_later first [] address under ascends below = refl
none_later first (second ∷ rest) address under ascends below =
    let here : end_of first ≤ second.address = ends_before first second rest ascends in
    let later : address < end_of second = omega arith in
    rw (holds_false second address (omega arith))
    (none_later second rest address under (rest_ascends first second rest ascends) later)

over_held : (segment : Segment) (segments : List Segment) (address under : ℕ) → holds segment address ≡ true
    → over (segment ∷ segments) address under ≡ slice_index segment.bytes (address - segment.address)
unfolding over
over_held segment segments address under inside = rw inside refl

over_passed : (segment : Segment) (segments : List Segment) (address under : ℕ) → holds segment address ≡ false
    → over (segment ∷ segments) address under ≡ over segments address under
unfolding over
over_passed segment segments address under none = rw none refl

over_none : (address under : ℕ) → over [] address under ≡ under
unfolding over
over_none address under = refl

-- a segment laid over memory has its own bytes, and leaves the others as they were
held_byte : (base : ℕ) (segment : Segment) (memory : List ℕ) (address : ℕ) → base ≤ segment.address
    → end_of segment ≤ base + length memory → holds segment address ≡ true
    → slice_index (laid_at (segment.address - base) segment.bytes memory) (address - base)
    ≡ slice_index segment.bytes (address - segment.address)
held_byte base segment memory address low high inside =
    let above : segment.address ≤ address = begins_below segment address inside in
    let below : address < end_of segment = ends_above segment address inside in
    let same : (address - base) - (segment.address - base) ≡ address - segment.address = omega arith in
    laid_at_within (segment.address - base) segment.bytes memory (address - base) 0 (omega arith) (omega arith) (omega arith)
    ∙ ap (λ (n : ℕ). slice_index segment.bytes n) same

other_byte : (base : ℕ) (segment : Segment) (memory : List ℕ) (address : ℕ) → base ≤ segment.address
    → end_of segment ≤ base + length memory → base ≤ address → holds segment address ≡ false
    → slice_index (laid_at (segment.address - base) segment.bytes memory) (address - base)
    ≡ slice_index memory (address - base)
other_byte base segment memory address low high above none = elim (outside segment address none) [
  | inl before ↦ laid_at_below (segment.address - base) segment.bytes memory (address - base) 0 (omega arith) (omega arith)
  | inr after ↦ laid_at_above (segment.address - base) segment.bytes memory (address - base) 0 (omega arith) (omega arith)
]

-- of segments laid over memory an address has the byte of the one that holds it, and else what memory had
laid_byte : (base : ℕ) (segments : List Segment) (memory : List ℕ) (address : ℕ) → IsTrue (is_ascending segments)
    → IsTrue (are_inside base segments) → length memory ≡ memory_size → base ≤ address
    → slice_index (laid base segments memory) (address - base)
    ≡ over segments address (slice_index memory (address - base))
laid_byte base [] memory address ascends inside size above = sym (over_none address (slice_index memory (address - base)))
laid_byte base (segment ∷ []) memory address ascends inside size above =
    let fits = first_inside base segment [] inside in
    let low : base ≤ segment.address = fits.0 in
    let high : end_of segment ≤ base + length memory = omega (arith, fits.1) in
    let under : ℕ = slice_index memory (address - base) in
    elim (either (holds segment address)) [
      | inl held ↦ held_byte base segment memory address low high held ∙ sym (over_held segment [] address under held)
      | inr none ↦ other_byte base segment memory address low high above none
          ∙ sym (over_passed segment [] address under none ∙ over_none address under)
    ]
laid_byte base (segment ∷ (next ∷ rest)) memory address ascends inside size above =
    let fits = first_inside base segment (next ∷ rest) inside in
    let low : base ≤ segment.address = fits.0 in
    let high : end_of segment ≤ base + length memory = omega (arith, fits.1) in
    let under : ℕ = slice_index memory (address - base) in
    let below : List ℕ = laid_at (segment.address - base) segment.bytes memory in
    let same : length below ≡ length memory = laid_at_length (segment.address - base) segment.bytes memory (omega arith) in
    let later : slice_index (laid base (next ∷ rest) below) (address - base) ≡ over (next ∷ rest) address (slice_index below (address - base)) =
    laid_byte base (next ∷ rest) below address (rest_ascends segment next rest ascends) (rest_inside base segment (next ∷ rest) inside) (same ∙ size) above in
    elim (either (holds segment address)) [
      | inl held ↦ later
          ∙ none_later segment (next ∷ rest) address (slice_index below (address - base)) ascends (ends_above segment address held)
          ∙ held_byte base segment memory address low high held
          ∙ sym (over_held segment (next ∷ rest) address under held)
      | inr none ↦ later
          ∙ ap (λ (byte : ℕ). over (next ∷ rest) address byte) (other_byte base segment memory address low high above none)
          ∙ sym (over_passed segment (next ∷ rest) address under none)
    ]

pub holds_image : (picture : Picture) (state : State) → IsTrue (is_ascending picture.segments)
    → IsTrue (are_inside picture.base picture.segments) → state.store.memory ≡ first_memory picture
    → HoldsImage picture state
unfolding first_memory
holds_image picture state ascends inside memory address above below =
    ap (λ (bytes : List ℕ). slice_index bytes (address - picture.base)) memory
    ∙ laid_byte picture.base picture.segments (zeros memory_size) address ascends inside (zeros_length memory_size) above
    ∙ ap (λ (byte : ℕ). over picture.segments address byte) (zeros_byte memory_size (address - picture.base))
    ∙ over_zero picture.segments address
