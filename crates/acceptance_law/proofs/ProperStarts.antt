-- The values with which a guest starts are a guest's.
use Rattle.std.proofs.Common.{◌≡◌, ℕ, zero, suc, ◌+◌, ◌-◌, ◌^◌, ◌≤◌, ◌<◌, ◌++◌, ◌∷◌, [], true, List}
use Rattle.std.proofs.Common.{length, take, drop, arith, nat_le}
use Rattle.std.specs.Prelude.{replicate, slice_index, slice_set}
use Rattle.std.proofs.lemmas.Bool.{and_parts, leb-true}
use Rattle.flow_base.specs.Guests.{memory_size}
use Rattle.elf32_loader.specs.declared.segments.Segment.{Segment}
use Rattle.elf32_loader.specs.Pictures.{Picture}
use Rattle.elf32_loader.specs.Segments.{are_inside, is_ascending, is_base_of, is_entry, holds_segment, end_of, highest_end}
use Rattle.elf32_loader.specs.Segments.{highest_base}
use Rattle.rv32im_machine.specs.Start.{zeros, laid_at, laid, first_memory, first_registers, top_of, first_break}
use Rattle.acceptance_law.specs.Inputs.{AreAllWords, AreBytes}
use Rattle.acceptance_law.specs.GuestLaws.{GuestStartLaw, HasBytes}

-- ---- lists of bounded numbers

abbrev AreBelow : ℕ → List ℕ → Type 0
AreBelow limit numbers = (index : ℕ) → slice_index numbers index < limit

below_cons : (limit x : ℕ) (xs : List ℕ) → x < limit → AreBelow limit xs → AreBelow limit (x ∷ xs)
below_cons limit x xs first rest zero = first
below_cons limit x xs first rest (suc i) = rest i

below_append : (limit : ℕ) (xs ys : List ℕ) → AreBelow limit xs → AreBelow limit ys → AreBelow limit (xs ++ ys)
below_append limit [] ys first second = second
below_append limit (x ∷ xs) ys first second =
    below_cons limit x (xs ++ ys) (first 0) (below_append limit xs ys (λ j. first (suc j)) second)

below_take : (limit count : ℕ) (xs : List ℕ) → 0 < limit → AreBelow limit xs → AreBelow limit (take count xs)
below_take limit zero xs some all = λ index. some
below_take limit (suc count) [] some all = λ index. some
below_take limit (suc count) (x ∷ xs) some all =
    below_cons limit x (take count xs) (all 0) (below_take limit count xs some (λ j. all (suc j)))

below_drop : (limit count : ℕ) (xs : List ℕ) → AreBelow limit xs → AreBelow limit (drop count xs)
below_drop limit zero xs all = all
below_drop limit (suc count) [] all = all
below_drop limit (suc count) (x ∷ xs) all = below_drop limit count xs (λ j. all (suc j))

below_replicate : (limit count : ℕ) → 0 < limit → AreBelow limit (replicate count 0)
below_replicate limit zero some = λ index. some
below_replicate limit (suc count) some =
    below_cons limit 0 (replicate count 0) some (below_replicate limit count some)

below_set : (limit : ℕ) (xs : List ℕ) (i value : ℕ) → value < limit → AreBelow limit xs →
    AreBelow limit (slice_set xs i value)
below_set limit [] i value new all = all
below_set limit (x ∷ xs) zero value new all = below_cons limit value xs new (λ j. all (suc j))
below_set limit (x ∷ xs) (suc i) value new all =
    below_cons limit x (slice_set xs i value) (all 0) (below_set limit xs i value new (λ j. all (suc j)))

-- ---- memory

zeros_bytes : (count : ℕ) → AreBytes (zeros count)
unfolding zeros
zeros_bytes count = below_replicate 256 count (omega arith)

laid_bytes : (base : ℕ) (segments : List Segment) (memory : List ℕ) → HasBytes segments → AreBytes memory →
    AreBytes (laid base segments memory)
laid_bytes base [] memory has bytes = bytes
laid_bytes base (segment ∷ segments) memory has bytes =
    laid_bytes base segments (laid_at (segment.address - base) segment.bytes memory) has.1
    (below_append 256 (take (segment.address - base) memory) _
    (below_take 256 (segment.address - base) memory (omega arith) bytes)
    (below_append 256 segment.bytes (drop (segment.address - base + length segment.bytes) memory) has.0
    (below_drop 256 (segment.address - base + length segment.bytes) memory bytes)))

memory_bytes : (picture : Picture) → HasBytes picture.segments → AreBytes (first_memory picture)
unfolding first_memory
memory_bytes picture has =
    laid_bytes picture.base picture.segments (zeros memory_size) has (zeros_bytes memory_size)

-- ---- registers and the break

registers_words : (base : ℕ) → base ≤ highest_base → AreAllWords (first_registers base)
registers_words base low =
    below_set (2 ^ 32) (replicate 32 0) 2 (base + memory_size - 64) (omega (arith, low))
    (below_replicate (2 ^ 32) 32 (omega arith))

top_limit : (base : ℕ) (segments : List Segment) → are_inside base segments ≡ true → top_of segments ≤ highest_end
top_limit base [] inside = omega arith
top_limit base (segment ∷ segments) inside =
    let both = and_parts (holds_segment base segment) (are_inside base segments) inside in
    let ends = and_parts (nat_le base segment.address) _ both.0 in
    let high = and_parts (nat_le (end_of segment) (base + memory_size)) (nat_le (end_of segment) highest_end) ends.1 in
    let here : end_of segment ≤ highest_end = leb-true (end_of segment) highest_end high.1 in
    let rest : top_of segments ≤ highest_end = top_limit base segments both.1 in
    omega (arith, here, rest)

break_word : (base : ℕ) (segments : List Segment) → are_inside base segments ≡ true → first_break segments < 2 ^ 32
break_word base segments inside = let top = top_limit base segments inside in omega (arith, top)

base_low : (segments : List Segment) (base : ℕ) → is_base_of segments base ≡ true → base ≤ highest_base
base_low [] base is = absurd (cc)
base_low (segment ∷ segments) base is = leb-true base highest_base (and_parts _ (nat_le base highest_base) is).1

pub guest_start_law : GuestStartLaw
guest_start_law picture public_input secret valid has public_bytes secret_bytes =
    let parts = and_parts (is_ascending picture.segments) _ valid in
    let based = and_parts (is_base_of picture.segments picture.base) _ parts.1 in
    let inside = and_parts (are_inside picture.base picture.segments) (is_entry picture.segments picture.entry)
    based.1 in
    let break = break_word picture.base picture.segments inside.0 in
    record {
      store = record {
        registers = registers_words picture.base (base_low picture.segments picture.base based.0);
        kept = below_replicate (2 ^ 32) 32 (omega arith);
        memory = memory_bytes picture has;
      };
      secret = secret_bytes;
      public_input = public_bytes;
      start_break = break;
      current_break = break;
    }
