-- Segments that are put into a file one after the other.
use Rattle.std.proofs.Common.{◌≡◌, ℕ, ◌+◌, ◌<◌, ◌≤◌, List, [], ◌∷◌, ◌++◌, length, drop, get_or, sym, ap, ◌∙◌, arith, IsTrue}
use Rattle.std.proofs.lemmas.Bool.Decides.{nat_tests}
use Rattle.std.proofs.lemmas.Grind.{common_steps}
use Rattle.std.proofs.lemmas.List.{append_assoc, drop_more, length-append}
use Rattle.elf32_loader.specs.declared.segments.Segment.{Segment}
use Rattle.elf32_loader.specs.Segments.{are_inside, end_of, is_ascending}
use Rattle.flow_base.specs.Guests.{memory_size}
use Rattle.elf32_loader.specs.Writing.{contents, program_header, program_headers}

-- the segments from an index on begin with that one
front : (segments : List Segment) (index : ℕ) (segment : Segment) → index < length segments
    → segment ≡ get_or segments index segment → drop index segments ≡ segment ∷ drop (index + 1) segments
front segments index segment below is =
    drop_more segments index segment below ∙ ap (λ (s : Segment). s ∷ drop (index + 1) segments) (sym is)

-- a program header more
pub headers_more : (file longer : List ℕ) (place index : ℕ) (segments : List Segment) (segment : Segment)
    → index < length segments → segment ≡ get_or segments index segment
    → longer ≡ file ++ program_header place segment.address (length segment.bytes)
    → longer ++ program_headers (place + length segment.bytes) (drop (index + 1) segments)
    ≡ file ++ program_headers place (drop index segments)
headers_more file longer place index segments segment below is put =
    let rest : List ℕ = program_headers (place + length segment.bytes) (drop (index + 1) segments) in
    ap (λ (xs : List ℕ). xs ++ rest) put
    ∙ append_assoc file (program_header place segment.address (length segment.bytes)) rest
    ∙ ap (λ (xs : List Segment). file ++ program_headers place xs) (sym (front segments index segment below is))

-- the bytes of the segments from an index on are those of the first and of the rest
pub contents_more : (index : ℕ) (segments : List Segment) (segment : Segment) → index < length segments
    → segment ≡ get_or segments index segment
    → length (contents (drop index segments)) ≡ length segment.bytes + length (contents (drop (index + 1) segments))
contents_more index segments segment below is =
    ap (λ (xs : List Segment). length (contents xs)) (front segments index segment below is)
    ∙ length-append segment.bytes (contents (drop (index + 1) segments))

-- segments that ascend inside guest memory have no more bytes than fit above the first one's address
above_first : (base : ℕ) (first : Segment) (rest : List Segment) → IsTrue (is_ascending (first ∷ rest))
    → IsTrue (are_inside base (first ∷ rest)) → first.address + length (contents (first ∷ rest)) ≤ base + memory_size
above_first base first [] ascends inside =
    let ends : end_of first ≤ base + memory_size = grind (arith, nat_tests, common_steps) in
    omega (arith, length-append first.bytes [])
above_first base first (second ∷ rest) ascends inside =
    let later : second.address + length (contents (second ∷ rest)) ≤ base + memory_size =
    above_first base second rest (grind (arith, nat_tests, common_steps)) (grind (arith, nat_tests, common_steps)) in
    let here : end_of first ≤ second.address = grind (arith, nat_tests, common_steps) in
    omega (arith, length-append first.bytes (contents (second ∷ rest)))

-- segments of an image have no more bytes than guest memory
pub contents_fit : (base : ℕ) (segments : List Segment) → IsTrue (is_ascending segments)
    → IsTrue (are_inside base segments) → length (contents segments) ≤ memory_size
contents_fit base [] ascends inside = omega arith
contents_fit base (first ∷ rest) ascends inside =
    let within : first.address + length (contents (first ∷ rest)) ≤ base + memory_size =
    above_first base first rest ascends inside in
    let above : base ≤ first.address = grind (arith, nat_tests, common_steps) in
    omega arith
