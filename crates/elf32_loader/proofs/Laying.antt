-- Where the headers and the bytes of segments stand in the program file that is written for them.
use Rattle.std.proofs.Common.{◌≡◌, ℕ, zero, suc, ◌+◌, ◌*◌, ◌<◌, ◌≤◌, ◌^◌, List, [], ◌∷◌, ◌++◌, length, slice_index, refl, sym, ap, ◌∙◌, arith}
use Rattle.std.specs.Prelude.{All, slice_index_or}
use Rattle.std.proofs.lemmas.List.{append_assoc, get_or-append-add, get_or_append_left, length-append}
use Rattle.std.proofs.lemmas.List.Elements.{All-head, All-tail}
use Rattle.byteorder.specs.Endian.{little_bytes, little_from}
use Rattle.byteorder.specs.Numbers.{little_number-reads_back}
use Rattle.elf32_loader.specs.declared.headers.Header.{Header}
use Rattle.elf32_loader.specs.declared.segments.Segment.{Segment}
use Rattle.elf32_loader.specs.Headers.{header_from, file_word}
use Rattle.elf32_loader.specs.Writing.{contents, program_header, program_headers}

-- a word reads as it was written
pub word_back : (n : ℕ) → n < 2 ^ 32 → little_from 0 4 (little_bytes 4 n) ≡ n
word_back n h = little_number-reads_back 4 n [] (omega arith)

-- bytes in front move the places on
little_behind : (count : ℕ) (front xs : List ℕ) (start place : ℕ) → start ≡ length front + place
    → little_from start count (front ++ xs) ≡ little_from place count xs
little_behind zero front xs start place at = refl
little_behind (suc count) front xs start place at =
    let byte : slice_index (front ++ xs) start ≡ slice_index xs place =
    ap (slice_index (front ++ xs)) at ∙ get_or-append-add front xs place 0 in
    let rest : little_from (suc start) count (front ++ xs) ≡ little_from (suc place) count xs =
    little_behind count front xs (suc start) (suc place) (omega arith) in
    ap (λ (n : ℕ). n + 256 * little_from (suc start) count (front ++ xs)) byte
    ∙ ap (λ (n : ℕ). slice_index xs place + 256 * n) rest

header_behind : (front xs : List ℕ) (start : ℕ) → start ≡ length front
    → header_from (front ++ xs) start ≡ header_from xs 0
header_behind front xs start at =
    let word : (place : ℕ) → file_word (front ++ xs) (start + place) ≡ file_word xs place =
    λ place. little_behind 4 front xs (start + place) place (omega arith) in
    let make : ℕ → ℕ → ℕ → ℕ → ℕ → Header =
    λ (k o a f m : ℕ). record { kind = k; offset = o; address = a; file_size = f; memory_size = m } in
    let file : List ℕ = front ++ xs in
    let kind : file_word file start ≡ file_word xs 0 = little_behind 4 front xs start 0 (omega arith) in
    ap (λ (n : ℕ). make n (file_word file (start + 4)) (file_word file (start + 8)) (file_word file (start + 16)) (file_word file (start + 20))) kind
    ∙ ap (λ (n : ℕ). make (file_word xs 0) n (file_word file (start + 8)) (file_word file (start + 16)) (file_word file (start + 20))) (word 4)
    ∙ ap (λ (n : ℕ). make (file_word xs 0) (file_word xs 4) n (file_word file (start + 16)) (file_word file (start + 20)))
    (word 8)
    ∙ ap (λ (n : ℕ). make (file_word xs 0) (file_word xs 4) (file_word xs 8) n (file_word file (start + 20))) (word 16)
    ∙ ap (λ (n : ℕ). make (file_word xs 0) (file_word xs 4) (file_word xs 8) (file_word xs 16) n) (word 20)

-- the header that is written for bytes at an offset
abbrev pub written_header : ℕ → ℕ → ℕ → Header
written_header offset address size =
    record { kind = 1; offset = offset; address = address; file_size = size; memory_size = size }

header_back : (offset address size : ℕ) (more : List ℕ) → offset < 2 ^ 32 → address < 2 ^ 32 → size < 2 ^ 32
    → header_from (program_header offset address size ++ more) 0 ≡ written_header offset address size
header_back offset address size more low_offset low_address low_size =
    let make : ℕ → ℕ → ℕ → Header = λ (o a s : ℕ). written_header o a s in
    let o : little_from 0 4 (little_bytes 4 offset) ≡ offset = word_back offset low_offset in
    let a : little_from 0 4 (little_bytes 4 address) ≡ address = word_back address low_address in
    let s : little_from 0 4 (little_bytes 4 size) ≡ size = word_back size low_size in
    ap (λ (n : ℕ). make n (little_from 0 4 (little_bytes 4 address)) (little_from 0 4 (little_bytes 4 size))) o
    ∙ ap (λ (n : ℕ). make offset n (little_from 0 4 (little_bytes 4 size))) a
    ∙ ap (make offset address) s

-- where the bytes of a segment stand, where those of the first stand at an offset
abbrev pub start_of : ℕ → List Segment → ℕ → ℕ
start_of offset [] place = offset
start_of offset (segment ∷ segments) zero = offset
start_of offset (segment ∷ segments) (suc place) = start_of (offset + length segment.bytes) segments place

-- they end at or before the end of all
pub starts_within : (offset : ℕ) (segments : List Segment) (place : ℕ) (d : Segment) → place < length segments
    → start_of offset segments place + length (slice_index_or segments place d).bytes ≤ offset + length (contents segments)
starts_within offset [] place d below = absurd (omega arith)
starts_within offset (first ∷ rest) zero d below = omega (arith, length-append first.bytes (contents rest))
starts_within offset (first ∷ rest) (suc place) d below =
    omega (arith, length-append first.bytes (contents rest), starts_within (offset + length first.bytes) rest place d (omega arith))

pub length_of_headers : (offset : ℕ) (segments : List Segment)
    → length (program_headers offset segments) ≡ 32 * length segments
length_of_headers offset [] = refl
length_of_headers offset (first ∷ rest) = omega (arith, length_of_headers (offset + length first.bytes) rest)

-- the header of each segment
pub header_in : (front : List ℕ) (offset : ℕ) (segments : List Segment) (more : List ℕ) (place : ℕ) (d : Segment) (start : ℕ)
    → start ≡ length front + 32 * place → place < length segments → offset + length (contents segments) < 2 ^ 32
    → All (λ s. s.address < 2 ^ 32) segments
    → header_from (front ++ (program_headers offset segments ++ more)) start
    ≡ written_header (start_of offset segments place) (slice_index_or segments place d).address
    (length (slice_index_or segments place d).bytes)
header_in front offset [] more place d start at below fits low = absurd (omega arith)
header_in front offset (first ∷ rest) more zero d start at below fits low =
    let size : ℕ = length first.bytes in
    let rest_headers : List ℕ = program_headers (offset + size) rest in
    let header : List ℕ = program_header offset first.address size in
    let grouped : (header ++ rest_headers) ++ more ≡ header ++ (rest_headers ++ more) =
    append_assoc (program_header offset first.address size) rest_headers more in
    header_behind front (program_headers offset (first ∷ rest) ++ more) start (omega arith)
    ∙ ap (λ (xs : List ℕ). header_from xs 0) grouped
    ∙ header_back offset first.address size (rest_headers ++ more) (omega (arith, fits))
    (All-head (λ (s : Segment). s.address < 2 ^ 32) first rest low)
    (omega (arith, fits, length-append first.bytes (contents rest)))
header_in front offset (first ∷ rest) more (suc place) d start at below fits low =
    let size : ℕ = length first.bytes in
    let header : List ℕ = program_header offset first.address size in
    let rest_headers : List ℕ = program_headers (offset + size) rest in
    let longer : List ℕ = front ++ header in
    let longer_length : length longer ≡ length front + 32 = length-append front header in
    let grouped : front ++ ((header ++ rest_headers) ++ more) ≡ longer ++ (rest_headers ++ more) =
    ap (λ (xs : List ℕ). front ++ xs) (append_assoc header rest_headers more)
    ∙ sym (append_assoc front header (rest_headers ++ more)) in
    ap (λ (xs : List ℕ). header_from xs start) grouped
    ∙ header_in longer (offset + size) rest more place d start (omega arith) (omega arith)
    (omega (arith, fits, length-append first.bytes (contents rest)))
    (All-tail (λ (s : Segment). s.address < 2 ^ 32) first rest low)

-- the bytes of each segment
pub bytes_in : (front : List ℕ) (offset : ℕ) (segments : List Segment) (place : ℕ) (d : Segment) (i : ℕ)
    → offset ≡ length front
    → place < length segments → i < length (slice_index_or segments place d).bytes
    → slice_index (front ++ contents segments) (start_of offset segments place + i)
    ≡ slice_index (slice_index_or segments place d).bytes i
bytes_in front offset [] place d i at below within = absurd (omega arith)
bytes_in front offset (first ∷ rest) zero d i at below within =
    ap (λ (n : ℕ). slice_index (front ++ (first.bytes ++ contents rest)) (n + i)) at
    ∙ get_or-append-add front (first.bytes ++ contents rest) i 0
    ∙ get_or_append_left first.bytes (contents rest) 0 i within
bytes_in front offset (first ∷ rest) (suc place) d i at below within =
    let longer : List ℕ = front ++ first.bytes in
    let start : ℕ = start_of (offset + length first.bytes) rest place in
    let grouped : front ++ (first.bytes ++ contents rest) ≡ longer ++ contents rest =
    sym (append_assoc front first.bytes (contents rest)) in
    ap (λ (xs : List ℕ). slice_index xs (start + i)) grouped
    ∙ bytes_in longer (offset + length first.bytes) rest place d i (omega (arith, length-append front first.bytes))
    (omega arith) within
