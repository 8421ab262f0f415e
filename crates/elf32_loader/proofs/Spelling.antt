-- A program file that is written for an image of at most 64 segments gives that image.
use Rattle.std.proofs.Common.{◌≡◌, inl, inr, ℕ, zero, suc, ◌+◌, ◌-◌, ◌*◌, ◌%◌, ◌<◌, ◌≤◌, ◌^◌, ◌==◌, nat_lt, Bool, true, false, ◌&&◌, List, [], ◌∷◌, length, take, slice_index, refl, subst, sym, ap, ◌∙◌, arith, IsTrue}
use Rattle.std.specs.Prelude.{All, slice_index_or}
use Rattle.std.proofs.lemmas.Bool.{false≢true}
use Rattle.std.proofs.lemmas.Bool.Decides.{nat_tests}
use Rattle.std.proofs.lemmas.Grind.{common_steps}
use Rattle.std.proofs.lemmas.List.{append_assoc, get_or-take, length-append}
use Rattle.std.proofs.lemmas.List.Elements.{Contains-get_or}
use Rattle.byteorder.specs.Numbers.{little_number-reads_back}
use Rattle.elf32_loader.specs.declared.headers.Header.{Header}
use Rattle.elf32_loader.specs.declared.segments.Segment.{Segment}
use Rattle.elf32_loader.specs.FaultTable.{HasCleanHeader, HasCleanLoads, IsEntryIn, IsFileBase, IsOutOfRange}
use Rattle.elf32_loader.specs.Headers.{HoldsAddress, IsLoad, entry_of, file_type, flags_of, header_at, header_count, header_from, header_size, identification, machine_type, table_offset}
use Rattle.elf32_loader.specs.Pictures.{Picture, is_image_picture}
use Rattle.elf32_loader.specs.Programs.{IsImage, IsLoaded}
use Rattle.elf32_loader.specs.Segments.{are_inside, end_of, highest_base, highest_end, holds, is_ascending, is_base_of, is_entry, rounded_down, some_holds}
use Rattle.elf32_loader.specs.Writing.{contents, elf_header, headers, program_headers, written}
use Rattle.flow_base.specs.Guests.{memory_size}
use Rattle.elf32_loader.proofs.Bases.{same_base}
use Rattle.elf32_loader.proofs.Laying.{bytes_in, header_in, length_of_headers, start_of, starts_within, word_back, written_header}
use Rattle.elf32_loader.proofs.Memory.{begins_below, either, ends_above, later_begins, rest_ascends}
use Rattle.elf32_loader.proofs.Putting.{contents_fit}
use Rattle.elf32_loader.proofs.Unique.{has_bytes}

-- the segment of a place, and the header that is written for it
abbrev segment_at : Picture → ℕ → Segment → Segment
segment_at picture place d = slice_index_or picture.segments place d

abbrev header_for : Picture → ℕ → Segment → Header
header_for picture place d =
    written_header (start_of (52 + 32 * length picture.segments) picture.segments place)
    (segment_at picture place d).address
    (length (segment_at picture place d).bytes)

-- what stands in such a file
record IsSpelt (file : List ℕ) (picture : Picture) : Type 0 where
  size : length file ≡ 52 + 32 * length picture.segments + length (contents picture.segments)
  format : take 7 file ≡ identification
  kind : file_type file ≡ 2
  machine : machine_type file ≡ 243
  flags : flags_of file ≡ 0
  table_size : header_size file ≡ 32
  count : header_count file ≡ length picture.segments
  table : table_offset file ≡ 52
  start : entry_of file ≡ picture.entry
  header : (place : ℕ) (d : Segment) → place < length picture.segments → header_at file place ≡ header_for picture place d
  content : (place : ℕ) (d : Segment) (i : ℕ) → place < length picture.segments
      → i < length (segment_at picture place d).bytes
      → slice_index file (start_of (52 + 32 * length picture.segments) picture.segments place + i)
      ≡ slice_index (segment_at picture place d).bytes i

spelt : (picture : Picture) → picture.entry < 2 ^ 32 → length picture.segments ≤ 64
    → length (contents picture.segments) ≤ memory_size → All (λ s. s.address < 2 ^ 32) picture.segments
    → IsSpelt (written picture) picture
spelt picture low_entry few fits low =
    let count : ℕ = length picture.segments in
    let front : List ℕ = elf_header picture.entry count in
    let table : List ℕ = program_headers (52 + 32 * count) picture.segments in
    let bytes : List ℕ = contents picture.segments in
    let table_length : length table ≡ 32 * count = length_of_headers (52 + 32 * count) picture.segments in
    let headers_length : length (headers picture) ≡ 52 + 32 * count = omega arith in
    record {
      size = omega (arith, length-append (headers picture) bytes, headers_length);
      format = refl;
      kind = refl;
      machine = refl;
      flags = refl;
      table_size = refl;
      count = little_number-reads_back 2 count [] (omega arith);
      table = refl;
      start = word_back picture.entry low_entry;
      header = λ place d below.
          ap (λ (xs : List ℕ). header_from xs (52 + 32 * place)) (append_assoc front table bytes)
          ∙ header_in front (52 + 32 * count) picture.segments bytes place d (52 + 32 * place) (omega arith) below
          (omega arith) low;
      content = λ place d i below within.
          bytes_in (headers picture) (52 + 32 * count) picture.segments place d i (sym headers_length) below within;
    }

-- what a valid picture keeps of each segment
record IsFit (base : ℕ) (segment : Segment) : Type 0 where
  some : 0 < length segment.bytes
  based : base ≤ segment.address
  in_guest : end_of segment ≤ base + memory_size
  in_bounds : end_of segment ≤ highest_end

each_fit : (base : ℕ) (segments : List Segment) → IsTrue (is_ascending segments) → IsTrue (are_inside base segments)
    → (place : ℕ) (d : Segment) → place < length segments → IsFit base (slice_index_or segments place d)
each_fit base [] ascends inside place d below = absurd (omega arith)
each_fit base (first ∷ rest) ascends inside zero d below =
    let some : 0 < length first.bytes = has_bytes first rest ascends in
    record {
      some = some;
      based = grind (arith, nat_tests, common_steps);
      in_guest = grind (arith, nat_tests, common_steps);
      in_bounds = grind (arith, nat_tests, common_steps);
    }
each_fit base (first ∷ []) ascends inside (suc place) d below = absurd (omega arith)
each_fit base (first ∷ (second ∷ rest)) ascends inside (suc place) d below =
    let inside_rest : IsTrue (are_inside base (second ∷ rest)) = grind (arith, nat_tests, common_steps) in
    each_fit base (second ∷ rest) (rest_ascends first second rest ascends) inside_rest place d (omega arith)

-- an earlier segment ends at or below a later one's address
in_order : (segments : List Segment) → IsTrue (is_ascending segments) → (a b : ℕ) (d e : Segment) → a < b
    → b < length segments
    → end_of (slice_index_or segments a d) ≤ (slice_index_or segments b e).address
in_order [] ascends a b d e before below = absurd (omega arith)
in_order (first ∷ rest) ascends zero zero d e before below = absurd (omega arith)
in_order (first ∷ rest) ascends zero (suc b) d e before below = later_begins first rest ascends b e (omega arith)
in_order (first ∷ rest) ascends (suc a) zero d e before below = absurd (omega arith)
in_order (first ∷ []) ascends (suc a) (suc b) d e before below = absurd (omega arith)
in_order (first ∷ (second ∷ rest)) ascends (suc a) (suc b) d e before below =
    in_order (second ∷ rest) (rest_ascends first second rest ascends) a b d e (omega arith) (omega arith)

-- an address that some segment holds is held by that of a place
holder : (segments : List Segment) (address : ℕ) (d : Segment) → some_holds segments address ≡ true
    → (place : ℕ) × (place < length segments) × (holds (slice_index_or segments place d) address ≡ true)
holder [] address d held = absurd (false≢true held)
holder (first ∷ rest) address d held = elim (either (holds first address)) [
  | inl here ↦ (zero, omega arith, here)
  | inr outside ↦
      let later : some_holds rest address ≡ true = grind (arith, common_steps) in
      let found = holder rest address d later in
      (suc found.0, omega (arith, found.1), found.2)
]

-- a valid picture, part by part; there is a first segment
record IsWhole (picture : Picture) : Type 0 where
  ascends : IsTrue (is_ascending picture.segments)
  based : IsTrue (is_base_of picture.segments picture.base)
  inside : IsTrue (are_inside picture.base picture.segments)
  entered : IsTrue (is_entry picture.segments picture.entry)

both : (one other : Bool) → IsTrue (one && other) → IsTrue one × IsTrue other
both true other holds = (refl, holds)
both false other holds = absurd (false≢true holds)

whole : (picture : Picture) → IsTrue (is_image_picture picture) → IsWhole picture
whole picture valid =
    let entered : Bool = is_entry picture.segments picture.entry in
    let inside : Bool = are_inside picture.base picture.segments in
    let based : Bool = is_base_of picture.segments picture.base in
    let first = both (is_ascending picture.segments) (based && (inside && entered)) valid in
    let second = both based (inside && entered) first.1 in
    let third = both inside entered second.1 in
    record { ascends = first.0; based = second.0; inside = third.0; entered = third.1 }

-- the first segment and its base
record IsFirst (base : ℕ) (segments : List Segment) : Type 0 where
  some : 0 < length segments
  rounded : (d : Segment) → base ≡ rounded_down (slice_index_or segments 0 d).address
  low : base ≤ highest_base

first_of : (base : ℕ) (segments : List Segment) → IsTrue (is_base_of segments base) → IsFirst base segments
first_of base [] based = absurd (false≢true based)
first_of base (first ∷ rest) based = record {
  some = omega arith;
  rounded = λ d. grind (arith, nat_tests, common_steps);
  low = grind (arith, nat_tests, common_steps);
}

-- any segment, for places where none stands
nothing : Segment
nothing = record { address = 0; bytes = [] }

-- what a valid picture and its file are, together
record IsGiven (file : List ℕ) (picture : Picture) : Type 0 where
  spells : IsSpelt file picture
  keeps : IsWhole picture
  few : length picture.segments ≤ 64
  first : IsFirst picture.base picture.segments
  fits : length (contents picture.segments) ≤ memory_size
  fit : (place : ℕ) (d : Segment) → place < length picture.segments → IsFit picture.base (segment_at picture place d)

-- a header of the file is that of a place, and a load
at_place : (file : List ℕ) (picture : Picture) → IsGiven file picture → (index : ℕ) → IsLoad file index
    → index < length picture.segments
at_place file picture given index is_load = omega (arith, given.spells.count, is_load.0)

load_at : (file : List ℕ) (picture : Picture) → IsGiven file picture → (place : ℕ) → place < length picture.segments
    → IsLoad file place
load_at file picture given place below =
    let header = given.spells.header place nothing below in
    let fit = given.fit place nothing below in
    let size : (header_at file place).memory_size ≡ length (segment_at picture place nothing).bytes =
    ap (λ (h : Header). h.memory_size) header in (
      omega (arith, given.spells.count),
      ap (λ (h : Header). h.kind) header,
      λ none. omega (arith, fit.some),
    )

address_at : (file : List ℕ) (picture : Picture) → IsGiven file picture → (place : ℕ) (d : Segment)
    → place < length picture.segments → (header_at file place).address ≡ (segment_at picture place d).address
address_at file picture given place d below = ap (λ (h : Header). h.address) (given.spells.header place d below)

-- no load begins below the first segment
lowest_at : (file : List ℕ) (picture : Picture) → IsGiven file picture → (place : ℕ) → place < length picture.segments
    → (header_at file 0).address ≡ (segment_at picture 0 nothing).address
    → (header_at file place).address ≡ (segment_at picture place nothing).address
    → (header_at file 0).address ≤ (header_at file place).address
lowest_at file picture given zero below first address = omega arith
lowest_at file picture given (suc place) below first address =
    let later = in_order picture.segments given.keeps.ascends 0 (suc place) nothing nothing (omega arith) below in
    omega (arith, later)

file_base : (file : List ℕ) (picture : Picture) → IsGiven file picture → IsFileBase file picture.base
file_base file picture given =
    let some : 0 < length picture.segments = given.first.some in
    let first : (header_at file 0).address ≡ (segment_at picture 0 nothing).address =
    address_at file picture given 0 nothing some in (
      0,
      (
        load_at file picture given 0 some,
        λ other is_load.
            let below : other < length picture.segments = at_place file picture given other is_load in
            let address : (header_at file other).address ≡ (segment_at picture other nothing).address =
            address_at file picture given other nothing below in
            lowest_at file picture given other below first address,
      ),
      given.first.rounded nothing ∙ ap rounded_down (sym first),
    )

in_range : (file : List ℕ) (picture : Picture) → IsGiven file picture → (place : ℕ) → place < length picture.segments
    → ¬ IsOutOfRange file picture.base (header_for picture place nothing)
in_range file picture given place below = λ out.
    let fit = given.fit place nothing below in
    let within = starts_within (52 + 32 * length picture.segments) picture.segments place nothing below in
    omega (arith, out, fit.in_guest, fit.in_bounds, within, given.spells.size)

no_overlap : (file : List ℕ) (picture : Picture) → IsGiven file picture → (a b address : ℕ) → a < b → IsLoad file a
    → IsLoad file b → HoldsAddress (header_at file a) address → HoldsAddress (header_at file b) address → ⊥
no_overlap file picture given a b address before is_a is_b in_a in_b =
    let below_a : a < length picture.segments = at_place file picture given a is_a in
    let below_b : b < length picture.segments = at_place file picture given b is_b in
    let apart = in_order picture.segments given.keeps.ascends a b nothing nothing before below_b in
    let at_a = ap (λ (h : Header). h.address + h.memory_size) (given.spells.header a nothing below_a) in
    let at_b = address_at file picture given b nothing below_b in
    omega (arith, apart, at_a, at_b, in_a.1, in_b.0)

aligned : (picture : Picture) → IsTrue (is_entry picture.segments picture.entry) → picture.entry % 4 ≡ 0
aligned picture entered =
    let parts = both (picture.entry % 4 == 0) (some_holds picture.segments picture.entry) entered in
    let even : IsTrue (picture.entry % 4 == 0) = parts.0 in
    grind (arith, nat_tests)

entry_held : (file : List ℕ) (picture : Picture) → IsGiven file picture
    → ((index : ℕ) → ¬ IsEntryIn file index) → ⊥
entry_held file picture given nowhere =
    let parts = both (picture.entry % 4 == 0) (some_holds picture.segments picture.entry) given.keeps.entered in
    let found = holder picture.segments picture.entry nothing parts.1 in
    let segment : Segment = segment_at picture found.0 nothing in
    let above = begins_below segment picture.entry found.2 in
    let below = ends_above segment picture.entry found.2 in
    let header = given.spells.header found.0 nothing found.1 in
    let address = ap (λ (h : Header). h.address) header in
    let end = ap (λ (h : Header). h.address + h.memory_size) header in
    let here : HoldsAddress (header_at file found.0) (entry_of file) =
    (omega (arith, address, above, given.spells.start), omega (arith, end, below, given.spells.start)) in
    nowhere found.0 (load_at file picture given found.0 found.1, here)

clean_header : (file : List ℕ) (picture : Picture) → IsGiven file picture → HasCleanHeader file
clean_header file picture given =
    let laid = given.spells in
    record {
      has_header = λ short. omega (arith, laid.size);
      has_format = λ other.
          other.1.1 (sym (get_or-take 7 file other.0 0 other.1.0) ∙ ap (λ (xs : List ℕ). slice_index xs other.0) laid.format);
      has_kind = λ other. elim other [ inl h ↦ h laid.kind | inr h ↦ h laid.machine ];
      is_not_compressed = λ compressed.
          let odd : 0 % 2 ≡ 1 = subst (λ (n : ℕ). n % 2 ≡ 1) laid.flags compressed in omega arith;
      has_table = λ other. elim other [
        | inl h ↦ h laid.table_size
        | inr h ↦ omega (arith, laid.count, h, given.few, given.first.some)
      ];
      has_whole_table = λ cut. omega (arith, laid.count, laid.table, laid.size);
    }

clean_loads : (file : List ℕ) (picture : Picture) → IsGiven file picture → HasCleanLoads file
clean_loads file picture given =
    let laid = given.spells in
    let is_base_of = file_base file picture given in
    record {
      is_not_dynamic = λ dynamic.
          let below : dynamic.0 < length picture.segments = omega (arith, laid.count, dynamic.1.0) in
          let kind : (header_at file dynamic.0).kind ≡ 1 =
          ap (λ (h : Header). h.kind) (laid.header dynamic.0 nothing below) in
          omega (arith, dynamic.1.1);
      has_load = λ none. none 0 (load_at file picture given 0 given.first.some);
      is_in_range = λ fault.
          let below : fault.1 < length picture.segments = at_place file picture given fault.1 fault.3.0 in
          let at_base : IsOutOfRange file picture.base (header_at file fault.1) =
          subst (λ (n : ℕ). IsOutOfRange file n (header_at file fault.1))
          (same_base file fault.0 picture.base fault.2 is_base_of) fault.3.1 in
          in_range file picture given fault.1 below
          (subst (λ (h : Header). IsOutOfRange file picture.base h) (laid.header fault.1 nothing below) at_base);
      has_low_base = λ high.
          omega (arith, same_base file high.0 picture.base high.1 is_base_of, high.2, given.first.low);
      has_no_overlap = λ overlap.
          let shared = overlap.2.3 in
          no_overlap file picture given overlap.0 overlap.1 shared.0 overlap.2.0 overlap.2.1 overlap.2.2 shared.1 shared.2;
      has_entry = λ outside. elim outside [
        | inl h ↦ h (ap (λ (n : ℕ). n % 4) laid.start ∙ aligned picture given.keeps.entered)
        | inr h ↦ entry_held file picture given h
      ];
    }

-- a segment is what its load puts into memory
loaded_at : (file : List ℕ) (picture : Picture) → IsGiven file picture → (place : ℕ) (d : Segment)
    → place < length picture.segments → IsLoaded file (header_at file place) (segment_at picture place d)
loaded_at file picture given place d below =
    let segment : Segment = segment_at picture place d in
    let start : ℕ = start_of (52 + 32 * length picture.segments) picture.segments place in
    let header = given.spells.header place d below in
    let written : IsLoaded file (header_for picture place d) segment = record {
      address = refl;
      size = refl;
      bytes = λ at here.
          let within : nat_lt (at - segment.address) (length segment.bytes) ≡ true =
          grind (arith, nat_tests, here.0, here.1) in
          let inside : at - segment.address < length segment.bytes = omega (arith, here.0, here.1) in
          rw within (sym (given.spells.content place d (at - segment.address) below inside));
    } in
    subst (λ (h : Header). IsLoaded file h segment) (sym header) written

given_of : (picture : Picture) → IsTrue (is_image_picture picture) → length picture.segments ≤ 64
    → IsGiven (written picture) picture
given_of picture valid few =
    let keeps = whole picture valid in
    let first = first_of picture.base picture.segments keeps.based in
    let fits = contents_fit picture.base picture.segments keeps.ascends keeps.inside in
    let fit = each_fit picture.base picture.segments keeps.ascends keeps.inside in
    let parts = both (picture.entry % 4 == 0) (some_holds picture.segments picture.entry) keeps.entered in
    let found = holder picture.segments picture.entry nothing parts.1 in
    let low_entry : picture.entry < 2 ^ 32 =
    omega (arith, ends_above (segment_at picture found.0 nothing) picture.entry found.2, (fit found.0 nothing found.1).in_bounds) in
    let low : All (λ s. s.address < 2 ^ 32) picture.segments =
    λ place d below. omega (arith, (fit place d below).in_bounds, (fit place d below).some) in
    record { spells = spelt picture low_entry few fits low; keeps = keeps; few = few; first = first; fits = fits; fit = fit }

pub written_image : (picture : Picture) → IsTrue (is_image_picture picture) → length picture.segments ≤ 64
    → IsImage (written picture) picture
written_image picture valid few =
    let file : List ℕ = written picture in
    let given = given_of picture valid few in
    record {
      no_fault = record { header = clean_header file picture given; loads = clean_loads file picture given };
      base = file_base file picture given;
      entry = sym given.spells.start;
      ascends = given.keeps.ascends;
      each_is_load = λ place d below.
          (place, load_at file picture given place below, loaded_at file picture given place d below);
      each_load_stands = λ index is_load.
          let below : index < length picture.segments = at_place file picture given index is_load in
          let contained = Contains-get_or picture.segments index nothing below in
          (segment_at picture index nothing, contained, loaded_at file picture given index nothing below);
    }
