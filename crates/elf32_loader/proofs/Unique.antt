-- A program file has at most one image.
use Rattle.std.proofs.Common.{◌≡◌, ℕ, zero, suc, ◌+◌, ◌-◌, ◌<◌, ◌≤◌, List, [], ◌∷◌, length, slice_index, refl, subst, sym, ap, ◌∙◌, arith, IsTrue}
use Rattle.std.specs.Prelude.{All, Contains, slice_index_or}
use Rattle.std.proofs.lemmas.Bool.Decides.{nat_tests}
use Rattle.std.proofs.lemmas.Grind.{common_steps}
use Rattle.std.proofs.lemmas.List.{ext_get_or}
use Rattle.elf32_loader.specs.declared.headers.Header.{Header}
use Rattle.elf32_loader.specs.declared.segments.Segment.{Segment}
use Rattle.elf32_loader.specs.Headers.{header_at}
use Rattle.elf32_loader.specs.Pictures.{Picture}
use Rattle.elf32_loader.specs.Programs.{IsImage, IsLoaded}
use Rattle.elf32_loader.specs.Private.Searches.{is_climbing}
use Rattle.elf32_loader.specs.Segments.{end_of, is_ascending}
use Rattle.elf32_loader.proofs.Bases.{same_base}
use Rattle.elf32_loader.proofs.Memory.{later_begins, rest_ascends}

-- a load makes one segment
same_segment : (file : List ℕ) (header : Header) (one other : Segment) → IsLoaded file header one
    → IsLoaded file header other
    → one ≡ other
same_segment file header one other is_one is_other =
    let size : length one.bytes ≡ length other.bytes = is_one.size ∙ sym is_other.size in
    let bytes : one.bytes ≡ other.bytes = ext_get_or 0 one.bytes other.bytes size (λ i below.
    let place : ℕ = header.address + i in
    let at : place - header.address ≡ i = omega arith in
    let here : header.address ≤ place = omega arith in
    let under : place < header.address + header.memory_size = omega (arith, is_one.size, below) in
    let same : slice_index one.bytes (place - header.address) ≡ slice_index other.bytes (place - header.address) =
    is_one.bytes place (here, under) ∙ sym (is_other.bytes place (here, under)) in
    subst (λ (n : ℕ). slice_index one.bytes n ≡ slice_index other.bytes n) at same) in
    let address : one.address ≡ other.address = is_one.address ∙ sym is_other.address in
    let make : ℕ → List ℕ → Segment = λ (a : ℕ) (b : List ℕ). record { address = a; bytes = b } in
    ap (λ (a : ℕ). make a one.bytes) address ∙ ap (make other.address) bytes

-- the first of ascending segments has bytes
pub has_bytes : (first : Segment) (rest : List Segment) → IsTrue (is_ascending (first ∷ rest)) → 0 < length first.bytes
has_bytes first [] ascends = grind (arith, nat_tests)
has_bytes first (second ∷ rest) ascends = grind (arith, nat_tests, common_steps)

-- each later one begins above it
above : (first : Segment) (rest : List Segment) (x : Segment) → IsTrue (is_ascending (first ∷ rest)) → Contains rest x
    → first.address < x.address
above first rest x ascends contained =
    let some : 0 < length first.bytes = has_bytes first rest ascends in
    let P : Segment → Type 0 = λ s. end_of first ≤ s.address in
    let later : end_of first ≤ x.address =
    subst P contained.2 (later_begins first rest ascends contained.0 x contained.1) in
    omega arith

tail_climbs : (first : Segment) (rest : List Segment) → IsTrue (is_climbing (first ∷ rest)) → IsTrue (is_climbing rest)
tail_climbs first [] climbs = refl
tail_climbs first (second ∷ rest) climbs = rest_ascends first second rest climbs

-- what a list holds is its first item or one of the others
cases_cons : (Goal : Type 0) (first x : Segment) (rest : List Segment) → Contains (first ∷ rest) x → (first ≡ x → Goal)
    → (Contains rest x → Goal) → Goal
cases_cons Goal first x rest (zero, below, is) here there = here is
cases_cons Goal first x rest (suc place, below, is) here there = there (place, omega arith, is)

same_first : (one : Segment) (ones : List Segment) (other : Segment) (others : List Segment)
    → IsTrue (is_climbing (one ∷ ones)) → IsTrue (is_climbing (other ∷ others))
    → Contains (other ∷ others) one → Contains (one ∷ ones) other → other ≡ one
same_first one ones other others climbs climbs_other holds_one holds_other =
    cases_cons (other ≡ one) other one others holds_one (λ same. same)
    (λ later. cases_cons (other ≡ one) one other ones holds_other (λ same. sym same)
    (λ other_later.
    let below : other.address < one.address = above other others one climbs_other later in
    let under : one.address < other.address = above one ones other climbs other_later in
    absurd (omega arith)))

-- what both lists hold but their first, the rest of the other list holds
rest_held : (one : Segment) (ones : List Segment) (other : Segment) (others : List Segment)
    → IsTrue (is_climbing (one ∷ ones))
    → other ≡ one → All (Contains (other ∷ others)) (one ∷ ones) → All (Contains others) ones
rest_held one ones other others climbs same held = λ place d below.
    let x : Segment = slice_index_or ones place d in
    cases_cons (Contains others x) other x others (held (suc place) d (omega arith))
    (λ is.
    let apart : end_of one ≤ x.address = later_begins one ones climbs place d below in
    let some : 0 < length one.bytes = has_bytes one ones climbs in
    let address : one.address ≡ x.address = ap (λ (s : Segment). s.address) (sym same ∙ is) in
    absurd (omega arith))
    (λ later. later)

-- two ascending lists that hold the same are the same
same_list : (ones others : List Segment) → IsTrue (is_climbing ones) → IsTrue (is_climbing others)
    → All (Contains others) ones → All (Contains ones) others → ones ≡ others
same_list [] [] climbs climbs_other held held_other = refl
same_list [] (other ∷ others) climbs climbs_other held held_other =
    let none : Contains [] other = held_other zero other (omega arith) in absurd (omega (arith, none.1))
same_list (one ∷ ones) [] climbs climbs_other held held_other =
    let none : Contains [] one = held zero one (omega arith) in absurd (omega (arith, none.1))
same_list (one ∷ ones) (other ∷ others) climbs climbs_other held held_other =
    let same : other ≡ one =
    same_first one ones other others climbs climbs_other (held zero one (omega arith))
    (held_other zero other (omega arith)) in
    let rest : ones ≡ others =
    same_list ones others (tail_climbs one ones climbs) (tail_climbs other others climbs_other)
    (rest_held one ones other others climbs same held)
    (rest_held other others one ones climbs_other (sym same) held_other) in
    ap (λ (s : Segment). s ∷ ones) (sym same) ∙ ap (λ (xs : List Segment). other ∷ xs) rest

climbs_from : (segments : List Segment) → IsTrue (is_ascending segments) → IsTrue (is_climbing segments)
climbs_from [] ascends = refl
climbs_from (first ∷ rest) ascends = ascends

-- each segment of one image is one of the other
held_by : (file : List ℕ) (one other : Picture) → IsImage file one → IsImage file other
    → All (Contains other.segments) one.segments
held_by file one other is_one is_other = λ place d below.
    let x : Segment = slice_index_or one.segments place d in
    let load = is_one.each_is_load place d below in
    let stands = is_other.each_load_stands load.0 load.1 in
    let same : stands.0 ≡ x = same_segment file (header_at file load.0) stands.0 x stands.2 load.2 in
    subst (λ (s : Segment). Contains other.segments s) same stands.1

pub same_image : (file : List ℕ) (one other : Picture) → IsImage file one → IsImage file other → one ≡ other
same_image file one other is_one is_other =
    let base : one.base ≡ other.base = same_base file one.base other.base is_one.base is_other.base in
    let entry : one.entry ≡ other.entry = is_one.entry ∙ sym is_other.entry in
    let segments : one.segments ≡ other.segments =
    same_list one.segments other.segments (climbs_from one.segments is_one.ascends)
    (climbs_from other.segments is_other.ascends)
    (held_by file one other is_one is_other) (held_by file other one is_other is_one) in
    let make : ℕ → ℕ → List Segment → Picture =
    λ (b e : ℕ) (s : List Segment). record { base = b; entry = e; segments = s } in
    ap (λ (b : ℕ). make b one.entry one.segments) base
    ∙ ap (λ (e : ℕ). make other.base e one.segments) entry
    ∙ ap (make other.base other.entry) segments
