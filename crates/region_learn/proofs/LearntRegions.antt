-- What notes of a whole run declare is the least declaration.
use Rattle.std.proofs.Common.{◌≡◌, ◌∙◌, ◌+◌, ◌≤◌, ◌<◌, ◌==◌, ◌&&◌, not, ℕ, zero, suc, Bool, true, List, [], ◌∷◌, drop, get_or, length, map}
use Rattle.std.proofs.Common.{refl, sym, ap, ap₂, arith}
use Rattle.std.specs.Prelude.{nat_lt}
use Rattle.std.specs.List.{AllByRecursion, filter, list_all}
use Rattle.std.proofs.lemmas.Bool.{and_parts, eqb-true}
use Rattle.std.proofs.lemmas.Grind.{common_steps}
use Rattle.enclosure_regions.specs.declared.region_parts.Range.{Range}
use Rattle.enclosure_regions.specs.declared.region_parts.Region.{Region}
use Rattle.enclosure_regions.specs.declared.break_kinds.Place.TheVariants.{Reg, Byte}
use Rattle.enclosure_regions.specs.Orders.{all_registers}
use Rattle.enclosure_regions.specs.Regions.{ids_of}
use Rattle.region_learn.specs.declared.notes.Notes.{Notes}
use Rattle.region_learn.specs.Private.Books.{BookOf, NotesOf, have_base, numbers_of}
use Rattle.region_learn.specs.Private.Declarations.{DeclareAll, Declares, IsDraft, kept_bit, out_bit}
use Rattle.region_learn.specs.Learnt.{IsLearnt, Learnt, is_kept, is_out}
use Rattle.region_learn.specs.Private.Marks.{has_bit}
use Rattle.region_learn.specs.Private.Spans.{End}
use Rattle.region_learn.specs.Written.{Changed, Run, Written, bare}
use Rattle.region_learn.proofs.RegionRules.{apart, out_not_kept, picked}

all_small : list_all (λ register. nat_lt register 32) all_registers ≡ true
unfolding all_registers
all_small = refl

lt_of : (a b : ℕ) → nat_lt a b ≡ true → a < b
lt_of a b h = grind (arith, common_steps)

filter_same : (first second : ℕ → Bool) (xs : List ℕ) → list_all (λ register. nat_lt register 32) xs ≡ true →
    ((register : ℕ) → register < 32 → first register ≡ second register) → filter first xs ≡ filter second xs
filter_same first second [] small h = refl
filter_same first second (x ∷ xs) small h =
    let parts = and_parts (nat_lt x 32) (list_all (λ register. nat_lt register 32) xs) small in
    rw (h x (lt_of x 32 parts.0), filter_same first second xs parts.1 h) refl

-- notes whose number is that of the region
learnt_of : (run : Run) (region declared : Region) (notes : Notes) → notes.region ≡ declared.id →
    NotesOf run.regions run.turns run.start notes → Declares region notes declared → IsLearnt run declared
learnt_of run region declared notes number of made =
    let written : (register : ℕ) → has_bit notes.written register ≡ Written run declared.id (Reg register) =
    λ register. of.places (Reg register) ∙ ap (λ (n : ℕ). Written run n (Reg register)) number in
    let changed : (register : ℕ) → register < 32 → has_bit notes.changed register ≡ Changed run declared.id register =
    λ register below. of.changed register below ∙ ap (λ (n : ℕ). Changed run n register) number in
    record {
      keep = made.keep ∙ filter_same (kept_bit notes.written notes.changed) (is_kept run declared.id) all_registers
          all_small (λ register below. ap₂ (λ (w c : Bool). w && not c) (written register) (changed register below));
      outs = made.outs ∙ filter_same (out_bit notes.written notes.changed) (is_out run declared.id) all_registers
          all_small (λ register below. ap₂ (λ (w c : Bool). w && c) (written register) (changed register below));
      spread = made.spans.spread;
      bytes = λ address. made.bytes address
          ∙ (of.places (Byte address) ∙ ap (λ (n : ℕ). Written run n (Byte address)) number);
    }

-- ---- lists

pub number_at : (book : List Notes) (regions : List Region) (place : ℕ) (notes : Notes) (region : Region) →
    numbers_of book ≡ ids_of regions → place < length regions →
    (get_or book place notes).region ≡ (get_or regions place region).id
number_at book [] place notes region e below = absurd (omega arith)
number_at [] (first ∷ regions) place notes region e below = let h = ap length e in absurd (omega (arith, h))
number_at (one ∷ book) (first ∷ regions) zero notes region e below = ap (λ (l : List ℕ). get_or l 0 0) e
number_at (one ∷ book) (first ∷ regions) (suc place) notes region e below =
    number_at book regions place notes region (ap (λ (l : List ℕ). drop 1 l) e) (omega arith)

same_bare : (regions declared : List Region) → length declared ≡ length regions →
    ((place : ℕ) (region other : Region) → place < length regions →
    bare (get_or declared place other) ≡ bare (get_or regions place region)) →
    map bare declared ≡ map bare regions
same_bare [] [] count h = refl
same_bare [] (first ∷ declared) count h = absurd (omega (arith, count))
same_bare (first ∷ regions) [] count h = absurd (omega (arith, count))
same_bare (first ∷ regions) (one ∷ declared) count h =
    ap₂ (λ (r : Region) (l : List Region). r ∷ l) (h 0 first one (omega arith))
    (same_bare regions declared (omega (arith, count)) (λ place region other below. h (suc place) region other (omega arith)))

pub all_from : (P : Region → Type 0) (regions : List Region) →
    ((place : ℕ) (none : Region) → place < length regions → P (get_or regions place none)) → AllByRecursion P regions
all_from P [] h = tt
all_from P (region ∷ regions) h =
    (h 0 region (omega arith), all_from P regions (λ place none below. h (suc place) none (omega arith)))

bare_same : (region declared : Region) (notes : Notes) → Declares region notes declared → bare declared ≡ bare region
bare_same region declared notes h = rw (h.id, h.enter, h.leave) refl

pub learnt_all : (run : Run) (book : List Notes) (declared : List Region) (notes : Notes) →
    map bare run.regions ≡ run.regions → length book ≡ length run.regions →
    BookOf run.regions run.turns run.start book → DeclareAll run.regions book declared → Learnt run declared
learnt_all run book declared notes bared count of made = record {
  same = same_bare run.regions declared made.count
      (λ place region other below. bare_same (get_or run.regions place region) (get_or declared place other)
      (get_or book place notes) (made.each place region other notes below)) ∙ bared;
  each = all_from (IsLearnt run) declared (λ place none below.
      let within : place < length run.regions = omega (arith, made.count, below) in
      let one = made.each place none none notes within in
      learnt_of run (get_or run.regions place none) (get_or declared place none) (get_or book place notes)
      (number_at book run.regions place notes none of.numbers within ∙ sym one.id)
      (of.each place notes (omega (arith, count, within))) one);
}

-- ---- drafts

end_more : (limit more : ℕ) (ranges : List Range) → limit ≤ more → End limit ranges → End more ranges
end_more limit more [] le h = tt
end_more limit more (range ∷ ranges) le h =
    let here = h.0 in (omega (arith, here, le), end_more limit more ranges le h.1)

draft_of : (region declared : Region) (notes : Notes) → notes.base + 16777216 ≤ 4294967295 →
    Declares region notes declared → IsDraft declared
draft_of region declared notes room made = record {
  outs = rw made.outs (picked (out_bit notes.written notes.changed));
  keep = rw made.keep (picked (kept_bit notes.written notes.changed));
  apart = rw (made.outs, made.keep)
      (apart (out_bit notes.written notes.changed) (kept_bit notes.written notes.changed)
      (out_not_kept notes.written notes.changed));
  spans = record {
    spread = made.spans.spread;
    end = end_more (notes.base + 16777216) 4294967295 declared.ranges room made.spans.end;
  };
}

pub draft_all_of : (regions : List Region) (book : List Notes) (declared : List Region) (notes : Notes) (base : ℕ) →
    base + 16777216 ≤ 4294967295 → length book ≡ length regions →
    ((place : ℕ) (none : Notes) → place < length book → (get_or book place none).base ≡ base) →
    DeclareAll regions book declared → AllByRecursion IsDraft declared
draft_all_of regions book declared notes base room count low made = all_from IsDraft declared (λ place none below.
    let within : place < length regions = omega (arith, made.count, below) in
    let here : (get_or book place notes).base ≡ base = low place notes (omega (arith, count, within)) in
    draft_of (get_or regions place none) (get_or declared place none) (get_or book place notes)
    (omega (arith, here, room)) (made.each place none none notes within))

-- ---- what is known of a book

pub no_notes : Notes
no_notes = record { region = 0; base = 0; written = 0; changed = 0; bytes = [] }

count_numbers : (book : List Notes) → length (numbers_of book) ≡ length book
count_numbers [] = refl
count_numbers (notes ∷ book) = let e = count_numbers book in omega (arith, e)

count_ids : (regions : List Region) → length (ids_of regions) ≡ length regions
count_ids [] = refl
count_ids (region ∷ regions) = let e = count_ids regions in omega (arith, e)

pub book_count : (book : List Notes) (regions : List Region) → numbers_of book ≡ ids_of regions →
    length book ≡ length regions
book_count book regions e = sym (count_numbers book) ∙ (ap length e ∙ count_ids regions)

pub notes_base : (book : List Notes) (base : ℕ) → have_base book base ≡ true → (place : ℕ) (none : Notes) →
    place < length book → (get_or book place none).base ≡ base
notes_base [] base h place none below = absurd (omega arith)
notes_base (notes ∷ book) base h zero none below =
    eqb-true notes.base base (and_parts (notes.base == base) (have_base book base) h).0
notes_base (notes ∷ book) base h (suc place) none below =
    notes_base book base (and_parts (notes.base == base) (have_base book base) h).1 place none (omega arith)

pub declared_same : (regions : List Region) (book : List Notes) (declared : List Region) →
    map bare regions ≡ regions → DeclareAll regions book declared → map bare declared ≡ regions
declared_same regions book declared bared made =
    same_bare regions declared made.count
    (λ place region other below. bare_same (get_or regions place region) (get_or declared place other)
    (get_or book place no_notes) (made.each place region other no_notes below)) ∙ bared
