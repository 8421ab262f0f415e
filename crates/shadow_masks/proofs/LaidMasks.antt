-- The masks of a piece that are laid over those of a page.
use Rattle.std.proofs.Common.{◌≡◌, inl, inr, ℕ, ◌+◌, ◌-◌, ◌*◌, ◌/◌, ◌%◌, ◌<◌, ◌≤◌, ◌==◌, nat_le, Bool, true, false, List, ◌++◌, length, take, drop, slice_index, slice_index_or, slice_set, Option, None, Result, Ok, Err, OnOk, if◌then◌else◌, refl, sym, ap, ◌∙◌, arith}
use Rattle.std.proofs.lemmas.Bool.{cases_eq, cases_lt, cond-false, cond-true, true≢false}
use Rattle.std.proofs.lemmas.Bool.Decides.{eqb_tells, nat_tests}
use Rattle.std.proofs.lemmas.List.{get_or_append_left, get_or-append_right, get_or-take, get_or-drop, get_or-set_same, get_or-set_other, length-take-le}
use Rattle.shadow_masks.specs.declared.labels.Label.{Label}
use Rattle.shadow_masks.specs.declared.page_points.PagePoints.{PagePoints}
use Rattle.shadow_masks.specs.Labels.{clean}
use Rattle.shadow_masks.specs.Pages.{PageShades, label_in, page_label, point_of, is_in_range}
use Rattle.shadow_masks.specs.Pieces.{LaysMasks, SetsMasks}
use Rattle.shadow_masks.specs.Shades.{AreUnmade, Shades, byte_label, page_at}
use Rattle.shadow_masks.proofs.Pieces.{clean_unmade, label_mask}

-- ---- bytes

laid_below : (at : ℕ) (bytes under : List ℕ) (index : ℕ) → at + length bytes ≤ length under → index < at
    → slice_index (take at under ++ (bytes ++ drop (at + length bytes) under)) index ≡ slice_index under index
laid_below at bytes under index fits below =
    let front : length (take at under) ≡ at = length-take-le at under (omega arith) in
    get_or_append_left (take at under) (bytes ++ drop (at + length bytes) under) 0 index (omega arith)
    ∙ get_or-take at under index 0 below

laid_within : (at : ℕ) (bytes under : List ℕ) (index : ℕ) → at + length bytes ≤ length under → at ≤ index
    → index < at + length bytes
    → slice_index (take at under ++ (bytes ++ drop (at + length bytes) under)) index ≡ slice_index bytes (index - at)
laid_within at bytes under index fits above below =
    let front : length (take at under) ≡ at = length-take-le at under (omega arith) in
    get_or-append_right (take at under) (bytes ++ drop (at + length bytes) under) at index 0 front above
    ∙ get_or_append_left bytes (drop (at + length bytes) under) 0 (index - at) (omega arith)

laid_above : (at : ℕ) (bytes under : List ℕ) (index : ℕ) → at + length bytes ≤ length under
    → at + length bytes ≤ index
    → slice_index (take at under ++ (bytes ++ drop (at + length bytes) under)) index ≡ slice_index under index
laid_above at bytes under index fits above =
    let front : length (take at under) ≡ at = length-take-le at under (omega arith) in
    let same : at + length bytes + (index - at - length bytes) ≡ index = omega arith in
    get_or-append_right (take at under) (bytes ++ drop (at + length bytes) under) at index 0 front (omega arith)
    ∙ get_or-append_right bytes (drop (at + length bytes) under) (length bytes) (index - at) 0 refl (omega arith)
    ∙ get_or-drop (at + length bytes) under (index - at - length bytes) 0
    ∙ ap (λ (n : ℕ). slice_index under n) same

out_of_range : (first count place : ℕ) → ((first ≤ place) → (place < first + count) → ⊥) → is_in_range first count place ≡ false
out_of_range first count place not = elim (cases_lt place first) [
  | inl before ↦ grind (arith, nat_tests)
  | inr from ↦ elim (cases_lt place (first + count)) [
    | inl within ↦ absurd (not from within)
    | inr past ↦ grind (arith, nat_tests)
  ]
]

-- a mask of a page over which a piece was laid
pub laid_mask : (masks bytes new : List ℕ) (points : PagePoints) (first : ℕ) → length bytes ≡ 256
    → first + 256 ≤ length masks → new ≡ take first masks ++ (bytes ++ drop (first + length bytes) masks)
    → LaysMasks first bytes (page_label (record { masks = masks; points = points }))
    (page_label (record { masks = new; points = points }))
laid_mask masks bytes new points first size fits is place below =
    let fits_bytes : first + length bytes ≤ length masks = omega (arith, size) in
    label_mask (slice_index new place) (point_of points place)
    ∙ ap (λ (l : List ℕ). slice_index l place) is
    ∙ elim (cases_lt place first) [
      | inl before ↦
          let out : is_in_range first 256 place ≡ false = grind (arith, nat_tests) in
          laid_below first bytes masks place fits_bytes before
          ∙ sym (label_mask (slice_index masks place) (point_of points place))
          ∙ sym (cond-false (is_in_range first 256 place) _ _ out)
      | inr from ↦ elim (cases_lt place (first + 256)) [
        | inl within ↦
            let in_it : is_in_range first 256 place ≡ true = grind (arith, nat_tests) in
            laid_within first bytes masks place fits_bytes from (omega (arith, size))
            ∙ sym (cond-true (is_in_range first 256 place) _ _ in_it)
        | inr past ↦
            let out : is_in_range first 256 place ≡ false = grind (arith, nat_tests) in
            laid_above first bytes masks place fits_bytes (omega (arith, size))
            ∙ sym (label_mask (slice_index masks place) (point_of points place))
            ∙ sym (cond-false (is_in_range first 256 place) _ _ out)
      ]
    ]

-- a byte of memory in whose page a piece was laid
laid_byte : (number : ℕ) (masks : List ℕ) (pages : List (Option PageShades)) (page : Option PageShades) (index : ℕ)
    → number < 65536 → length pages ≡ 4096
    → LaysMasks (number % 16 * 256) masks (label_in (page_at pages (number / 16))) (label_in page)
    → (label_in (page_at (slice_set pages (number / 16) page) (index / 4096)) (index % 4096)).mask
    ≡ (if index / 256 == number then slice_index masks (index % 256)
    else (label_in (page_at pages (index / 4096)) (index % 4096)).mask)
laid_byte number masks pages page index below size lays = elim (cases_eq (index / 4096) (number / 16)) [
  | inl same ↦
      let within : number / 16 < length pages = omega (arith, below, size) in
      ap (λ (m : ℕ). (label_in (page_at (slice_set pages (number / 16) page) m) (index % 4096)).mask) same
      ∙ ap (λ (p : Option PageShades). (label_in p (index % 4096)).mask) (get_or-set_same pages (number / 16) page None within)
      ∙ lays (index % 4096) (omega arith)
      ∙ elim (eqb_tells (index / 256) number) [
        | inl is ↦
            let from : number % 16 * 256 ≤ index % 4096 = omega (arith, same, is.1) in
            let to : index % 4096 < number % 16 * 256 + 256 = omega (arith, same, is.1) in
            let here : is_in_range (number % 16 * 256) 256 (index % 4096) ≡ true = grind (arith, nat_tests) in
            cond-true (is_in_range (number % 16 * 256) 256 (index % 4096)) _ _ here
            ∙ ap (λ (n : ℕ). slice_index masks n) (omega (arith, same, is.1))
            ∙ sym (cond-true (index / 256 == number) _ _ is.0)
        | inr not ↦
            let out : is_in_range (number % 16 * 256) 256 (index % 4096) ≡ false =
            out_of_range (number % 16 * 256) 256 (index % 4096)
            (λ from to. not.1 (omega (arith, same, from, to))) in
            cond-false (is_in_range (number % 16 * 256) 256 (index % 4096)) _ _ out
            ∙ ap (λ (m : ℕ). (label_in (page_at pages m) (index % 4096)).mask) (sym same)
            ∙ sym (cond-false (index / 256 == number) _ _ not.0)
      ]
  | inr other ↦
      ap (λ (p : Option PageShades). (label_in p (index % 4096)).mask)
      (get_or-set_other pages (number / 16) (index / 4096) page None other)
      ∙ elim (eqb_tells (index / 256) number) [
        | inl is ↦ absurd (other (omega (arith, is.1)))
        | inr not ↦ sym (cond-false (index / 256 == number) _ _ not.0)
      ]
]

-- the masks of memory in one of whose pages a piece was laid
pub piece_laid : (registers kept : List Label) (base number : ℕ) (masks : List ℕ) (pages : List (Option PageShades))
    (page : Option PageShades) → number < 65536 → length pages ≡ 4096
    → LaysMasks (number % 16 * 256) masks (label_in (page_at pages (number / 16))) (label_in page)
    → SetsMasks number masks
    (record { registers = registers; kept = kept; base = base; pages = pages })
    (record { registers = registers; kept = kept; base = base; pages = slice_set pages (number / 16) page })
piece_laid registers kept base number masks pages page below size lays address = elim (cases_lt address base) [
  | inl before ↦
      let out : nat_le base address ≡ false = grind (arith, nat_tests) in rw out refl
  | inr after ↦
      let here : nat_le base address ≡ true = grind (arith, nat_tests) in
      rw here (laid_byte number masks pages page (address - base) below size lays)
]

pub map_ok : {A E : Type 0} {P Q : Type 0} (result : Result A E) → (P → Q) → OnOk result P → OnOk result Q
map_ok (Ok done) step fact = step fact
map_ok (Err error) step fact = tt

-- ---- pages in which labels were set

pub set_unmade : (set : List Bool) (pages : List (Option PageShades)) (n : ℕ) (page : Option PageShades)
    → n < length set → AreUnmade set pages → AreUnmade (slice_set set n true) (slice_set pages n page)
set_unmade set pages n page inside before = λ number unset.
    elim (cases_eq number n) [
      | inl same ↦ absurd (true≢false (sym (get_or-set_same set n true false inside)
          ∙ ap (λ (m : ℕ). slice_index_or (slice_set set n true) m false) (sym same) ∙ unset))
      | inr other ↦
          get_or-set_other pages n number page None other
          ∙ before number (sym (get_or-set_other set n number true false other) ∙ unset)
    ]

pub none_unmade : (set : List Bool) (pages : List (Option PageShades)) → ((number : ℕ) → page_at pages number ≡ None)
    → AreUnmade set pages
none_unmade set pages none = λ number unset. none number

pub clean_unset : (set : List Bool) (shades : Shades) (page : ℕ) → AreUnmade set shades.pages
    → slice_index_or set page false ≡ false → (address : ℕ) → (address - shades.base) / 4096 ≡ page
    → byte_label shades address ≡ clean
clean_unset set shades page unmade unset = clean_unmade shades page (unmade page unset)
