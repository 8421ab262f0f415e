-- The masks of guest memory in pieces.
use Rattle.std.proofs.Common.{◌≡◌, inl, inr, ℕ, ◌+◌, ◌-◌, ◌*◌, ◌/◌, ◌%◌, ◌<◌, ◌≤◌, ◌==◌, ◌&&◌, nat_le, Bool, true, false, List, length, drop, replicate, slice_index, slice_index_or, slice_range, slice_set, Option, None, Result, Ok, Err, OnOk, OnErr, subst, if◌then◌else◌, refl, sym, ap, ◌∙◌, arith}
use Rattle.std.proofs.lemmas.Bool.{cases_lt}
use Rattle.std.proofs.lemmas.Bool.Decides.{eqb_tells, nat_tests}
use Rattle.std.proofs.lemmas.List.{get_or_past, get_or-take, get_or-drop}
use Rattle.flow_base.specs.Guests.{memory_size}
use Rattle.flow_base.specs.declared.points.Point.{Point}
use Rattle.shadow_masks.specs.declared.labels.Label.{Label}
use Rattle.shadow_masks.specs.declared.page_points.PagePoints.{PagePoints}
use Rattle.shadow_masks.specs.Labels.{clean}
use Rattle.shadow_masks.specs.Pages.{PageShades, label_in, label_of, page_label, point_of, is_in_range, SetsFewer}
use Rattle.shadow_masks.specs.Pieces.{listed_mask, SetsMasks}
use Rattle.shadow_masks.specs.Shades.{Shades, byte_label, page_at, IsNew, SetsBytes, SetsFirstPart}
use Rattle.shadow_masks.proofs.Steps.{sets_part_in_page}
use Rattle.shadow_masks.proofs.Zeros.{zero_at}

-- ---- a page

-- a page of zeros is clean
pub zeroed_page : (count : ℕ) (masks : List ℕ) (points : PagePoints) (place : ℕ) → masks ≡ replicate count 0
    → page_label (record { masks = masks; points = points }) place ≡ clean
zeroed_page count masks points place zeros =
    ap (λ mask. label_of mask (point_of points place))
    (ap (λ (items : List ℕ). slice_index items place) zeros ∙ zero_at count place)

pub label_mask : (mask : ℕ) (point : Point) → (label_of mask point).mask ≡ mask
label_mask mask point = elim (eqb_tells mask 0) [
  | inl zero ↦ rw (zero.0) (sym zero.1)
  | inr other ↦ rw (other.0) refl
]

-- the masks of bytes from a place on
pub mask_at : (masks : List ℕ) (points : PagePoints) (place offset : ℕ) → offset < 256
    → slice_index (slice_range masks place (place + 256)) offset
    ≡ (page_label (record { masks = masks; points = points }) (place + offset)).mask
mask_at masks points place offset below =
    get_or-take (place + 256 - place) (drop place masks) offset 0 (omega arith)
    ∙ get_or-drop place masks offset 0
    ∙ sym (label_mask (slice_index masks (place + offset)) (point_of points (place + offset)))

-- ---- bytes

-- a byte of memory whose page was not made is clean
clean_if : (inside : Bool) (label : Label) → label ≡ clean → (if inside then label else clean) ≡ clean
clean_if true label e = e
clean_if false label e = refl

pub clean_in : (shades : Shades) (address : ℕ) → page_at shades.pages ((address - shades.base) / 4096) ≡ None
    → byte_label shades address ≡ clean
clean_in shades address none =
    clean_if (nat_le shades.base address) _ (ap (λ page. label_in page ((address - shades.base) % 4096)) none)

pub clean_unmade : (shades : Shades) (page : ℕ) → page_at shades.pages page ≡ None → (address : ℕ)
    → (address - shades.base) / 4096 ≡ page → byte_label shades address ≡ clean
clean_unmade shades page none address same =
    clean_in shades address (ap (λ number. page_at shades.pages number) same ∙ none)

pub clean_below : (shades : Shades) (address : ℕ) → address < shades.base → byte_label shades address ≡ clean
clean_below shades address below = grind (arith, nat_tests)

pub clean_above : (shades : Shades) (address : ℕ) → length shades.pages ≡ 4096
    → shades.base + memory_size ≤ address → byte_label shades address ≡ clean
clean_above shades address size above =
    clean_in shades address (get_or_past shades.pages ((address - shades.base) / 4096) None (omega arith))

-- with clean registers and clean pages a shadow is new
pub is_cleared : (base : ℕ) (shades : Shades) → shades.base ≡ base
    → ((r : ℕ) → slice_index_or shades.registers r clean ≡ clean) → ((r : ℕ) → slice_index_or shades.kept r clean ≡ clean)
    → ((number place : ℕ) → label_in (page_at shades.pages number) place ≡ clean) → IsNew base shades
is_cleared base shades begins registers kept pages = record {
  registers = registers;
  kept = kept;
  begins = begins;
  bytes = λ a. clean_if (nat_le shades.base a) _ (pages ((a - shades.base) / 4096) ((a - shades.base) % 4096));
}

-- ---- a piece

-- a byte of a piece is one of a page
pub piece_label : (shades : Shades) (number offset : ℕ) → offset < 256
    → byte_label shades (shades.base + number * 256 + offset)
    ≡ label_in (page_at shades.pages (number / 16)) (number % 16 * 256 + offset)
piece_label shades number offset below =
    let page : (shades.base + number * 256 + offset - shades.base) / 4096 ≡ number / 16 = omega arith in
    let place : (shades.base + number * 256 + offset - shades.base) % 4096 ≡ number % 16 * 256 + offset = omega arith in
    let inside : nat_le shades.base (shades.base + number * 256 + offset) ≡ true = grind (arith, nat_tests) in
    rw (inside, page, place) refl

-- whether an address is in a piece
in_piece : (base number address : ℕ)
    → is_in_range (base + number * 256) 256 address ≡ (nat_le base address && ((address - base) / 256 == number))
in_piece base number address = elim (cases_lt address base) [
  | inl before ↦ grind (arith, nat_tests)
  | inr after ↦ elim (eqb_tells ((address - base) / 256) number) [
    | inl same ↦ grind (arith, nat_tests)
    | inr other ↦ grind (arith, nat_tests)
  ]
]

-- a mask of a piece, and one outside it
inside_piece : (number : ℕ) (masks : List ℕ) (old new : Shades) (address : ℕ)
    → SetsBytes (old.base + number * 256) 256 (listed_mask masks) old new
    → (nat_le old.base address && ((address - old.base) / 256 == number)) ≡ true
    → address - (old.base + number * 256) ≡ (address - old.base) % 256
    → (byte_label new address).mask
    ≡ (if nat_le old.base address && ((address - old.base) / 256 == number)
    then slice_index masks ((address - old.base) % 256) else (byte_label old address).mask)
inside_piece number masks old new address sets inside place =
    ap (λ (label : Label). label.mask) (sets.bytes address)
    ∙ ap (λ (t : Bool). (if t then listed_mask masks (address - (old.base + number * 256)) else byte_label old address).mask)
    (in_piece old.base number address ∙ inside)
    ∙ ap (λ (n : ℕ). slice_index masks n) place
    ∙ sym (ap (λ (t : Bool). if t then slice_index masks ((address - old.base) % 256) else (byte_label old address).mask) inside)

outside_piece : (number : ℕ) (masks : List ℕ) (old new : Shades) (address : ℕ)
    → SetsBytes (old.base + number * 256) 256 (listed_mask masks) old new
    → (nat_le old.base address && ((address - old.base) / 256 == number)) ≡ false
    → (byte_label new address).mask
    ≡ (if nat_le old.base address && ((address - old.base) / 256 == number)
    then slice_index masks ((address - old.base) % 256) else (byte_label old address).mask)
outside_piece number masks old new address sets outside =
    ap (λ (label : Label). label.mask) (sets.bytes address)
    ∙ ap (λ (t : Bool). (if t then listed_mask masks (address - (old.base + number * 256)) else byte_label old address).mask)
    (in_piece old.base number address ∙ outside)
    ∙ sym (ap (λ (t : Bool). if t then slice_index masks ((address - old.base) % 256) else (byte_label old address).mask) outside)

before_pieces : (base number address : ℕ) → address < base
    → (nat_le base address && ((address - base) / 256 == number)) ≡ false
before_pieces base number address before = grind (arith, nat_tests)

of_piece : (base number address : ℕ) → base ≤ address → ((address - base) / 256 == number) ≡ true
    → (nat_le base address && ((address - base) / 256 == number)) ≡ true
of_piece base number address after same = grind (arith, nat_tests)

of_other : (base number address : ℕ) → base ≤ address → ((address - base) / 256 == number) ≡ false
    → (nat_le base address && ((address - base) / 256 == number)) ≡ false
of_other base number address after other = grind (arith, nat_tests)

pub masks_set : (number : ℕ) (masks : List ℕ) (old new : Shades)
    → SetsBytes (old.base + number * 256) 256 (listed_mask masks) old new → SetsMasks number masks old new
masks_set number masks old new sets address = elim (cases_lt address old.base) [
  | inl before ↦ outside_piece number masks old new address sets (before_pieces old.base number address before)
  | inr after ↦ elim (eqb_tells ((address - old.base) / 256) number) [
    | inl same ↦ inside_piece number masks old new address sets (of_piece old.base number address after same.0)
        (omega (arith, same.1))
    | inr other ↦ outside_piece number masks old new address sets (of_other old.base number address after other.0)
  ]
]

pub masks_set_on_ok : {A E : Type 0} (result : Result A E) (number : ℕ) (masks : List ℕ) (old new : Shades)
    → OnOk result (SetsBytes (old.base + number * 256) 256 (listed_mask masks) old new)
    → OnOk result (SetsMasks number masks old new)
masks_set_on_ok (Ok done) number masks old new sets = masks_set number masks old new sets
masks_set_on_ok (Err error) number masks old new sets = tt

-- ---- a page that is put in place of another

piece_page : (base number : ℕ) → number / 16 ≡ (base + number * 256 - base) / 4096
piece_page base number = omega arith

piece_place : (base number : ℕ) → number % 16 * 256 ≡ (base + number * 256 - base) % 4096
piece_place base number = omega arith

-- where only some of the masks of a piece are set, a first part of its bytes is
pub part_of_piece :
    (registers kept : List Label) (base number : ℕ) (label : ℕ → Label) (pages : List (Option PageShades))
    (page : Option PageShades) → number < 65536 → length pages ≡ 4096 →
    SetsFewer (number % 16 * 256) 256 label (label_in (page_at pages (number / 16))) (label_in page) →
    SetsFirstPart (base + number * 256) 256 label
    (record { registers = registers; kept = kept; base = base; pages = pages })
    (record { registers = registers; kept = kept; base = base; pages = slice_set pages (number / 16) page })
part_of_piece registers kept base number label pages page below size fewer =
    let first : ℕ = base + number * 256 in
    let at : number / 16 ≡ (first - base) / 4096 = piece_page base number in
    let place : number % 16 * 256 ≡ (first - base) % 4096 = piece_place base number in
    let there : SetsFewer ((first - base) % 4096) 256 label (label_in (page_at pages ((first - base) / 4096))) (label_in page) =
    subst (λ p. SetsFewer p 256 label (label_in (page_at pages ((first - base) / 4096))) (label_in page)) place
    (subst (λ n. SetsFewer (number % 16 * 256) 256 label (label_in (page_at pages n)) (label_in page)) at fewer) in
    subst (λ n. SetsFirstPart first 256 label
    (record { registers = registers; kept = kept; base = base; pages = pages })
    (record { registers = registers; kept = kept; base = base; pages = slice_set pages n page })) (sym at)
    (sets_part_in_page registers kept base first 256 label pages page (omega arith) (omega arith) (omega arith) there)

pub map_err : {A E : Type 0} {P Q : Type 0} (result : Result A E) → (P → Q) → OnErr result P → OnErr result Q
map_err (Ok done) step fact = tt
map_err (Err error) step fact = step fact

-- past the end of a list of labels there is the clean one
pub none_past : (labels : List Label) (register : ℕ) → length labels ≤ register →
    slice_index_or labels register clean ≡ clean
none_past labels register h = get_or_past labels register clean h
